-- No two answers of a call are taken to the same: the maps of `specs/Inner/SummaryAnswers.antt` can be undone.
-- Assumes nothing.
use Prim.Native.Nat.{ℕ}
use mathlib.Core.Path.{◌≡◌, refl, sym, ◌∙◌, ap}
use Rattle.file.specs.Rules.Results.{Result, refused, done}
use Rattle.cluster.specs.Rules.Summary.{Held, nobody, at}
use Rattle.summary.specs.Inner.SummaryAnswers.{holder_of}
use Rattle.file.specs.Inner.Refusals.{Answered}
use Rattle.std.specs.Prelude.{Ok, Err, Option, Some, None}
use Rattle.file.proofs.Distinct.{refusal_in, refusal_back}

holder : Result Held → (Answered (Option ℕ))
holder (refused n) = Err (refusal_in n)
holder (done nobody) = (Ok None)
holder (done (at place)) = Ok (Some place)

holder-back : (a : Answered (Option ℕ)) → holder (holder_of a) ≡ a
unfolding holder holder_of
holder-back (Err why) = ap Err (refusal_back why)
holder-back (Ok (Some place)) = refl
holder-back (Ok None) = refl

pub holders_distinct : (a b : Answered (Option ℕ)) → holder_of a ≡ holder_of b → a ≡ b
holders_distinct a b h = sym (holder-back a) ∙ (ap holder h ∙ holder-back b)
