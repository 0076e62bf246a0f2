-- No two answers to a frame, and to a data frame, are taken to the same: the maps of `specs/Inner/RoundAnswers.antt` can be undone.
-- Assumes nothing.
use Prim.Native.Nat.{ℕ}
use mathlib.Core.Path.{◌≡◌, refl, sym, ◌∙◌, ap}
use mathlib.Core.List.{List}
use lib.ListN.{get_or}
use Rattle.file.specs.Rules.Results.{Result, refused, done}
use Rattle.cluster.specs.Rules.Round.{Answer}
use Rattle.cluster.specs.Inner.RoundAnswers.{data_read}
use Rattle.master_slave.specs.declared.types.DataBytes.{DataBytes}
use Rattle.file.specs.Inner.Refusals.{Answered, refusal_number, outcome_of}
use Rattle.std.specs.Prelude.{Ok, Err}
use Rattle.file.proofs.Distinct.{refusal_in, refusal_back}

-- the data of four bytes
data_of : List ℕ → DataBytes
data_of l = record { b0 = get_or l 0 0; b1 = get_or l 1 0; b2 = get_or l 2 0; b3 = get_or l 3 0 }

reading : Result (List ℕ) → (Answered DataBytes)
reading (refused n) = Err (refusal_in n)
reading (done l) = Ok (data_of l)

reading-back : (r : Answered DataBytes) → reading (data_read r) ≡ r
unfolding reading data_read data_of
reading-back (Err why) = ap Err (refusal_back why)
reading-back (Ok d) = refl

pub readings_distinct : (a b : Answered DataBytes) → data_read a ≡ data_read b → a ≡ b
readings_distinct a b h = sym (reading-back a) ∙ (ap reading h ∙ reading-back b)
