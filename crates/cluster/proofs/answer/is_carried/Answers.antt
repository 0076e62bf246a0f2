-- `cluster::answer::is_carried` meets its contract: by cases.
-- Assumes nothing.
use Rattle.cluster.specs.Inner.Unheard.{is_done}
use Rattle.std.proofs.Common.{ℕ, ◌≡◌, refl, Ok, Err, rules}
use Rattle.std.specs.Result.{is_ok}
use Rattle.file.specs.Inner.Refusals.{Answered, outcome_of}
use Rattle.cluster.proofs.answer.is_carried.Goals as goal

by_case : (a : Answered ℕ) → is_ok a ≡ is_done (outcome_of a)
unfolding is_done outcome_of
by_case (Ok mask) = refl
by_case (Err why) = refl

pub returns : goal.returns
returns c = search (rules, by_case)
