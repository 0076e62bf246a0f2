-- `file::survey::is_missing` meets its contract: what was found so far, or is left of the search, is what the whole search gives.
use Rattle.file.proofs.LookingLaws.{Gathering}
use Rattle.file.proofs.survey.is_missing.Given as goal

abbrev pub invariant-loop-place : goal.invariant-loop-place
invariant-loop-place l = Gathering 0 l.places l.missing l.place-index
