-- `file::names::is_named_from` meets its contract: what is left of the search is what the whole search gives.
use Rattle.file.specs.Inner.Checked.{names_at}
use Rattle.file.proofs.LookingLaws.{Looking}
use Rattle.file.proofs.names.is_named_from.Given as goal

abbrev pub invariant-loop-slave : goal.invariant-loop-slave
invariant-loop-slave l = Looking l.name (names_at l.file l.places) l.from l.slave
