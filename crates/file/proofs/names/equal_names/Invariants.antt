-- `file::names::equal_names` meets its contract: the remainders of the names after the slave are kept, and none of these names occurs twice.
use Rattle.file.proofs.NamesLaws.{Compared}
use Rattle.file.proofs.names.equal_names.Given as goal

abbrev pub invariant-loop-slave : goal.invariant-loop-slave
invariant-loop-slave l = Compared l.file l.places l.seen l.slave
