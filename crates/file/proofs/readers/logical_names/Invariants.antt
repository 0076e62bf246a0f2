-- `file::readers::logical_names` meets its contract: the names of the slaves looked at stand in front.
use Rattle.file.specs.Rules.Decode.{decode}
use Rattle.file.proofs.NameReadLaws.{NamesPut}
use Rattle.file.proofs.readers.logical_names.Given as goal

abbrev pub invariant-loop-slave : goal.invariant-loop-slave
invariant-loop-slave l = NamesPut (decode l.file) l.initial.names l.names l.slave
