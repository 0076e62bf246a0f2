-- `join::names::mark_names` meets its contract: the names of the slaves so far are marked, from the last on.
use Rattle.file.specs.Rules.Cluster.{logical_name}
use Rattle.file.specs.Rules.Decode.{decode}
use Rattle.join.proofs.MarkLaws.{Marking}
use Rattle.join.proofs.names.mark_names.Given as goal

abbrev pub invariant-loop-slave : goal.invariant-loop-slave
invariant-loop-slave l = Marking logical_name (decode l.file) 256 l.held l.slave
