-- `file::held::is_seen_twice` meets its contract: the marks are those of the names held from the slave on, and none of these occurs twice.
use Rattle.file.specs.Rules.Cluster.{logical_names}
use Rattle.file.specs.Rules.Decode.{decode}
use Rattle.file.proofs.HeldLaws.{NamesSeen}
use Rattle.file.proofs.held.is_seen_twice.Given as goal

abbrev pub invariant-loop-slave : goal.invariant-loop-slave
invariant-loop-slave l = NamesSeen (logical_names (decode l.file)) l.seen l.slave
