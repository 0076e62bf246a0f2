-- `join::names::is_any_named` meets its contract: what is left of the search is what the whole search gives.
use Rattle.file.specs.Rules.Decode.{decode}
use Rattle.join.proofs.NamesLaws.{Asking}
use Rattle.join.proofs.names.is_any_named.Given as goal

abbrev pub invariant-loop-slave : goal.invariant-loop-slave
invariant-loop-slave l = Asking l.first (decode l.second) l.slave
