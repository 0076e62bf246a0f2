-- `join::names::mark_remainders` meets its contract: the remainders of the slaves so far are marked, from the last on.
use Rattle.file.specs.Rules.Decode.{decode}
use Rattle.join.specs.Inner.Names.{remainder_of}
use Rattle.join.proofs.MarkLaws.{Marking}
use Rattle.join.proofs.names.mark_remainders.Given as goal

abbrev pub invariant-loop-slave : goal.invariant-loop-slave
invariant-loop-slave l = Marking remainder_of (decode l.file) 256 l.seen l.slave
