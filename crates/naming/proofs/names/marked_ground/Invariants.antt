-- `naming::names::marked_ground` meets its contract: the marks are those of the names from the place on.
use Rattle.naming.proofs.NameLaws.{Listed}
use Rattle.naming.proofs.names.marked_ground.Given as goal

abbrev pub invariant-loop-i : goal.invariant-loop-i
invariant-loop-i l = Listed l.names l.seen l.twice l.i
