-- `owner::held::mark_rounds` meets its contract. The invariant is `Marking`.
use Rattle.std.proofs.Common.{◌-◌}
use Rattle.owner.proofs.HeldLaws.{Marking}
use Rattle.owner.proofs.held.mark_rounds.Given as goal

abbrev pub invariant-loop-entry : goal.invariant-loop-entry
invariant-loop-entry l = Marking l.width l.file l.directory l.count l.marks l.entry

abbrev pub decreases-loop-entry : goal.decreases-loop-entry
decreases-loop-entry l = l.end - l.entry
