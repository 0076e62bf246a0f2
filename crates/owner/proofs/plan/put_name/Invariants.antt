-- `owner::plan::put_name` meets its contract: what is left of the mask has the slots that are still to be named.
use Rattle.owner.proofs.SlavePlan.{Putting}
use Rattle.owner.proofs.plan.put_name.Given as goal

abbrev pub invariant-loop-rest : goal.invariant-loop-rest
invariant-loop-rest l = Putting l.initial.row l.row l.mask l.name.0 l.rest

abbrev pub decreases-loop-rest : goal.decreases-loop-rest
decreases-loop-rest l = l.rest
