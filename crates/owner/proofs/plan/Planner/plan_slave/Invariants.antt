-- `owner::plan::Planner::plan_slave` meets its contract. The invariant is `Working`.
use Rattle.std.proofs.Common.{◌-◌}
use Rattle.owner.proofs.SlavePlan.{Working}
use Rattle.owner.proofs.plan.Planner.plan_slave.Given as goal

abbrev pub invariant-loop-at : goal.invariant-loop-at
invariant-loop-at l = Working l.self.file.now l.slave l.initial.at l.end l.plan l.at

abbrev pub decreases-loop-at : goal.decreases-loop-at
decreases-loop-at l = l.end - l.at
