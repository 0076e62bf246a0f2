-- `owner::plan::Planner::plan_round` meets its contract. The invariant is `RoundPlanning`: what is planned of the slaves passed.
use Rattle.std.proofs.Common.{get_or}
use Rattle.file.specs.Rules.Decode.{decode}
use Rattle.owner.specs.Inner.Planned.{RoundPlanning}
use Rattle.owner.proofs.plan.Planner.plan_round.Given as goal

abbrev pub invariant-loop-slave : goal.invariant-loop-slave
invariant-loop-slave l =
    RoundPlanning (decode l.self.file.now).slaves (get_or l.initial.row 0 0) l.round.0 l.row l.plan.senders l.plan.clashes l.plan.multiplexed l.slave
