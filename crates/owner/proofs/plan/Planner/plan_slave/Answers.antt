-- `owner::plan::Planner::plan_slave` meets its contract. The invariant is `Working`.
-- Assumes nothing.
use Rattle.std.proofs.Common.{arith, rules}
use Rattle.owner.proofs.EntryMasks.{single_there}
use Rattle.owner.proofs.PlannerLaws.{planned-file, planned-placed}
use Rattle.owner.proofs.SlavePlan.{working_start, working_done, working_within, working_low, working_entry, working_end, working_single, working_other}
use Rattle.owner.proofs.plan.Planner.plan_slave.Goals as goal
use Rattle.owner.proofs.plan.Planner.plan_slave.Goals.{then-is_single, else-is_single+else-is_end}

pub planned_file-found-requires : goal.planned_file-found-requires
planned_file-found-requires c = (planned-placed c.args.self.now.known, c.requires)

pub loop-at-init : goal.loop-at-init
loop-at-init c = working_start _ _ _ _ (planned-file c.args.self.now.known) (omega arith)

pub overflow_add-kind : goal.overflow_add-kind
overflow_add-kind c = omega (arith, working_low c.loop-at.invariant c.planned_file-found.ensures c.loop-at-test.true)

pub bounds-file-at : goal.bounds-file-at
bounds-file-at c =
    omega (arith, working_within c.loop-at.invariant c.planned_file-found.ensures c.loop-at-test.true)

pub with_slot-plan-requires : goal.with_slot-plan-requires
with_slot-plan-requires c =
    (working_entry c.loop-at.invariant c.planned_file-found.ensures c.loop-at-test.true (planned-file c.args.self.now.known) c.requires, search (rules, single_there))

pub returns-then-is_end : goal.returns-then-is_end
returns-then-is_end c = search (rules, working_end)

pub with_slots-plan-requires : goal.with_slots-plan-requires
with_slots-plan-requires c =
    working_entry c.loop-at.invariant c.planned_file-found.ensures c.loop-at-test.true (planned-file c.args.self.now.known) c.requires

pub overflow_add-at : goal.overflow_add-at
overflow_add-at c =
    omega (arith, working_low c.loop-at.invariant c.planned_file-found.ensures c.loop-at-test.true)

pub loop-at-preserved : goal.loop-at-preserved
loop-at-preserved c =
    elim c.if-is_single.branch [ then-is_single w ↦ search (rules, working_single) | else-is_single+else-is_end w ↦ search (rules, working_other) ]

pub returns : goal.returns
returns c = search (rules, working_done)
