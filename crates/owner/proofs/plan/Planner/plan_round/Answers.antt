-- `owner::plan::Planner::plan_round` meets its contract. The invariant is `RoundPlanning`: what is planned of the slaves passed.
-- Assumes nothing.
use Rattle.std.proofs.Common.{ℕ, ◌<◌, ◌≡◌, sym, ap, ◌∙◌, arith, length, get_or-set_same}
use lib.ListN.{length-replicate}
use Rattle.file.specs.Rules.Decode.{decode}
use Rattle.owner.proofs.PlannerLaws.{planned-file}
use Rattle.owner.proofs.RoundLaws.{round-start, turn_added, turn_skipped, round-done}
use Rattle.owner.proofs.plan.Planner.plan_round.Goals as goal
use Rattle.owner.proofs.plan.Planner.plan_round.Goals.{then-self-slave-eq1, else-self-slave-eq1}
use Rattle.owner.proofs.plan.Planner.plan_round.Goals.{Start}

-- the row at the start has all slots
room : (c : Start) → length c.args.row.now ≡ 64
room c = ap length c.requires.1 ∙ length-replicate {A = ℕ} 64 0

pub bounds-row-0 : goal.bounds-row-0
bounds-row-0 c = omega (arith, room (goal.at.bounds-row-0 c).Start)

pub loop-slave-init : goal.loop-slave-init
loop-slave-init c =
    round-start (decode c.args.self.now.file.now).slaves c.args.round.0 c.args.row.now c.args.self.now.master.0 c.requires.1

pub slave_count-count-requires : goal.slave_count-count-requires
slave_count-count-requires c = planned-file c.args.self.now.known

pub bounds-self-slave : goal.bounds-self-slave
bounds-self-slave c =
    omega (arith, c.slave_count-count.ensures, c.args.self.now.known.holding.room)

pub overflow_shr-self : goal.overflow_shr-self
overflow_shr-self c = c.requires.0

pub add_slave-plan-requires : goal.add_slave-plan-requires
add_slave-plan-requires c =
    (omega (arith, c.slave_count-count.ensures), c.loop-slave.invariant.planned.room)

pub loop-slave-preserved : goal.loop-slave-preserved
loop-slave-preserved c =
    let inv = c.loop-slave.invariant in
    let more : c.loop-slave.slave < length (decode c.args.self.now.file.now).slaves = omega (arith, c.slave_count-count.ensures) in
    elim c.if-self-slave-eq1.branch [
      | then-self-slave-eq1 w ↦ turn_added inv w.add_slave-plan.ensures w.row-is w.plan-is
      | else-self-slave-eq1 w ↦ turn_skipped (decode c.args.self.now.file.now) inv c.args.self.now.known.holding more c.requires.0 w.if-self-slave-eq1.false w.row-is w.plan-is
    ]

pub shape_of-row : goal.shape_of-row
shape_of-row c = c.loop-slave.invariant.planned.room ∙ sym (room (goal.at.shape_of-row c).Start)

pub returns : goal.returns
returns c =
    round-done c.loop-slave.invariant (omega (arith, c.slave_count-count.ensures))
    (sym (get_or-set_same c.args.row.now 0 c.args.self.now.master.0 0 (omega (arith, room (goal.at.returns c).Start))))
