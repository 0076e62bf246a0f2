-- `listing_text::run::all_steps` meets its contract: what is left of the run is the whole run.
-- Assumes nothing.
use Rattle.std.proofs.Common.{◌-◌, ◌^◌, ◌≤◌, ◌<◌, refl, arith}
use Rattle.naming.specs.Rules.Pass.{bits}
use Rattle.listing_text.proofs.ListLaws.{going_start, going_done, going_next}
use Rattle.listing_text.proofs.BatchLaws.{all-accepted, batch_few, batch_going, batch-over, some_left, step-placed}
use Rattle.listing_text.proofs.run.all_steps.Goals as goal
use Rattle.listing_text.proofs.run.all_steps.Goals.{After-make_steps-made, After-moved_to-state, Else-is_over}

few : (steps : After-make_steps-made) → steps.make_steps-made.result.steps ≤ steps.loop-left.left
few steps = batch_few steps.loop-left.invariant.0 steps.requires.0 steps.make_steps-made.ensures

left-some : (way : Else-is_over) → 1 ≤ way.loop-left.left - way.make_steps-made.result.steps
left-some way = some_left _ _ way.is_over.ensures way.if-is_over.false

moved-small : (moved : After-moved_to-state) → moved.moved_to-state.result.run.place.value < 2 ^ bits
moved-small moved = omega (arith, moved.moved_to-state.type_inv)

pub loop-left-init : goal.loop-left-init
loop-left-init c = (going_start _ _ _ _ _ c.requires.1, refl, refl, c.requires.2)

pub make_steps-made-requires : goal.make_steps-made-requires
make_steps-made-requires c =
    (c.loop-left.invariant.3, omega (arith, c.requires.3, c.loop-left.invariant.2), all-accepted c.requires.0)

pub overflow_sub-left : goal.overflow_sub-left
overflow_sub-left c = few (goal.at.overflow_sub-left c).After-make_steps-made

pub shape_of-text-then-is_over : goal.shape_of-text-then-is_over
shape_of-text-then-is_over c = c.loop-left.invariant.0.same

pub returns-then-is_over : goal.returns-then-is_over
returns-then-is_over c =
    batch-over c.loop-left.invariant.0 c.requires.0 c.make_steps-made.ensures c.moved_to-state.ensures c.is_over.ensures c.if-is_over.true

pub one_step-state-requires : goal.one_step-state-requires
one_step-state-requires c = (
  c.requires.0,
  (batch_going c.loop-left.invariant.0 c.requires.0 c.make_steps-made.ensures c.moved_to-state.ensures).room,
  c.make_steps-made.ensures.placed,
)

pub overflow_sub-left-in-loop-left : goal.overflow_sub-left-in-loop-left
overflow_sub-left-in-loop-left c = left-some (goal.at.overflow_sub-left-in-loop-left c).Else-is_over

pub loop-left-smaller : goal.loop-left-smaller
loop-left-smaller c = omega (arith, left-some (goal.at.loop-left-smaller c).Else-is_over)

pub loop-left-preserved : goal.loop-left-preserved
loop-left-preserved c =
    let at = goal.at.loop-left-preserved c in
    let inv = c.loop-left.invariant in (
      going_next (batch_going inv.0 c.requires.0 c.make_steps-made.ensures c.moved_to-state.ensures) (left-some at.Else-is_over) c.one_step-state.ensures,
      omega (arith, c.make_steps-made.auto.file, c.one_step-state.auto.file, inv.1),
      omega (arith, c.make_steps-made.auto.answer, c.one_step-state.auto.answer, inv.2),
      step-placed c.moved_to-state.result _ _ _ c.make_steps-made.ensures.placed (moved-small at.After-moved_to-state) c.one_step-state.ensures,
    )

pub returns : goal.returns
returns c = search going_done
