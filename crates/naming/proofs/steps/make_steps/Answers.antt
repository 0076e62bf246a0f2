-- `naming::steps::make_steps` meets its contract. The invariant is `Stepping`: those that are left, of the steps so far, are all of them from
-- the start.
-- Assumes nothing.
use Rattle.std.proofs.Common.{◌^◌, ◌<◌, ◌≡◌, ◌∙◌, arith, rules}
use Rattle.file.proofs.SurveyLaws.{bytes-known}
use Rattle.naming.specs.Rules.Pass.{bits}
use Rattle.naming.specs.Rules.Steps.{begun}
use Rattle.naming.proofs.StepsLaws.{stepping-start, stepping_goes, stepping_stop, stepping-next, stepping-done}
use Rattle.naming.proofs.steps.make_steps.Goals as goal
use Rattle.naming.proofs.steps.make_steps.Goals.{After-make_step-made}

made-small : (stepped : After-make_step-made) → stepped.make_step-made.result.run.place.value < 2 ^ bits
made-small stepped = omega (arith, stepped.make_step-made.type_inv)

pub loop-steps-init : goal.loop-steps-init
unfolding begun
loop-steps-init c = search (rules, stepping-start)

pub returns-then-is_over : goal.returns-then-is_over
returns-then-is_over c =
    record { is = stepping_stop c.loop-steps.invariant.0 c.is_over.ensures c.if-is_over.true; placed = c.loop-steps.invariant.0.placed }

pub make_step-made-requires : goal.make_step-made-requires
make_step-made-requires c =
    (c.loop-steps.invariant.0.placed, stepping_goes c.loop-steps.invariant.0 c.is_over.ensures c.if-is_over.false)

pub loop-steps-preserved : goal.loop-steps-preserved
loop-steps-preserved c =
    let bytes = bytes-known c.args.names.now (λ k. omega (arith, c.type_inv.names k)) in
    let inv = c.loop-steps.invariant in (
      stepping-next inv.0 c.is_over.ensures c.if-is_over.false c.loop-steps-test.true c.make_step-made.ensures bytes inv.3
          (omega (arith, c.make_step-made.auto.answer, inv.2, inv.0.long)),
      c.make_step-made.auto.file ∙ inv.1,
      omega (arith, c.make_step-made.auto.answer, inv.2),
      made-small (goal.at.loop-steps-preserved c).After-make_step-made,
    )

pub returns : goal.returns
returns c =
    let inv = c.loop-steps.invariant.0 in
    let all : c.loop-steps.steps ≡ c.args.most = omega (arith, inv.few, c.loop-steps-test.false) in
    record { is = rw all at (stepping-done inv c.loop-steps-test.false); placed = inv.placed }
