-- `naming::run::step_on` meets its contract: one law for each return.
-- Assumes nothing.
use Rattle.std.proofs.Common.{◌≡◌, Err, rules}
use Rattle.file.specs.Inner.Refusals.{refusal_number}
use Rattle.file.proofs.RefusalLaws.{ground_refuses, ground_some, ground_none}
use Rattle.naming.specs.Inner.StepAnswers.{stepped_of, run_after}
use Rattle.naming.proofs.StepCode.{step-short, step_unfit, step_over, step_ready, step_goes}
use Rattle.naming.proofs.run.step_on.Goals as goal

pub returns-then-answer-lt-SLOTS : goal.returns-then-answer-lt-SLOTS
unfolding stepped_of run_after refusal_number
returns-then-answer-lt-SLOTS c = search step-short

pub returns-in_err-run_ground : goal.returns-in_err-run_ground
unfolding stepped_of run_after
returns-in_err-run_ground c =
    let e : c.from_residual.result ≡ Err c.in_err-run_ground.field-0.0 = search rules in
    rw (e, ← ground_refuses c.in_err-run_ground.was)
    (step_unfit _ _ _ _ c.requires c.if-answer-lt-SLOTS.false c.run_ground.ensures (ground_some c.in_err-run_ground.was))

pub returns-then-run-ne-RUNNING : goal.returns-then-run-ne-RUNNING
unfolding stepped_of run_after
returns-then-run-ne-RUNNING c =
    step_over _ _ _ _ c.requires c.if-answer-lt-SLOTS.false c.run_ground.ensures (ground_none c.in_ok-run_ground.was) c.if-run-ne-RUNNING.true

pub make_step-requires : goal.make_step-requires
make_step-requires c = search (rules, step_ready, ground_none c.in_ok-run_ground.was)

pub returns : goal.returns
unfolding stepped_of run_after
returns c =
    step_goes _ _ _ _ c.requires c.if-answer-lt-SLOTS.false c.run_ground.ensures (ground_none c.in_ok-run_ground.was) c.if-run-ne-RUNNING.false
    c.make_step.ensures
