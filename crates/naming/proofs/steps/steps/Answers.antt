-- `naming::steps::steps` meets its contract: one law for each return.
-- Assumes nothing.
use Rattle.std.proofs.Common.{◌≡◌, Err, rules}
use Rattle.file.specs.Inner.Refusals.{refusal_number}
use Rattle.file.proofs.RefusalLaws.{ground_refuses, ground_some, ground_none}
use Rattle.file.proofs.Surveyed.{survey-placed}
use Rattle.naming.specs.Inner.Steps.{steps_of, run_then}
use Rattle.naming.proofs.StepsLaws.{steps-turned, steps-short, steps_unfit, names-accepted, steps-end}
use Rattle.naming.proofs.steps.steps.Goals as goal

pub returns-in_err-survey : goal.returns-in_err-survey
unfolding steps_of run_then
returns-in_err-survey c =
    let e : c.from_residual.result ≡ Err c.in_err-survey.field-0.0 = search rules in
    rw e (steps-turned _ _ _ _ _ c.survey.ensures c.in_err-survey.was)

pub returns-then-answer-lt-SLOTS : goal.returns-then-answer-lt-SLOTS
unfolding steps_of run_then refusal_number
returns-then-answer-lt-SLOTS c = steps-short _ _ _ _ _ c.survey.ensures c.in_ok-survey.was c.if-answer-lt-SLOTS.true

pub returns-in_err-run_ground : goal.returns-in_err-run_ground
unfolding steps_of run_then
returns-in_err-run_ground c =
    let e : c.from_residual-in_err-run_ground.result ≡ Err c.in_err-run_ground.field-0.0 = search rules in
    rw (e, ← ground_refuses c.in_err-run_ground.was)
    (steps_unfit _ _ _ _ _ c.survey.ensures c.in_ok-survey.was c.if-answer-lt-SLOTS.false c.run_ground.ensures (ground_some c.in_err-run_ground.was))

pub make_steps-requires : goal.make_steps-requires
make_steps-requires c =
    (survey-placed c.survey.ensures c.in_ok-survey.was, c.if-answer-lt-SLOTS.false, names-accepted _ _ c.run_ground.ensures (ground_none c.in_ok-run_ground.was))

pub returns : goal.returns
unfolding steps_of run_then
returns c =
    steps-end _ _ _ _ _ c.survey.ensures c.in_ok-survey.was c.if-answer-lt-SLOTS.false c.run_ground.ensures (ground_none c.in_ok-run_ground.was) c.make_steps.ensures
