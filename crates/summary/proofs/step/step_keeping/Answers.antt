-- `summary::step::step_keeping` meets its contract: a law for each return.
-- Assumes nothing.
use Rattle.file.proofs.Surveyed.{survey-placed}
use Rattle.naming.specs.Inner.StepAnswers.{stepped_of, run_after}
use Rattle.summary.proofs.RoundLaws.{names-fit}
use Rattle.summary.proofs.StepLaws.{stepping_refused, stepping_wrong, stepping-kept}
use Rattle.std.proofs.Common.{◌≡◌, Err, rules}
use Rattle.file.specs.Inner.Refusals.{refusal_number}
use Rattle.summary.proofs.step.step_keeping.Goals as goal

pub returns-in_err-survey : goal.returns-in_err-survey
unfolding stepped_of run_after refusal_number
returns-in_err-survey c =
    let e : c.from_residual.result ≡ Err c.in_err-survey.field-0.0 = search rules in
    rw e (stepping_refused _ _ _ _ _ _ c.survey.ensures c.in_err-survey.was)

pub is_wrong-requires : goal.is_wrong-requires
is_wrong-requires c =
    survey-placed c.survey.ensures c.in_ok-survey.was

pub returns-then-is_wrong : goal.returns-then-is_wrong
unfolding stepped_of run_after refusal_number
returns-then-is_wrong c =
    stepping_wrong _ _ _ _ _ _ c.survey.ensures c.in_ok-survey.was c.is_wrong.ensures c.if-is_wrong.true

pub keep_step-requires : goal.keep_step-requires
keep_step-requires c =
    (survey-placed c.survey.ensures c.in_ok-survey.was, names-fit _ _ _ c.is_wrong.ensures c.if-is_wrong.false)

pub returns : goal.returns
returns c =
    stepping-kept _ _ _ _ _ _ c.survey.ensures c.in_ok-survey.was c.is_wrong.ensures c.if-is_wrong.false c.keep_step.ensures
