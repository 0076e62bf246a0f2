-- `naming::run::step` meets its contract: one law for each return.
-- Assumes nothing.
use Rattle.std.proofs.Common.{◌≡◌, Err, rules}
use Rattle.naming.specs.Inner.StepAnswers.{stepped_of, run_after}
use Rattle.file.proofs.Surveyed.{survey-placed}
use Rattle.naming.proofs.StepCode.{step-turned}
use Rattle.naming.proofs.run.step.Goals as goal

pub returns-in_err-survey : goal.returns-in_err-survey
unfolding stepped_of run_after
returns-in_err-survey c =
    let e : c.from_residual.result ≡ Err c.in_err-survey.field-0.0 = search rules in
    rw e (step-turned _ _ _ _ c.survey.ensures c.in_err-survey.was)

pub step_on-requires : goal.step_on-requires
step_on-requires c = survey-placed c.survey.ensures c.in_ok-survey.was
