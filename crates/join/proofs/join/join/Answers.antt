-- `join::join::join` meets its contract: the first file's refusal, or the answer to an accepted one.
-- Assumes nothing.
use Rattle.file.proofs.Surveyed.{survey-placed}
use Rattle.file.specs.Inner.Refusals.{outcome_of}
use Rattle.join.proofs.JoinLaws.{call-first}
use Rattle.std.proofs.Common.{◌≡◌, Err, rules}
use Rattle.join.proofs.join.join.Goals as goal

pub join_second-requires : goal.join_second-requires
join_second-requires c = survey-placed c.survey.ensures c.in_ok-survey.was

pub returns-in_err-survey : goal.returns-in_err-survey
unfolding outcome_of
returns-in_err-survey c =
    let e : c.from_residual.result ≡ Err c.in_err-survey.field-0.0 = search rules in
    rw e (call-first _ _ c.survey.ensures c.in_err-survey.was)
