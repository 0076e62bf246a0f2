-- `join::join::join_second` meets its contract: the second file's refusal, or the answer to two accepted files.
-- Assumes nothing.
use Rattle.file.proofs.Surveyed.{survey-placed}
use Rattle.file.specs.Inner.Refusals.{outcome_of}
use Rattle.join.proofs.JoinLaws.{call-second}
use Rattle.std.proofs.Common.{◌≡◌, Err, rules}
use Rattle.join.proofs.join.join_second.Goals as goal

pub join_both-requires : goal.join_both-requires
join_both-requires c = (c.requires, survey-placed c.survey.ensures c.in_ok-survey.was)

pub returns-in_err-survey : goal.returns-in_err-survey
unfolding outcome_of
returns-in_err-survey c =
    let e : c.from_residual.result ≡ Err c.in_err-survey.field-0.0 = search rules in
    rw e (call-second _ c.requires c.survey.ensures c.in_err-survey.was)
