-- `file::survey::check` meets its contract: the survey's ground, then 22.
-- Assumes nothing.
use Rattle.std.proofs.Common.{◌≡◌, Err, rules}
use Rattle.file.specs.Inner.Refusals.{refusal_number, outcome_of}
use Rattle.file.proofs.Surveyed.{survey-placed, check_surveyed, check_equal, check_accepts}
use Rattle.file.proofs.survey.check.Goals as goal

pub returns-in_err-survey : goal.returns-in_err-survey
unfolding outcome_of refusal_number
returns-in_err-survey c =
    let e : c.from_residual.result ≡ Err c.in_err-survey.field-0.0 = search rules in
    rw e (check_surveyed c.survey.ensures c.in_err-survey.was)

pub is_held_twice-requires : goal.is_held_twice-requires
is_held_twice-requires c = survey-placed c.survey.ensures c.in_ok-survey.was

pub returns-then-is_held_twice : goal.returns-then-is_held_twice
unfolding outcome_of refusal_number
returns-then-is_held_twice c = check_equal c.survey.ensures c.in_ok-survey.was c.is_held_twice.ensures c.if-is_held_twice.true

pub returns : goal.returns
unfolding outcome_of refusal_number
returns c = check_accepts c.survey.ensures c.in_ok-survey.was c.is_held_twice.ensures c.if-is_held_twice.false
