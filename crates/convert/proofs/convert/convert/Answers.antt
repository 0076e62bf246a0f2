-- `convert::convert::convert` meets its contract: a law for each way.
-- Assumes nothing.
use Rattle.file.proofs.Surveyed.{survey-becomes}
use Rattle.file.specs.Inner.Refusals.{refusal_number, outcome_of}
use Rattle.convert.proofs.EditionLaws.{width-there}
use Rattle.convert.proofs.Calls.{call-refused, call_over, call-short, call_fits, call-written}
use Rattle.std.proofs.Common.{◌≡◌, Err, rules}
use Rattle.convert.proofs.convert.convert.Goals as goal

pub length_in-size-requires : goal.length_in-size-requires
length_in-size-requires c = (survey-becomes c.survey.ensures c.in_ok-survey.was, search (rules, width-there))

pub slave_count-requires : goal.slave_count-requires
slave_count-requires c = survey-becomes c.survey.ensures c.in_ok-survey.was

pub is_over-requires : goal.is_over-requires
is_over-requires c = search (rules, width-there)

pub returns-then-is_over : goal.returns-then-is_over
unfolding outcome_of refusal_number
returns-then-is_over c = search (rules, call_over, c.in_ok-survey.was)

pub returns-then-out-size : goal.returns-then-out-size
unfolding outcome_of refusal_number
returns-then-out-size c = search (rules, call-short, c.in_ok-survey.was)

pub put_file-requires : goal.put_file-requires
put_file-requires c = search (rules, survey-becomes, call_fits, c.in_ok-survey.was)

pub returns-in_err-survey : goal.returns-in_err-survey
unfolding outcome_of
returns-in_err-survey c =
    let e : c.from_residual.result ≡ Err c.in_err-survey.field-0.0 = search rules in
    rw e (call-refused c.survey.ensures _ _ c.in_err-survey.was)

pub returns : goal.returns
unfolding outcome_of
returns c = search (rules, call-written, c.in_ok-survey.was)
