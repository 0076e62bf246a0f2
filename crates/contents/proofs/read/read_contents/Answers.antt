-- `contents::read::read_contents` meets its contract: a law for each way.
-- Assumes nothing.
use Rattle.file.proofs.Surveyed.{survey-becomes}
use Rattle.file.specs.Inner.Refusals.{outcome_of}
use Rattle.contents.proofs.Calls.{call-refused, call_past, call_missing, call-within, call-read}
use Rattle.std.proofs.Common.{◌≡◌, Err, rules}
use Rattle.contents.proofs.read.read_contents.Goals as goal

pub slave_count-requires : goal.slave_count-requires
slave_count-requires c = survey-becomes c.survey.ensures c.in_ok-survey.was

pub returns-then-slave_count-slave : goal.returns-then-slave_count-slave
unfolding outcome_of
returns-then-slave_count-slave c = search (rules, call_past, c.in_ok-survey.was)

pub find_file-requires : goal.find_file-requires
find_file-requires c = (survey-becomes c.survey.ensures c.in_ok-survey.was, search rules)

pub returns-in_default : goal.returns-in_default
unfolding outcome_of
returns-in_default c = search (rules, call_missing, c.in_ok-survey.was)

pub put_front-requires : goal.put_front-requires
put_front-requires c = search (rules, call-within, c.in_ok-survey.was)

pub returns-in_err-survey : goal.returns-in_err-survey
unfolding outcome_of
returns-in_err-survey c =
    let e : c.from_residual.result ≡ Err c.in_err-survey.field-0.0 = search rules in
    rw e (call-refused c.survey.ensures _ _ _ c.in_err-survey.was)

pub returns : goal.returns
unfolding outcome_of
returns c = search (rules, call-read, c.in_ok-survey.was)
