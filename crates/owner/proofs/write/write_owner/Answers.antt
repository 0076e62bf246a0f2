-- `owner::write::write_owner` meets its contract: a law for each way.
-- Assumes nothing.
use Rattle.std.proofs.Common.{◌≡◌, refl, Err, rules}
use Rattle.file.proofs.Surveyed.{survey-placed}
use Rattle.file.specs.Inner.Refusals.{refusal_number, outcome_of}
use Rattle.owner.proofs.Calls.{written-size, written-fits, call-refused, call_multiplexed, call_clash, call-short, call-written}
use Rattle.owner.proofs.write.write_owner.Goals as goal

pub write_rounds-written-requires : goal.write_rounds-written-requires
write_rounds-written-requires c =
    (survey-placed c.survey.ensures c.in_ok-survey.was, refl, refl)

pub returns-then-written : goal.returns-then-written
unfolding outcome_of refusal_number
returns-then-written c = search (rules, call_multiplexed, c.in_ok-survey.was)

pub returns-then-written-2 : goal.returns-then-written-2
unfolding outcome_of refusal_number
returns-then-written-2 c = search (rules, call_clash, c.in_ok-survey.was)

pub returns-then-buffer-end : goal.returns-then-buffer-end
unfolding outcome_of refusal_number
returns-then-buffer-end c = search (rules, call-short, c.in_ok-survey.was)

pub slice_bounds-put_file-end : goal.slice_bounds-put_file-end
slice_bounds-put_file-end c = search (rules, written-size, c.in_ok-survey.was)

pub put_file-requires : goal.put_file-requires
put_file-requires c = search (rules, written-fits, c.in_ok-survey.was)

pub returns-in_err-survey : goal.returns-in_err-survey
unfolding outcome_of refusal_number
returns-in_err-survey c =
    let e : c.from_residual.result ≡ Err c.in_err-survey.field-0.0 = search rules in
    rw e (search (rules, call-refused, c.in_err-survey.was))

pub returns : goal.returns
unfolding outcome_of refusal_number
returns c = search (rules, call-written, c.in_ok-survey.was)
