-- `summary::fill::fill` meets its contract: a law for each way.
-- Assumes nothing.
use Rattle.std.proofs.Common.{◌≡◌, Err, rules}
use Rattle.file.proofs.Surveyed.{survey-becomes, survey-placed}
use Rattle.file.specs.Inner.Refusals.{refusal_number, outcome_of}
use Rattle.summary.proofs.FillLaws.{fill-refused, fill-short, fill_done}
use Rattle.summary.proofs.fill.fill.Goals as goal

pub returns-in_err-survey : goal.returns-in_err-survey
unfolding outcome_of
returns-in_err-survey c =
    let e : c.from_residual.result ≡ Err c.in_err-survey.field-0.0 = search rules in
    rw e (fill-refused _ _ c.survey.ensures c.in_err-survey.was)

pub slave_count-count-requires : goal.slave_count-count-requires
slave_count-count-requires c = survey-becomes c.survey.ensures c.in_ok-survey.was

pub returns-then-held-count : goal.returns-then-held-count
unfolding outcome_of refusal_number
returns-then-held-count c = fill-short _ _ c.survey.ensures c.in_ok-survey.was c.slave_count-count.ensures c.if-held-count.true

pub logical_names-requires : goal.logical_names-requires
logical_names-requires c = search (rules, survey-placed c.survey.ensures c.in_ok-survey.was)

pub returns : goal.returns
unfolding outcome_of
returns c = fill_done _ _ c.survey.ensures c.in_ok-survey.was c.slave_count-count.ensures c.if-held-count.false c.logical_names.ensures
