-- `summary::round::round_keeping` meets its contract: a law for each way.
-- Assumes nothing.
use Rattle.std.proofs.Common.{◌≡◌, Err, rules}
use Rattle.file.proofs.Surveyed.{survey-placed}
use Rattle.file.specs.Inner.Refusals.{refusal_number, outcome_of}
use Rattle.summary.proofs.RoundLaws.{keeping_refused, keeping_wrong, keeping_short, keeping_made, names-fit}
use Rattle.summary.proofs.round.round_keeping.Goals as goal

pub is_wrong-requires : goal.is_wrong-requires
is_wrong-requires c =
    survey-placed c.survey.ensures c.in_ok-survey.was

pub returns-then-is_wrong : goal.returns-then-is_wrong
unfolding outcome_of refusal_number
returns-then-is_wrong c =
    keeping_wrong _ _ _ _ _ c.survey.ensures c.in_ok-survey.was c.is_wrong.ensures c.if-is_wrong.true

pub returns-then-buffer-lt-SLOTS : goal.returns-then-buffer-lt-SLOTS
unfolding outcome_of refusal_number
returns-then-buffer-lt-SLOTS c =
    keeping_short _ _ _ _ _ c.survey.ensures c.in_ok-survey.was c.is_wrong.ensures c.if-is_wrong.false c.if-buffer-lt-SLOTS.true

pub carry_keeping-requires : goal.carry_keeping-requires
carry_keeping-requires c =
    (survey-placed c.survey.ensures c.in_ok-survey.was, c.if-buffer-lt-SLOTS.false, names-fit _ _ _ c.is_wrong.ensures c.if-is_wrong.false)

pub returns-in_err-survey : goal.returns-in_err-survey
unfolding outcome_of refusal_number
returns-in_err-survey c =
    let e : c.from_residual.result ≡ Err c.in_err-survey.field-0.0 = search rules in
    rw e (keeping_refused _ _ _ _ _ c.survey.ensures c.in_err-survey.was)

pub returns : goal.returns
returns c =
    keeping_made _ _ _ _ _ c.survey.ensures c.in_ok-survey.was c.is_wrong.ensures c.if-is_wrong.false c.carry_keeping.ensures
