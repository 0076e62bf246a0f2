-- `cluster::round::round` meets its contract: a law for each way.
-- Assumes nothing.
use Rattle.file.proofs.Surveyed.{survey-placed}
use Rattle.file.specs.Inner.Refusals.{refusal_number, outcome_of}
use Rattle.cluster.proofs.FrameCall.{call-refused, call-short, call-made}
use Rattle.std.proofs.Common.{◌≡◌, Err, rules}
use Rattle.cluster.proofs.round.round.Goals as goal

pub returns-then-buffer-lt-SLOTS : goal.returns-then-buffer-lt-SLOTS
unfolding outcome_of refusal_number
returns-then-buffer-lt-SLOTS c = call-short _ _ c.survey.ensures c.in_ok-survey.was c.if-buffer-lt-SLOTS.true

pub one_frame-requires : goal.one_frame-requires
one_frame-requires c =
    (survey-placed c.survey.ensures c.in_ok-survey.was, c.if-buffer-lt-SLOTS.false)

pub returns-in_err-survey : goal.returns-in_err-survey
unfolding outcome_of refusal_number
returns-in_err-survey c =
    let e : c.from_residual.result ≡ Err c.in_err-survey.field-0.0 = search rules in
    rw e (call-refused _ _ c.survey.ensures c.in_err-survey.was)

pub returns : goal.returns
returns c = call-made _ _ c.survey.ensures c.in_ok-survey.was c.if-buffer-lt-SLOTS.false c.one_frame.ensures
