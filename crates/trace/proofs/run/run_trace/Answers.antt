-- `trace::run::run_trace` meets its contract: a law for each way.
-- Assumes nothing.
use Rattle.std.proofs.Common.{◌≡◌, Err, rules}
use mathlib.Core.Path.{sym, ◌∙◌}
use Rattle.file.proofs.Surveyed.{survey-placed}
use Rattle.trace.specs.Inner.TraceAnswers.{traced_of}
use Rattle.trace.proofs.Calls.{call-refused, call-broken, call-run}
use Rattle.file.specs.Inner.Refusals.{refusal_number}
use Rattle.trace.proofs.run.run_trace.Goals as goal

pub returns-then-is_broken : goal.returns-then-is_broken
unfolding traced_of refusal_number
returns-then-is_broken c = search (rules, call-broken, c.in_ok-survey.was)

pub run_frames-requires : goal.run_frames-requires
run_frames-requires c =
    (survey-placed c.survey.ensures c.in_ok-survey.was, sym c.is_broken.ensures ∙ c.if-is_broken.false)

pub returns-in_err-survey : goal.returns-in_err-survey
unfolding traced_of refusal_number
returns-in_err-survey c =
    let e : c.from_residual.result ≡ Err c.in_err-survey.field-0.0 = search rules in
    rw e (call-refused _ c.survey.ensures c.in_err-survey.was)

pub returns : goal.returns
unfolding traced_of refusal_number
returns c = search (rules, call-run, c.in_ok-survey.was)
