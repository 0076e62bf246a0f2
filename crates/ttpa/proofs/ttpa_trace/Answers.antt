-- `ttpa::ttpa_trace` meets its contract: a law for each way.
-- Assumes nothing.
use Rattle.ttpa.proofs.CallLaws.{trace_refuses, trace-runs, trace-few}
use Rattle.std.proofs.Common.{rules}
use Rattle.ttpa.proofs.ttpa_trace.Goals as goal

pub report_words-requires : goal.report_words-requires
report_words-requires c = search (rules, trace-few)

pub returns-in-Err : goal.returns-in-Err
returns-in-Err c = rw c.number.ensures (trace_refuses _ _ _ _ c.run_trace.ensures c.in-Err.is)

pub returns-in-Ok : goal.returns-in-Ok
returns-in-Ok c = search (rules, trace-runs)
