-- `trace::report::counted` meets its contract: a law for each way.
-- Assumes nothing.
use Rattle.trace.proofs.ReportLaws.{counted-refused, counted_carried}
use Rattle.std.proofs.Common.{rules}
use Rattle.trace.proofs.report.counted.Goals as goal

pub returns-then-not-carried : goal.returns-then-not-carried
returns-then-not-carried c = search (rules, counted-refused)

pub returns : goal.returns
returns c = search (rules, counted_carried)
