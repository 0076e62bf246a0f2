-- `trace::report::one_carried` meets its contract: a law for each firework.
-- Assumes nothing.
use Rattle.trace.specs.Rules.TraceRun.{one_carried}
use Rattle.trace.proofs.ReportLaws.{carried_none, carried_address, carried_data, carried_multipartner}
use Rattle.std.proofs.Common.{rules}
use Rattle.trace.proofs.report.one_carried.Goals as goal

pub returns-in_default : goal.returns-in_default
returns-in_default c = search (rules, carried_none)

pub returns-in-Address : goal.returns-in-Address
unfolding one_carried
returns-in-Address c = search (rules, carried_address)

pub returns-in-Data : goal.returns-in-Data
unfolding one_carried
returns-in-Data c = search (rules, carried_data)

pub returns-in-Multipartner : goal.returns-in-Multipartner
unfolding one_carried
returns-in-Multipartner c = search (rules, carried_multipartner)
