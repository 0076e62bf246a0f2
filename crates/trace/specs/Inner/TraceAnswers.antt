-- The code's report and answers in the terms of the rules. No two of one type are taken to the same.
use Rattle.std.specs.Prelude.{Ok, Err}
use Rattle.file.specs.Rules.Results.{Result, refused, done}
use Rattle.file.specs.Inner.Refusals.{Answered, refusal_number}
use Rattle.trace.specs.declared.report.Report as Code
use Rattle.trace.specs.Rules.TraceRun.{Report}

abbrev pub report_in : Code.Report → Report
report_in r = record { msa = r.msa; msd = r.msd; multipartner = r.multipartner; refused = r.refused }

-- to a trace: a number, or the report
-- "If an answer is an enum, a definition gives this paper's number and values for each of its cases. The promises use this definition."
unfoldable pub traced_of : Answered Code.Report → Result Report
traced_of (Err why) = refused (refusal_number why)
traced_of (Ok report) = done (report_in report)
