-- No two answers to a trace are taken to the same: the map of `specs/Inner/TraceAnswers.antt` can be undone.
-- Assumes nothing.
use mathlib.Core.Path.{◌≡◌, refl, sym, ◌∙◌, ap}
use Rattle.file.specs.Rules.Results.{Result, refused, done}
use Rattle.trace.specs.declared.report.Report as Code
use Rattle.trace.specs.Rules.TraceRun.{Report}
use Rattle.trace.specs.Inner.TraceAnswers.{traced_of}
use Rattle.file.specs.Inner.Refusals.{Answered, refusal_number}
use Rattle.std.specs.Prelude.{Ok, Err}
use Rattle.file.proofs.Distinct.{refusal_in, refusal_back}

report : Report → Code.Report
report r = record { msa = r.msa; msd = r.msd; multipartner = r.multipartner; refused = r.refused }

answer : Result Report → (Answered Code.Report)
answer (refused n) = Err (refusal_in n)
answer (done r) = Ok (report r)

answer_back : (a : Answered Code.Report) → answer (traced_of a) ≡ a
unfolding answer traced_of report
answer_back (Err why) = ap Err (refusal_back why)
answer_back (Ok r) = refl

pub answers_distinct : (a b : Answered Code.Report) → traced_of a ≡ traced_of b → a ≡ b
answers_distinct a b h = sym (answer_back a) ∙ (ap answer h ∙ answer_back b)
