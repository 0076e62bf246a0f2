-- `summary::holder::find_holder` meets its contract: along the names to the first that is the one asked for.
-- Assumes nothing.
use Rattle.std.proofs.Common.{rules}
use Rattle.summary.specs.Inner.SummaryAnswers.{holder_of}
use Rattle.summary.proofs.HolderLaws.{holder-refused, asking_start, asking_here, asking_next, asking_done}
use Rattle.file.specs.Inner.Refusals.{refusal_number}
use Rattle.summary.proofs.holder.find_holder.Goals as goal

pub returns-then-held-count : goal.returns-then-held-count
unfolding holder_of refusal_number
returns-then-held-count c = search (rules, holder-refused)

pub loop-place-init : goal.loop-place-init
loop-place-init c = search (rules, asking_start)

pub returns-then-eq : goal.returns-then-eq
unfolding holder_of refusal_number
returns-then-eq c = search (rules, asking_here)

pub loop-place-preserved : goal.loop-place-preserved
loop-place-preserved c = search (rules, asking_next)

pub returns : goal.returns
unfolding holder_of refusal_number
returns c = search (rules, asking_done)
