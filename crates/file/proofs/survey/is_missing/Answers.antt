-- `file::survey::is_missing` meets its contract: what was found so far, or is left of the search, is what the whole search gives.
-- Assumes nothing.
use Rattle.std.proofs.Common.{rules, arith}
use Rattle.file.proofs.LookingLaws.{gathering_start, gathering_found, gathering_past, gathering_end}
use Rattle.file.proofs.survey.is_missing.Goals as goal

pub loop-place-init : goal.loop-place-init
loop-place-init c = gathering_start _ _

pub loop-place-preserved : goal.loop-place-preserved
loop-place-preserved c = grind (arith, gathering_found, gathering_past)

pub returns : goal.returns
returns c = search (rules, gathering_end)
