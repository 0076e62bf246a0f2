-- `owner::held::mark_rounds` meets its contract. The invariant is `Marking`.
-- Assumes nothing.
use Rattle.std.proofs.Common.{rules}
use Rattle.file.proofs.ReaderLaws.{searching_first}
use Rattle.owner.proofs.HeldLaws.{marking_start, marking_next, marking_done}
use Rattle.owner.proofs.held.mark_rounds.Goals as goal

pub loop-entry-init : goal.loop-entry-init
loop-entry-init c = marking_start _ _

pub byte_at-number-requires : goal.byte_at-number-requires
byte_at-number-requires c = search (rules, searching_first)

pub loop-entry-preserved : goal.loop-entry-preserved
loop-entry-preserved c = search (rules, marking_next)

pub returns : goal.returns
returns c = search (rules, marking_done)
