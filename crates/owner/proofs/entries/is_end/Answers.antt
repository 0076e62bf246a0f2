-- `owner::entries::is_end` meets its contract.
-- Assumes nothing.
use Rattle.std.proofs.Common.{rules}
use Rattle.owner.proofs.EntryMasks.{end-first, end-other}
use Rattle.owner.proofs.entries.is_end.Goals as goal

pub returns-then-operation-eq-END_OF_ROUND : goal.returns-then-operation-eq-END_OF_ROUND
returns-then-operation-eq-END_OF_ROUND c = search (rules, end-first)

pub returns-else-operation-eq-END_OF_ROUND : goal.returns-else-operation-eq-END_OF_ROUND
returns-else-operation-eq-END_OF_ROUND c = search (rules, end-other)
