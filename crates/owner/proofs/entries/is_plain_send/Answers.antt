-- `owner::entries::is_plain_send` meets its contract.
-- Assumes nothing.
use Rattle.std.proofs.Common.{rules}
use Rattle.owner.proofs.EntryMasks.{send-first, send-other}
use Rattle.owner.proofs.entries.is_plain_send.Goals as goal

pub returns-then-operation-eq-SEND : goal.returns-then-operation-eq-SEND
returns-then-operation-eq-SEND c = search (rules, send-first)

pub returns-else-operation-eq-SEND : goal.returns-else-operation-eq-SEND
returns-else-operation-eq-SEND c = search (rules, send-other)
