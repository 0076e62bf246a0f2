-- `owner::entries::is_send` meets its contract.
-- Assumes nothing.
use Rattle.std.proofs.Common.{rules}
use Rattle.owner.proofs.EntryMasks.{send_multiplexed}
use Rattle.owner.proofs.entries.is_send.Goals as goal

pub returns-then-operation-ge-FIRST_MULTIPLEXED : goal.returns-then-operation-ge-FIRST_MULTIPLEXED
returns-then-operation-ge-FIRST_MULTIPLEXED c = search (rules, send_multiplexed)
