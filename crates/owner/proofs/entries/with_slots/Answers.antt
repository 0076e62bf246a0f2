-- `owner::entries::with_slots` meets its contract: a law for each way.
-- Assumes nothing.
use Rattle.std.proofs.Common.{rules}
use Rattle.owner.proofs.EntryMasks.{send-there, slots-send, slots-passed, slots_hide}
use Rattle.owner.proofs.entries.with_slots.Goals as goal

pub sending_slots-sending-requires : goal.sending_slots-sending-requires
sending_slots-sending-requires c = search (rules, send-there)

pub returns-then-is_send : goal.returns-then-is_send
returns-then-is_send c = search (rules, slots-send)

pub returns-then-multiplexed : goal.returns-then-multiplexed
returns-then-multiplexed c = search (rules, slots-passed)

pub returns : goal.returns
returns c = search (rules, slots_hide)
