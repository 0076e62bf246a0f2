-- `owner::entries::with_slot` meets its contract: a law for each way.
-- Assumes nothing.
use Rattle.std.proofs.Common.{arith, rules}
use Rattle.owner.proofs.EntryMasks.{single_plain, slot_hidden, slot_silent, slot_outside, slot_sends}
use Rattle.owner.proofs.entries.with_slot.Goals as goal

pub returns-then-plan-start-eq1 : goal.returns-then-plan-start-eq1
returns-then-plan-start-eq1 c = search (rules, slot_hidden)

pub is_plain_send-requires : goal.is_plain_send-requires
is_plain_send-requires c = search (rules, single_plain)

pub returns-then-not-is_plain_send : goal.returns-then-not-is_plain_send
returns-then-not-is_plain_send c = search (rules, slot_silent)

pub known_size-size-requires : goal.known_size-size-requires
known_size-size-requires c = (search rules, search rules, omega arith, search rules)

pub returns-then-size-first_byte : goal.returns-then-size-first_byte
returns-then-size-first_byte c = search (rules, slot_outside)

pub returns : goal.returns
returns c = search (rules, slot_sends)
