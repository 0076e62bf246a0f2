-- `multipartner::slot_act::slot_act` meets its contract: a law for each way.
-- Assumes nothing.
use Rattle.multipartner.proofs.SlotActLaws.{end_act, rest_act, receive_barred, receive_outside, receive_stores, send_outside, send-byte}
use Rattle.std.proofs.Common.{rules}
use Rattle.multipartner.proofs.slot_act.slot_act.Goals as goal

pub returns-then-size-byte : goal.returns-then-size-byte
returns-then-size-byte c = search (rules, receive_outside)

pub returns-then-not-may_store : goal.returns-then-not-may_store
returns-then-not-may_store c = search (rules, receive_barred)

pub returns-then-size-byte-2 : goal.returns-then-size-byte-2
returns-then-size-byte-2 c = search (rules, send_outside)

pub returns-else-not-may_store : goal.returns-else-not-may_store
returns-else-not-may_store c = search (rules, receive_stores)

pub returns-else-size-byte-2 : goal.returns-else-size-byte-2
returns-else-size-byte-2 c = search (rules, send-byte)

pub returns-in-Ends : goal.returns-in-Ends
returns-in-Ends c = search (rules, end_act)

pub returns-in-Rests : goal.returns-in-Rests
returns-in-Rests c = search (rules, rest_act)
