-- `owner::entries::sending_slots` meets its contract: a law for each way.
-- Assumes nothing.
use Rattle.std.proofs.Common.{rules}
use Rattle.owner.proofs.EntryMasks.{slots-none, slots-part, slots-all}
use Rattle.owner.proofs.entries.sending_slots.Goals as goal

pub returns-then-size-first : goal.returns-then-size-first
returns-then-size-first c = search (rules, slots-none)

pub returns-then-size-first-2 : goal.returns-then-size-first-2
returns-then-size-first-2 c = search (rules, slots-part)

pub returns : goal.returns
returns c = search (rules, slots-all)
