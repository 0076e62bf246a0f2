-- `owner::entries::first_byte` meets its contract.
-- Assumes nothing.
use Rattle.std.proofs.Common.{rules}
use Rattle.owner.proofs.EntryMasks.{first-place}
use Rattle.owner.proofs.entries.first_byte.Goals as goal

pub returns : goal.returns
returns c = search (rules, first-place)
