-- `owner::entries::known_size` meets its contract.
-- Assumes nothing.
use Rattle.std.proofs.Common.{rules}
use Rattle.owner.proofs.EntryMasks.{kept-size}
use Rattle.owner.proofs.entries.known_size.Goals as goal

pub returns-then-eq : goal.returns-then-eq
returns-then-eq c = search (rules, kept-size)
