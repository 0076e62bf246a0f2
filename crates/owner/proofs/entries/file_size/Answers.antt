-- `owner::entries::file_size` meets its contract: a law for each answer.
-- Assumes nothing.
use Rattle.std.proofs.Common.{rules}
use Rattle.owner.proofs.EntryMasks.{size_found, size_none}
use Rattle.owner.proofs.entries.file_size.Goals as goal

pub returns-in-Some : goal.returns-in-Some
returns-in-Some c = search (rules, size_found)

pub returns-in-None : goal.returns-in-None
returns-in-None c = search (rules, size_none)
