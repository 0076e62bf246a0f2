-- `multipartner::kept_files::bytes_of` meets its contract: a law for each way.
-- Assumes nothing.
use Rattle.multipartner.proofs.SlotActLaws.{file-none, file-there}
use Rattle.std.proofs.Common.{rules}
use Rattle.multipartner.proofs.kept_files.bytes_of.Goals as goal

pub returns-in-None : goal.returns-in-None
returns-in-None c = search (rules, file-none)

pub returns-in-Some : goal.returns-in-Some
returns-in-Some c = search (rules, file-there)
