-- `file::readers::is_awake` meets its contract: the byte of the table entry is the slave's.
-- Assumes nothing.
use Rattle.file.proofs.SleepLaws.{awake-there}
use Rattle.std.proofs.Common.{rules}
use Rattle.file.proofs.readers.is_awake.Goals as goal

pub returns : goal.returns
returns c = search (rules, awake-there)
