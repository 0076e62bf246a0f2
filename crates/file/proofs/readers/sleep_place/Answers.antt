-- `file::readers::sleep_place` meets its contract: the sleep byte stands behind the offset and the file count of a table entry.
-- Assumes nothing.
use Rattle.file.proofs.SleepLaws.{sleep_there}
use Rattle.std.proofs.Common.{rules}
use Rattle.file.proofs.readers.sleep_place.Goals as goal

pub returns : goal.returns
returns c = search (rules, sleep_there)
