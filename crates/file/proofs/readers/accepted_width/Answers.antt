-- `file::readers::accepted_width` meets its contract: the third byte is the edition.
-- Assumes nothing.
use Rattle.std.proofs.Common.{rules}
use Rattle.file.proofs.AtWidth.{accepted-width}
use Rattle.file.proofs.SleepLaws.{edition-there}
use Rattle.file.proofs.readers.accepted_width.Goals as goal

pub byte_at-requires : goal.byte_at-requires
byte_at-requires c = search (rules, edition-there)

pub returns : goal.returns
returns c = search (rules, accepted-width)
