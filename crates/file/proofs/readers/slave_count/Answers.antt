-- `file::readers::slave_count` meets its contract: the count of the table is that of the slaves.
-- Assumes nothing.
use Rattle.std.proofs.Common.{rules}
use Rattle.file.proofs.ReaderLaws.{header-within, count-there}
use Rattle.file.proofs.readers.slave_count.Goals as goal

pub byte_at-requires : goal.byte_at-requires
byte_at-requires c = search (rules, header-within)

pub returns : goal.returns
returns c = search (rules, count-there)
