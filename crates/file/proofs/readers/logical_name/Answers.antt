-- `file::readers::logical_name` meets its contract: the byte at the place is the cluster's.
-- Assumes nothing.
use Rattle.file.proofs.ReaderLaws.{logical-read}
use Rattle.file.proofs.PlaceLaws.{configuration-byte}
use Rattle.std.proofs.Common.{rules}
use Rattle.file.proofs.readers.logical_name.Goals as goal

pub bounds-file-at : goal.bounds-file-at
bounds-file-at c = search (rules, configuration-byte)

pub returns : goal.returns
returns c = search (rules, logical-read)
