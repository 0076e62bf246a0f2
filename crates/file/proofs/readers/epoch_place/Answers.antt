-- `file::readers::epoch_place` meets its contract: the epoch stands behind the table's offset and the file's length.
-- Assumes nothing.
use Rattle.file.proofs.AtWidth.{epoch-at}
use Rattle.std.proofs.Common.{rules}
use Rattle.file.proofs.readers.epoch_place.Goals as goal

pub returns : goal.returns
returns c = search (rules, epoch-at)
