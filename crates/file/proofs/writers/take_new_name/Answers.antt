-- `file::writers::take_new_name` meets its contract: a byte of the configuration is stored as the next one.
-- Assumes nothing.
use Rattle.file.proofs.PlaceLaws.{configuration-byte}
use Rattle.file.proofs.StoreLaws.{becomes-named}
use Rattle.std.proofs.Common.{rules}
use Rattle.file.proofs.writers.take_new_name.Goals as goal

pub bounds-file-at : goal.bounds-file-at
bounds-file-at c = search (rules, configuration-byte)

pub bounds-file-at-2 : goal.bounds-file-at-2
bounds-file-at-2 c = search (rules, configuration-byte)

pub returns : goal.returns
returns c = search (rules, becomes-named)
