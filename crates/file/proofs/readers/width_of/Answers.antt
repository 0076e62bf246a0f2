-- `file::readers::width_of` meets its contract: a file of less than three bytes is none of edition 2, and else its third byte decides.
-- Assumes nothing.
use Rattle.file.proofs.AtWidth.{short-width, other_width, wide_width}
use Rattle.std.proofs.Common.{rules}
use Rattle.file.proofs.readers.width_of.Goals as goal

pub returns-then-file-le-EDITION_PLACE : goal.returns-then-file-le-EDITION_PLACE
returns-then-file-le-EDITION_PLACE c = search (rules, short-width)

pub returns-then-file-ne-WIDE_EDITION : goal.returns-then-file-ne-WIDE_EDITION
returns-then-file-ne-WIDE_EDITION c = search (rules, other_width)

pub returns : goal.returns
returns c = search (rules, wide_width)
