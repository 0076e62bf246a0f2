-- `file::numbers::offset_at` meets its contract: a number of two bytes, or two of them, joined.
-- Assumes nothing.
use Rattle.file.proofs.NumberLaws.{offset_wide}
use Rattle.std.proofs.Common.{rules}
use Rattle.file.proofs.numbers.offset_at.Goals as goal

pub returns : goal.returns
returns c = search (rules, offset_wide)
