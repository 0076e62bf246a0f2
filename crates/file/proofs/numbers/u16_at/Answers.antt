-- `file::numbers::u16_at` meets its contract: two shorter numbers, joined.
-- Assumes nothing.
use Rattle.std.proofs.Common.{refl, arith}
use Rattle.file.proofs.NumberLaws.{byte-number, number_or}
use Rattle.file.proofs.numbers.u16_at.Goals as goal

pub returns : goal.returns
returns c =
    number_or 1 8 refl (omega arith) (omega arith) (byte-number (omega arith) c.byte_at-high.ensures) (byte-number (omega arith) c.byte_at-low.ensures)
