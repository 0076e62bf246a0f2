-- `file::numbers::u64_at` meets its contract: each byte is shifted to its place.
-- Assumes nothing.
use Rattle.file.proofs.NumberLaws.{eight-bytes}
use Rattle.std.proofs.Common.{rules}
use Rattle.file.proofs.numbers.u64_at.Goals as goal

pub returns : goal.returns
returns c = search (rules, eight-bytes)
