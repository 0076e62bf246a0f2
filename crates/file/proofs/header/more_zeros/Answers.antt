-- `file::header::more_zeros` meets its contract: no zeros, or four.
-- Assumes nothing.
use Rattle.file.proofs.HeaderLaws.{more_none, more_zeros}
use Rattle.std.proofs.Common.{rules}
use Rattle.file.proofs.header.more_zeros.Goals as goal

pub returns-then-width-eq-OFFSET_WIDTH : goal.returns-then-width-eq-OFFSET_WIDTH
returns-then-width-eq-OFFSET_WIDTH c = search (rules, more_none)

pub returns : goal.returns
returns c = search (rules, more_zeros)
