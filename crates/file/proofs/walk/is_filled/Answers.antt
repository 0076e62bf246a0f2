-- `file::walk::is_filled` meets its contract: no zeros, or two.
-- Assumes nothing.
use Rattle.file.proofs.NumberLaws.{filled_narrow, filled_wide}
use Rattle.std.proofs.Common.{rules}
use Rattle.file.proofs.walk.is_filled.Goals as goal

pub returns-then-width-eq-OFFSET_WIDTH : goal.returns-then-width-eq-OFFSET_WIDTH
returns-then-width-eq-OFFSET_WIDTH c = search (rules, filled_narrow)

pub returns : goal.returns
returns c = search (rules, filled_wide)
