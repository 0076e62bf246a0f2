-- `convert::put::put_offset` meets its contract: two bytes, or two halves of two bytes.
-- Assumes nothing.
use Rattle.convert.proofs.Putting.{put_narrow, put_wide}
use Rattle.std.proofs.Common.{rules}
use Rattle.convert.proofs.put.put_offset.Goals as goal

pub returns-then-width-eq-OFFSET_WIDTH : goal.returns-then-width-eq-OFFSET_WIDTH
returns-then-width-eq-OFFSET_WIDTH c = search (rules, put_narrow)

pub returns-else-width-eq-OFFSET_WIDTH : goal.returns-else-width-eq-OFFSET_WIDTH
returns-else-width-eq-OFFSET_WIDTH c = search (rules, put_wide)
