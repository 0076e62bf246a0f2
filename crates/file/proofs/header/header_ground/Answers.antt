-- `file::header::header_ground` meets its contract: the width is one of the two.
-- Assumes nothing.
use Rattle.std.proofs.Common.{rules}
use Rattle.file.proofs.Width.{two_widths}
use Rattle.file.proofs.HeaderLaws.{narrow_checked, wide_checked}
use Rattle.file.proofs.header.header_ground.Goals as goal

pub header_ground_at-requires : goal.header_ground_at-requires
header_ground_at-requires c = two_widths.0

pub returns-then-width-eq-OFFSET_WIDTH : goal.returns-then-width-eq-OFFSET_WIDTH
returns-then-width-eq-OFFSET_WIDTH c = search (rules, narrow_checked)

pub header_ground_at-requires-2 : goal.header_ground_at-requires-2
header_ground_at-requires-2 c = two_widths.1

pub returns : goal.returns
returns c = search (rules, wide_checked)
