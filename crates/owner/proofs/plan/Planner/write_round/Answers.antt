-- `owner::plan::Planner::write_round` meets its contract: a law for each way.
-- Assumes nothing.
use Rattle.std.proofs.Common.{arith, rules}
use Rattle.owner.proofs.RowLaws.{rows-room, row_zeros, rows_skip, rows_row}
use Rattle.owner.proofs.plan.Planner.write_round.Goals as goal

pub returns-then-not-is_owned : goal.returns-then-not-is_owned
returns-then-not-is_owned c = search (rules, rows_skip)

pub slice_bounds-write_row-end : goal.slice_bounds-write_row-end
slice_bounds-write_row-end c =
    omega (arith, rows-room c.requires.1, c.requires.0, c.requires.1.most)

pub write_row-row-requires : goal.write_row-row-requires
write_row-row-requires c =
    (c.requires.0, row_zeros c.requires.1 c.requires.0)

pub returns : goal.returns
returns c = search (rules, rows_row)
