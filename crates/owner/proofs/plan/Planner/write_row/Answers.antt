-- `owner::plan::Planner::write_row` meets its contract: the row of a planned round.
-- Assumes nothing.
use Rattle.std.proofs.Common.{arith}
use Rattle.owner.proofs.RowLaws.{row_written}
use Rattle.owner.proofs.plan.Planner.write_row.Goals as goal

pub returns : goal.returns
returns c =
    row_written c.plan_round-plan.ensures c.last_slot-last.ensures (omega arith)
