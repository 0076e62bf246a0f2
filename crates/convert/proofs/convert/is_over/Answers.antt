-- `convert::convert::is_over` meets its contract: two tests.
-- Assumes nothing.
use Rattle.convert.proofs.Calls.{over_many, over_long}
use Rattle.std.proofs.Common.{rules}
use Rattle.convert.proofs.convert.is_over.Goals as goal

pub returns-then-width-count : goal.returns-then-width-count
returns-then-width-count c = search (rules, over_many)

pub returns-else-width-count : goal.returns-else-width-count
returns-else-width-count c = search (rules, over_long)
