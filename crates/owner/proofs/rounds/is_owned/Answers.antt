-- `owner::rounds::is_owned` meets its contract.
-- Assumes nothing.
use Rattle.std.proofs.Common.{rules}
use Rattle.owner.proofs.RowLaws.{owned_data, owned_other}
use Rattle.owner.proofs.rounds.is_owned.Goals as goal

pub returns-then-round-ne-DATA_ROUND : goal.returns-then-round-ne-DATA_ROUND
returns-then-round-ne-DATA_ROUND c = search (rules, owned_other)

pub returns-else-round-ne-DATA_ROUND : goal.returns-else-round-ne-DATA_ROUND
returns-else-round-ne-DATA_ROUND c = search (rules, owned_data)
