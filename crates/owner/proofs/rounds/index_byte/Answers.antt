-- `owner::rounds::index_byte` meets its contract.
-- Assumes nothing.
use Rattle.std.proofs.Common.{rules}
use Rattle.owner.proofs.RowLaws.{index-none, index-some}
use Rattle.owner.proofs.rounds.index_byte.Goals as goal

pub returns-then-not-is_owned : goal.returns-then-not-is_owned
returns-then-not-is_owned c = search (rules, index-none)

pub returns : goal.returns
returns c = search (rules, index-some)
