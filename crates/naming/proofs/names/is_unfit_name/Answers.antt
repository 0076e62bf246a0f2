-- `naming::names::is_unfit_name` meets its contract.
-- Assumes nothing.
use Rattle.std.proofs.Common.{rules}
use Rattle.naming.proofs.NameLaws.{unfit_first, unfit_second}
use Rattle.naming.proofs.names.is_unfit_name.Goals as goal

pub returns-then-eq : goal.returns-then-eq
returns-then-eq c = search (rules, unfit_first)

pub returns-else-eq : goal.returns-else-eq
returns-else-eq c = search (rules, unfit_second)
