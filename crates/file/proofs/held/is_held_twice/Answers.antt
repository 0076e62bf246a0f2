-- `file::held::is_held_twice` meets its contract: a law for each number of slaves.
-- Assumes nothing.
use Rattle.std.proofs.Common.{rules}
use Rattle.file.proofs.Order.{same_if_eq, other_if_eq}
use Rattle.file.proofs.HeldLaws.{few-slaves, two-slaves-unnamed, two-slaves}
use Rattle.file.proofs.held.is_held_twice.Goals as goal

pub returns-then-count-lt2 : goal.returns-then-count-lt2
returns-then-count-lt2 c = search (rules, few-slaves)

pub returns-then-eq : goal.returns-then-eq
returns-then-eq c = search (rules, two-slaves-unnamed, same_if_eq)

pub returns : goal.returns
returns c = search (rules, two-slaves, other_if_eq)
