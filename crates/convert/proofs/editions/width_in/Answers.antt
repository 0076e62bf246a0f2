-- `convert::editions::width_in` meets its contract: the width of each edition.
-- Assumes nothing.
use Rattle.convert.proofs.EditionLaws.{width_one, width_two}
use Rattle.std.proofs.Common.{rules}
use Rattle.convert.proofs.editions.width_in.Goals as goal

pub returns-in-One : goal.returns-in-One
returns-in-One c = search (rules, width_one)

pub returns-in-Two : goal.returns-in-Two
returns-in-Two c = search (rules, width_two)
