-- `naming::pass::given_part` meets its contract: one law for each way.
-- Assumes nothing.
use Rattle.naming.proofs.PositionLaws.{part-high, part_low, part_none}
use Rattle.std.proofs.Common.{rules}
use Rattle.naming.proofs.pass.given_part.Goals as goal

pub returns-then-step-eq-GIVE_HIGH : goal.returns-then-step-eq-GIVE_HIGH
returns-then-step-eq-GIVE_HIGH c = search (rules, part-high)

pub returns-then-step-eq-GIVE_LOW : goal.returns-then-step-eq-GIVE_LOW
returns-then-step-eq-GIVE_LOW c = search (rules, part_low)

pub returns : goal.returns
returns c = search (rules, part_none)
