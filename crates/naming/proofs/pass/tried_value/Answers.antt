-- `naming::pass::tried_value` meets its contract.
-- Assumes nothing.
use Rattle.naming.proofs.PositionLaws.{tried-least, tried-bit-set}
use Rattle.naming.proofs.pass.tried_value.Goals as goal

pub returns-then-question-eq0 : goal.returns-then-question-eq0
returns-then-question-eq0 c = tried-least _ c.if-question-eq0.true

pub returns : goal.returns
returns c = tried-bit-set _ _ c.if-question-eq0.false c.requires
