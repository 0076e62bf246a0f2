-- `naming::advance::compared_with_0` meets its contract: one law for each answer.
-- Assumes nothing.
use Rattle.naming.proofs.WritingLaws.{compared-heard, compared-last}
use Rattle.naming.proofs.advance.compared_with_0.Goals as goal

pub returns-in_default : goal.returns-in_default
returns-in_default c = search compared-last

pub returns : goal.returns
returns c = search compared-heard
