-- `naming::advance::polled` meets its contract: one law for each answer.
-- Assumes nothing.
use Rattle.naming.proofs.WritingLaws.{polled-taken, polled_free}
use Rattle.naming.proofs.advance.polled.Goals as goal

pub returns-in_default : goal.returns-in_default
returns-in_default c = search polled-taken

pub returns : goal.returns
returns c = search polled_free
