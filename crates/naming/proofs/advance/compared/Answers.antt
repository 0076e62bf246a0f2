-- `naming::advance::compared` meets its contract: one law for each way.
-- Assumes nothing.
use Rattle.naming.proofs.WritingLaws.{compared-heard, compared_silent}
use Rattle.naming.proofs.advance.compared.Goals as goal

pub returns-in-Heard : goal.returns-in-Heard
returns-in-Heard c = search compared-heard

pub returns-in-Silence : goal.returns-in-Silence
returns-in-Silence c = search compared_silent
