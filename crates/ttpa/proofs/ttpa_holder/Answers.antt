-- `ttpa::ttpa_holder` meets its contract: a law for each way.
-- Assumes nothing.
use Rattle.std.proofs.Common.{rules}
use Rattle.ttpa.proofs.CallLaws.{holder_refuses, holder_found, holder-nobody}
use Rattle.ttpa.proofs.ttpa_holder.Goals as goal

pub returns-in-Err : goal.returns-in-Err
returns-in-Err c = search (rules, holder_refuses)

pub returns-in-Some : goal.returns-in-Some
returns-in-Some c = search (rules, holder_found)

pub returns-in-None : goal.returns-in-None
returns-in-None c = search (rules, holder-nobody)
