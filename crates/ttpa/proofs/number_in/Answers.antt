-- `ttpa::number_in` meets its contract: a law for each way.
-- Assumes nothing.
use Rattle.std.proofs.Common.{rules}
use Rattle.ttpa.proofs.CallLaws.{number_done, number-refused}
use Rattle.ttpa.proofs.number_in.Goals as goal

pub returns-in-Ok : goal.returns-in-Ok
returns-in-Ok c = search (rules, number_done)

pub returns-in-Err : goal.returns-in-Err
returns-in-Err c = search (rules, number-refused)
