-- `ttpa::number_telling` meets its contract: a law for each way.
-- Assumes nothing.
use Rattle.std.proofs.Common.{rules}
use Rattle.ttpa.proofs.CallLaws.{told_refused, told_done}
use Rattle.ttpa.proofs.number_telling.Goals as goal

pub returns-in-Err : goal.returns-in-Err
returns-in-Err c = search (rules, told_refused)

pub returns-in-Ok : goal.returns-in-Ok
returns-in-Ok c = search (rules, told_done)
