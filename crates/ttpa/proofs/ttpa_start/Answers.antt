-- `ttpa::ttpa_start` meets its contract: a law for each way.
-- Assumes nothing.
use Rattle.ttpa.proofs.CallLaws.{start_refuses, start-begins}
use Rattle.std.proofs.Common.{rules}
use Rattle.ttpa.proofs.ttpa_start.Goals as goal

pub returns-in-Err : goal.returns-in-Err
returns-in-Err c = search (rules, start_refuses)

pub returns-in-Ok : goal.returns-in-Ok
returns-in-Ok c = search (rules, start-begins)
