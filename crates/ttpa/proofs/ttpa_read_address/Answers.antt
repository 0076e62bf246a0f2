-- `ttpa::ttpa_read_address` meets its contract: a law for each way.
-- Assumes nothing.
use Rattle.ttpa.proofs.CallLaws.{read_refuses, read-parts}
use Rattle.std.proofs.Common.{rules}
use Rattle.ttpa.proofs.ttpa_read_address.Goals as goal

pub returns-in-Err : goal.returns-in-Err
returns-in-Err c = search (rules, read_refuses)

pub returns-in-Ok : goal.returns-in-Ok
returns-in-Ok c = search (rules, read-parts)
