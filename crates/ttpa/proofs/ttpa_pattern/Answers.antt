-- `ttpa::ttpa_pattern` meets its contract: a law for each way.
-- Assumes nothing.
use Rattle.std.proofs.Common.{rules}
use Rattle.ttpa.proofs.CallLaws.{pattern_refuses, pattern-reads}
use Rattle.ttpa.proofs.ttpa_pattern.Goals as goal

pub returns-in-Err : goal.returns-in-Err
returns-in-Err c = search (rules, pattern_refuses)

pub returns-in-Ok : goal.returns-in-Ok
returns-in-Ok c = search (rules, pattern-reads)
