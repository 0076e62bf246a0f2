-- `ttpa::ttpa_turn` meets its contract: a law for each way.
-- Assumes nothing.
use Rattle.std.proofs.Common.{rules}
use Rattle.ttpa.proofs.CallLaws.{turn-refuses, turn_idles, turn-serves}
use Rattle.ttpa.proofs.ttpa_turn.Goals as goal

pub returns-in-Err : goal.returns-in-Err
returns-in-Err c = rw c.number.ensures (turn-refuses _ _ _ _ _ c.turn.ensures c.in-Err.is)

pub returns-in-None : goal.returns-in-None
returns-in-None c = search (rules, turn_idles)

pub returns-in-Some : goal.returns-in-Some
returns-in-Some c = search (rules, turn-serves)
