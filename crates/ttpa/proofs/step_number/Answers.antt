-- `ttpa::step_number` meets its contract: a law for each way.
-- Assumes nothing.
use Rattle.std.proofs.Common.{rules}
use Rattle.ttpa.proofs.CallLaws.{told-turned, told-ended, told-made}
use Rattle.ttpa.proofs.step_number.Goals as goal

pub returns-in-Err : goal.returns-in-Err
returns-in-Err c = search (rules, told-turned)

pub returns-in-None : goal.returns-in-None
returns-in-None c = search (rules, told-ended)

pub returns-in-Some : goal.returns-in-Some
returns-in-Some c = search (rules, told-made)
