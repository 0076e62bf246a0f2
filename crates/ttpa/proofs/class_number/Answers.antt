-- `ttpa::class_number` meets its contract: a law for each way.
-- Assumes nothing.
use Rattle.std.proofs.Common.{rules}
use Rattle.ttpa.proofs.CallLaws.{data-number, firework-number, broken-number}
use Rattle.ttpa.proofs.class_number.Goals as goal

pub returns-in-DataByte : goal.returns-in-DataByte
returns-in-DataByte c = search (rules, data-number)

pub returns-in-Firework : goal.returns-in-Firework
returns-in-Firework c = search (rules, firework-number)

pub returns-in-Broken : goal.returns-in-Broken
returns-in-Broken c = search (rules, broken-number)
