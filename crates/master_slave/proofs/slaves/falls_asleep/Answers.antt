-- `master_slave::slaves::falls_asleep` meets its contract: a law for each way.
-- Assumes nothing.
use Rattle.master_slave.proofs.SlaveLaws.{sleep_asleep, sleep_unaddressed, sleep_found}
use Rattle.std.proofs.Common.{rules}
use Rattle.master_slave.proofs.slaves.falls_asleep.Goals as goal

pub returns-then-not-is_awake : goal.returns-then-not-is_awake
returns-then-not-is_awake c = search (rules, sleep_asleep)

pub returns-then-not-is_addressed : goal.returns-then-not-is_addressed
returns-then-not-is_addressed c = search (rules, sleep_unaddressed)

pub returns : goal.returns
returns c = search (rules, sleep_found)
