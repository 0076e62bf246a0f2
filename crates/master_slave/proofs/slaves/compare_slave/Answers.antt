-- `master_slave::slaves::compare_slave` meets its contract: a law for each way.
-- Assumes nothing.
use Rattle.master_slave.proofs.SlaveLaws.{reply-asleep, compare_unaddressed, compare-below, compare-answers}
use Rattle.std.proofs.Common.{rules}
use Rattle.master_slave.proofs.slaves.compare_slave.Goals as goal

pub returns-then-not-is_awake : goal.returns-then-not-is_awake
returns-then-not-is_awake c = search (rules, reply-asleep)

pub returns-then-not-is_compared : goal.returns-then-not-is_compared
returns-then-not-is_compared c = search (rules, compare_unaddressed)

pub returns-then-physical_name-value : goal.returns-then-physical_name-value
returns-then-physical_name-value c = search (rules, compare-below)

pub returns : goal.returns
returns c = search (rules, compare-answers)
