-- `master_slave::slaves::write_slave` meets its contract: a law for each way.
-- Assumes nothing.
use Rattle.master_slave.proofs.SlaveLaws.{after-asleep, record-room, write_unaddressed, write_missing, write-found}
use Rattle.std.proofs.Common.{rules}
use Rattle.master_slave.proofs.slaves.write_slave.Goals as goal

pub returns-then-not-is_awake : goal.returns-then-not-is_awake
returns-then-not-is_awake c = search (rules, after-asleep)

pub returns-then-not-is_addressed : goal.returns-then-not-is_addressed
returns-then-not-is_addressed c = search (rules, write_unaddressed)

pub returns-in_default : goal.returns-in_default
returns-in_default c = search (rules, write_missing)

pub put_data-requires : goal.put_data-requires
put_data-requires c = search (rules, record-room)

pub returns : goal.returns
returns c = search (rules, write-found)
