-- `master_slave::slaves::read_slave` meets its contract: a law for each way.
-- Assumes nothing.
use Rattle.master_slave.proofs.SlaveLaws.{reply-asleep, record-room, read_unaddressed, read_missing, read_found}
use Rattle.std.proofs.Common.{rules}
use Rattle.master_slave.proofs.slaves.read_slave.Goals as goal

pub returns-then-not-is_awake : goal.returns-then-not-is_awake
returns-then-not-is_awake c = search (rules, reply-asleep)

pub returns-then-not-is_read : goal.returns-then-not-is_read
returns-then-not-is_read c = search (rules, read_unaddressed)

pub returns-in_default : goal.returns-in_default
returns-in_default c = search (rules, read_missing)

pub send_record-requires : goal.send_record-requires
send_record-requires c = search (rules, record-room)

pub returns : goal.returns
returns c = search (rules, read_found)
