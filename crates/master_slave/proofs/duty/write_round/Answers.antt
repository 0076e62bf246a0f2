-- `master_slave::duty::write_round` meets its contract. The invariant is `Changing`: the slaves passed are changed, the others are not.
-- Assumes nothing.
use Rattle.master_slave.proofs.SlaveLaws.{data-bytes}
use Rattle.master_slave.proofs.Kept.{slave_after-kept}
use Rattle.master_slave.proofs.Changing.{changing_start}
use Rattle.std.proofs.Common.{rules}
use Rattle.master_slave.proofs.duty.write_round.Goals as goal

pub loop-slave-init : goal.loop-slave-init
loop-slave-init c = search (rules, changing_start, slave_after-kept, data-bytes)
