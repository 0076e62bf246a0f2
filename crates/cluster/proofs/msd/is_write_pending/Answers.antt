-- `cluster::msd::is_write_pending` meets its contract: a law for each way.
-- Assumes nothing.
use Rattle.cluster.proofs.FrameLaws.{pending-idle, pending-write}
use Rattle.std.proofs.Common.{rules}
use Rattle.cluster.proofs.msd.is_write_pending.Goals as goal

pub returns-then-pending-ne-PENDING : goal.returns-then-pending-ne-PENDING
returns-then-pending-ne-PENDING c = search (rules, pending-idle)

pub returns : goal.returns
returns c = search (rules, pending-write)
