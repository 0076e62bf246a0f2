-- `file::writers::set_pending` meets its contract: the stores give the cluster with that operation pending.
-- Assumes nothing.
use Rattle.file.proofs.StoreLaws.{pending-byte, becomes-pending}
use Rattle.std.proofs.Common.{rules}
use Rattle.file.proofs.writers.set_pending.Goals as goal

pub pb2_of-pb2-requires : goal.pb2_of-pb2-requires
pb2_of-pb2-requires c = search (rules, pending-byte)

pub returns : goal.returns
returns c = search (rules, becomes-pending)
