-- `file::writers::set_epoch` meets its contract: the store gives the cluster with that epoch.
-- Assumes nothing.
use Rattle.file.proofs.StoreLaws.{becomes-epoch}
use Rattle.std.proofs.Common.{rules}
use Rattle.file.proofs.writers.set_epoch.Goals as goal

pub returns : goal.returns
returns c = search (rules, becomes-epoch)
