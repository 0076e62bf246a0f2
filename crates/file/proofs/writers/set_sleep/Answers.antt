-- `file::writers::set_sleep` meets its contract: the store gives the cluster with that sleep byte.
-- Assumes nothing.
use Rattle.file.proofs.SleepLaws.{becomes_sleep}
use Rattle.std.proofs.Common.{rules}
use Rattle.file.proofs.writers.set_sleep.Goals as goal

pub returns : goal.returns
returns c = search (rules, becomes_sleep)
