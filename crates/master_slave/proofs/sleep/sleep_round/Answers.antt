-- `master_slave::sleep::sleep_round` meets its contract: the slaves passed are asleep or awake, by the rule.
-- Assumes nothing.
use Rattle.master_slave.proofs.Kept.{rests_kept}
use Rattle.master_slave.proofs.Changing.{changing_start}
use Rattle.std.proofs.Common.{rules}
use Rattle.master_slave.proofs.sleep.sleep_round.Goals as goal

pub loop-slave-init : goal.loop-slave-init
loop-slave-init c = search (rules, changing_start, rests_kept)
