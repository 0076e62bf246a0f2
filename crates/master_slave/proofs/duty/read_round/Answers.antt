-- `master_slave::duty::read_round` meets its contract. The invariant is `Hearing`: buffer and last slot are those of the slaves passed.
-- Assumes nothing.
use Rattle.master_slave.proofs.Hearing.{hearing-start, hearing-next, hearing_done, size_of}
use Rattle.std.proofs.Common.{rules}
use Rattle.master_slave.proofs.duty.read_round.Goals as goal

pub loop-slave-init : goal.loop-slave-init
unfolding size_of
loop-slave-init c = search (rules, hearing-start)

pub loop-slave-preserved : goal.loop-slave-preserved
loop-slave-preserved c = search (rules, hearing-next)

pub returns : goal.returns
returns c = search (rules, hearing_done)
