-- `master_slave::duty::compare_round` meets its contract. The invariant is `Unanswered`: no slave that was passed has replied.
-- Assumes nothing.
use Rattle.master_slave.proofs.Settled.{unanswered-start, unanswered_next, answered, unanswered_done}
use Rattle.std.proofs.Common.{rules}
use Rattle.master_slave.proofs.duty.compare_round.Goals as goal

pub loop-slave-init : goal.loop-slave-init
loop-slave-init c = search (rules, unanswered-start)

pub returns-then-last-eq-COMPARE_SLOT : goal.returns-then-last-eq-COMPARE_SLOT
returns-then-last-eq-COMPARE_SLOT c = search (rules, answered)

pub loop-slave-preserved : goal.loop-slave-preserved
loop-slave-preserved c = search (rules, unanswered_next)

pub returns : goal.returns
returns c = search (rules, unanswered_done)
