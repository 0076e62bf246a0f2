-- `join::names::mark_remainders` meets its contract: the remainders of the slaves so far are marked, from the last on.
-- Assumes nothing.
use Rattle.join.proofs.MarkLaws.{marking_start, marking_below, marking_done, remainder-next}
use Rattle.std.proofs.Common.{rules}
use Rattle.join.proofs.names.mark_remainders.Goals as goal

pub loop-slave-init : goal.loop-slave-init
loop-slave-init c = search (rules, marking_start)

pub physical_name-name-requires : goal.physical_name-name-requires
physical_name-name-requires c = search (rules, marking_below)

pub loop-slave-preserved : goal.loop-slave-preserved
loop-slave-preserved c = search (rules, remainder-next)

pub returns : goal.returns
returns c = search (rules, marking_done)
