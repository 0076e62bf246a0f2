-- `join::names::mark_names` meets its contract: the names of the slaves so far are marked, from the last on.
-- Assumes nothing.
use Rattle.join.proofs.MarkLaws.{marking_start, marking_below, marking_next, names-done}
use Rattle.std.proofs.Common.{rules}
use Rattle.join.proofs.names.mark_names.Goals as goal

pub loop-slave-init : goal.loop-slave-init
loop-slave-init c = search (rules, marking_start)

pub logical_name-name-requires : goal.logical_name-name-requires
logical_name-name-requires c = search (rules, marking_below)

pub loop-slave-preserved : goal.loop-slave-preserved
loop-slave-preserved c = search (rules, marking_next)

pub returns : goal.returns
returns c = search (rules, names-done)
