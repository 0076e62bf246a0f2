-- `multipartner::round_files::round_files` meets its contract. The invariant is `Finding`: the files of the slaves passed are found.
-- Assumes nothing.
use Rattle.multipartner.proofs.RoundFileLaws.{finding_start, finding_next, finding_done}
use Rattle.multipartner.proofs.OpenLaws.{start-low, end_low}
use Rattle.std.proofs.Common.{rules}
use Rattle.multipartner.proofs.round_files.round_files.Goals as goal

pub loop-slave-init : goal.loop-slave-init
loop-slave-init c = search (rules, finding_start)

pub overflow_cast-lists : goal.overflow_cast-lists
overflow_cast-lists c =
    start-low c.loop-slave.invariant.becomes c.round_file-found.ensures

pub overflow_cast-lists-in-loop-slave : goal.overflow_cast-lists-in-loop-slave
overflow_cast-lists-in-loop-slave c =
    end_low c.loop-slave.invariant.becomes c.round_file-found.ensures

pub loop-slave-preserved : goal.loop-slave-preserved
loop-slave-preserved c = search (rules, finding_next)

pub returns : goal.returns
returns c = search (rules, finding_done)
