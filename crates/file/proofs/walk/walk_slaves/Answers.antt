-- `file::walk::walk_slaves` meets its contract. The invariant is `Surveying`: the walk from here is the walk from the start, and the places written so far stand in front of those to come.
-- Assumes nothing.
use Rattle.std.proofs.Common.{rules}
use Rattle.file.proofs.SlaveWalkLaws.{surveying_stop, surveying_next, surveying_done}
use Rattle.file.proofs.walk.walk_slaves.Goals as goal

pub returns-in_err-found : goal.returns-in_err-found
returns-in_err-found c = rw c.from_residual.ensures (surveying_stop c.loop-slave.invariant c.loop-slave-test.true c.in_err-found.ensures)

pub loop-slave-preserved : goal.loop-slave-preserved
loop-slave-preserved c = surveying_next c.loop-slave.invariant c.loop-slave-test.true c.in_ok-found.ensures

pub returns : goal.returns
returns c = search (rules, surveying_done)
