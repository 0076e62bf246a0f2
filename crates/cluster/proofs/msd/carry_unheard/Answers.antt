-- `cluster::msd::carry_unheard` meets its contract: the epoch alone is raised, or the data part is carried out.
-- Assumes nothing.
use Rattle.cluster.proofs.UnheardLaws.{left_alone, left_carried}
use Rattle.std.proofs.Common.{rules}
use Rattle.cluster.proofs.msd.carry_unheard.Goals as goal

pub returns-then-not-sleepers : goal.returns-then-not-sleepers
returns-then-not-sleepers c = search (rules, left_alone)

pub returns : goal.returns
returns c = search (rules, left_carried)
