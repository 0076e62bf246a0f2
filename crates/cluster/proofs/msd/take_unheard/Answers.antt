-- `cluster::msd::take_unheard` meets its contract: a law for each way.
-- Assumes nothing.
use Rattle.cluster.proofs.UnheardLaws.{unheard_refused, unheard_taken}
use Rattle.std.proofs.Common.{rules}
use Rattle.cluster.proofs.msd.take_unheard.Goals as goal

pub returns-in-Err : goal.returns-in-Err
returns-in-Err c = search (rules, unheard_refused)

pub returns-in-Ok : goal.returns-in-Ok
returns-in-Ok c = search (rules, unheard_taken)
