-- `naming::sending::half_round` meets its contract: the four bytes of the number.
-- Assumes nothing.
use Rattle.naming.proofs.SendLaws.{half-sent}
use Rattle.naming.proofs.sending.half_round.Goals as goal

pub returns : goal.returns
returns c = search half-sent
