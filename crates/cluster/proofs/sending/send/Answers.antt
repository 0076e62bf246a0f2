-- `cluster::sending::send` meets its contract: a complete round with the epoch plus 1 is its two frames.
-- Assumes nothing.
use Rattle.cluster.proofs.SentRounds.{pending-sent, carried-sent, sent-done}
use Rattle.cluster.proofs.sending.send.Goals as goal

pub master_slave-requires : goal.master_slave-requires
master_slave-requires c = search pending-sent

pub returns : goal.returns
returns c = search (sent-done, carried-sent)
