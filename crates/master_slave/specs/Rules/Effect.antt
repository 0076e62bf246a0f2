-- What a round does, over the bus and the cluster.
use Rattle.file.specs.Rules.Cluster.{Cluster}
use Rattle.master_slave.specs.Rules.Bus.{Senders}

-- what an accepted frame does: who sends in each slot, and what the cluster becomes
pub record Effect : Type 0 where
  pub senders : Senders
  pub after : Cluster
