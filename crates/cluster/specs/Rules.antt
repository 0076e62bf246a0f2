-- What document 01 says of a round on a cluster, in its order: one frame on a file, a complete master-slave round; and what document 02
-- says of the summary beside a file.
pub mod RoundGrounds
pub mod Round
pub mod MasterSlave
pub mod Summary
