-- A complete master-slave round as a master sends it, an address frame and then its data frame (document 01, "The naming run": "one
-- complete master-slave round .., PB0 being the file's epoch plus 1 modulo 256").
use Rattle.std.specs.Prelude.{ℕ, List, [], ◌∷◌, cond, eqb}
use Rattle.file.specs.Rules.Cluster.{Cluster, write_operation}
use Rattle.file.specs.Rules.Decode.{decode}
use Rattle.frame.specs.Rules.Fireworks.{data_firework}
use Rattle.frame.specs.Rules.Frames.{address_frame, data_frame}
use Rattle.master_slave.specs.Rules.Slaves.{next_epoch}
use Rattle.cluster.specs.Rules.Round.{Answer, round_on}

-- what the master sends: logical name, file, operation and record of the address frame, and the data of a write
pub record Sent : Type 0 where
  pub name : ℕ
  pub file : ℕ
  pub operation : ℕ
  pub «record» : ℕ
  pub content : List ℕ

-- the round's address frame, "PB0 being the file's epoch plus 1 modulo 256"
unfoldable pub address_sent : Cluster → Sent → List ℕ
address_sent c s = address_frame (next_epoch c.epoch) s.name s.file s.operation s.«record»

-- and its data frame: the data of a write, else the firework alone
unfoldable pub data_sent : Sent → List ℕ
data_sent s = cond (eqb s.operation write_operation) (data_frame s.content) (data_firework ∷ [])

-- the two frames on a file, one after the other: the answer and buffer of the data frame, and the file
unfoldable pub round_sent : List ℕ → Sent → List ℕ → Answer × List ℕ × List ℕ
round_sent file s buffer =
    let first = round_on file (address_sent (decode file) s) buffer in round_on first.2 (data_sent s) first.1
