-- Words of the contract of a complete round's sending: the round that the code's struct stands for, and which rounds may be sent.
use Rattle.std.specs.Prelude.{ℕ, ◌≤◌, ◌≡◌, List, [], ◌∷◌, false, cond, eqb}
use Rattle.file.specs.Rules.Bytes.{Byte}
use Rattle.file.specs.Rules.Cluster.{Cluster, pb2_of, write_operation, execute_operation}
use Rattle.file.specs.Inner.Typed.{file_in, record_in, name_in_lem, operation_in}
use Rattle.frame.specs.Rules.FrameGrounds.{broadcast_read}
use Rattle.master_slave.specs.Rules.Slaves.{with_address, next_epoch}
use Rattle.cluster.specs.Rules.MasterSlave.{Sent}
use Rattle.master_slave.specs.Inner.Duties.{round_data}
use Rattle.master_slave.specs.declared.types.MasterSlaveRound.{MasterSlaveRound}

-- the round that a struct stands for; without a write its four bytes are not sent, so structs that differ in these alone stand for one
abbrev pub sent_for : MasterSlaveRound → Sent
sent_for r =
    record {
      name = name_in_lem r.name;
      file = file_in r.number;
      operation = operation_in r.operation;
      «record» = record_in r.«record»;
      content = cond (eqb (operation_in r.operation) write_operation) (round_data r) [];
    }

-- the data of an operation: four bytes of a write, none of another
pub data DataOf : ℕ → List ℕ → Type 0 where
  of_write : {a b c d : ℕ} → Byte a → Byte b → Byte c → Byte d → DataOf write_operation (a ∷ b ∷ c ∷ d ∷ [])
  of_other : {operation : ℕ} → eqb operation write_operation ≡ false → DataOf operation []

-- a round of bytes whose frames no ground refuses
pub record MaySend (s : Sent) : Type 0 where
  pub name : Byte s.name
  pub file : s.file ≤ 63
  pub operation : s.operation ≤ execute_operation
  pub «record» : Byte s.«record»
  pub broadcast : broadcast_read s.operation s.name ≡ false
  pub content : DataOf s.operation s.content

-- the cluster with a round's operation pending
unfoldable pub asked : Cluster → Sent → Cluster
asked c s = with_address c (next_epoch c.epoch) s.name (pb2_of s.file s.operation) s.«record»
