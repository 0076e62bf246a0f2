-- The code's duties, data and complete rounds in the terms of the rules.
use Rattle.std.specs.Prelude.{ℕ, List, [], ◌∷◌, ◌≡◌, cond, Bool, true, false, eqb}
use Rattle.std.proofs.lemmas.List.Edits.{sets}
use Rattle.file.specs.Rules.Bytes.{Bytes}
use Rattle.file.specs.Rules.Cluster.{Cluster, pb2_of, read_operation, write_operation, execute_operation}
use Rattle.file.specs.Inner.Typed.{file_in, record_in, name_in_lem, operation_in}
use Rattle.master_slave.specs.declared.types.RecordAddress.{RecordAddress}
use Rattle.master_slave.specs.declared.types.DataBytes.{DataBytes}
use Rattle.master_slave.specs.declared.types.MasterSlaveRound.{MasterSlaveRound}
use Rattle.master_slave.specs.declared.pending.Duty.{Duty as CodeDuty}
use Rattle.master_slave.specs.declared.pending.Duty.TheVariants as duties
use Rattle.master_slave.specs.Rules.Slaves.{with_address, Duty, nothing, reading, writing, comparing, baptizing, sleeping, execution_of, sent_to, slaves_after}
use Rattle.master_slave.specs.Rules.Slaves.{epoch_raised, pending_duty, rested}
use Rattle.master_slave.specs.Rules.Effect.{Effect}

abbrev pub reading_at : RecordAddress → Duty
reading_at a = reading (name_in_lem a.name) (file_in a.number) (record_in a.«record»)

abbrev pub writing_at : RecordAddress → Duty
writing_at a = writing (name_in_lem a.name) (file_in a.number) (record_in a.«record»)

abbrev pub execution_at : RecordAddress → Duty
execution_at a = execution_of (name_in_lem a.name) (file_in a.number) (record_in a.«record»)

-- a duty of the code, by the address that it is about
unfoldable pub duty_at : CodeDuty → RecordAddress → Duty
duty_at duties.Nothing a = nothing
duty_at duties.Read a = reading_at a
duty_at duties.Write a = writing_at a
duty_at duties.Compare a = comparing (name_in_lem a.name)
duty_at duties.Baptize a = baptizing (name_in_lem a.name)
duty_at duties.Sleep a = sleeping (name_in_lem a.name)

-- that of an operation by its number
unfoldable pub duty_for : ℕ → RecordAddress → Duty
duty_for operation a =
    cond (eqb operation read_operation) (reading_at a)
    (cond (eqb operation write_operation) (writing_at a)
    (cond (eqb operation execute_operation) (execution_at a) nothing))

abbrev pub data_in : DataBytes → List ℕ
data_in d = d.b0 ∷ d.b1 ∷ d.b2 ∷ d.b3 ∷ []

-- the bytes, which are bytes, stored from a place on
pub record DataPut (old new : List ℕ) (place : ℕ) (bytes : List ℕ) : Type 0 where
  pub all : Bytes bytes
  pub stored : new ≡ sets old place bytes

-- the cluster after a round's address frame with that epoch, and the round's data
unfoldable pub after_address : Cluster → ℕ → MasterSlaveRound → Cluster
after_address c epoch r = with_address c epoch (name_in_lem r.name) (pb2_of (file_in r.number) (operation_in r.operation)) (record_in r.«record»)

abbrev pub round_data : MasterSlaveRound → List ℕ
round_data r = r.b0 ∷ r.b1 ∷ r.b2 ∷ r.b3 ∷ []

-- a duty carried out in a cluster whose epoch is raised already
unfoldable pub duty_effect : Duty → List ℕ → Cluster → Effect
duty_effect o bytes c = record { senders = sent_to o c.slaves; after = slaves_after o bytes c }

-- what an accepted data frame with these bytes does
abbrev pub data_effect : Cluster → List ℕ → Effect
data_effect c bytes =
    record { senders = sent_to (pending_duty c) c.slaves; after = rested (pending_duty c) (slaves_after (pending_duty c) bytes (epoch_raised c)) }

-- whether a duty puts slaves to sleep, and whether it leaves each slave's files as they are and puts nobody to sleep. They unfold
-- everywhere: the code's functions of these cases need no proof of their own.
abbrev pub puts_to_sleep : CodeDuty → Bool
puts_to_sleep duties.Nothing = false
puts_to_sleep duties.Read = false
puts_to_sleep duties.Write = false
puts_to_sleep duties.Compare = false
puts_to_sleep duties.Baptize = false
puts_to_sleep duties.Sleep = true

abbrev pub leaves_slaves : CodeDuty → Bool
leaves_slaves duties.Nothing = true
leaves_slaves duties.Read = true
leaves_slaves duties.Write = false
leaves_slaves duties.Compare = true
leaves_slaves duties.Baptize = false
leaves_slaves duties.Sleep = false
