-- What slaves do in master-slave rounds (document 01, "What slaves do").
use Rattle.std.specs.Prelude.{ℕ, zero, suc, ◌+◌, ◌*◌, ◌%◌, List, [], ◌∷◌, ◌++◌, map, Bool, false, cond, not, take, drop, eqb, leb}
use Rattle.file.specs.Rules.Order.{both}
use Rattle.file.specs.Rules.Layout.{pending_flag, record_size}
use Rattle.file.specs.Rules.Cluster.{Slave, Cluster, is_awake, configuration, documentation, has_record, record_of, physical_name, new_logical_name}
use Rattle.file.specs.Rules.Cluster.{logical_name, comparison_value, unnamed, broadcast, file_number_of, operation_of, read_operation, write_operation, execute_operation}
use Rattle.file.specs.Rules.Changes.{put_in_slave, with_sleep, with_slaves, with_epoch, with_pending}
use Rattle.frame.specs.Rules.Check.{data_check}

-- ---- the epoch and the pending operation

-- "An accepted MSA sets the epoch to PB0 and becomes pending until the next one"
unfoldable pub with_address : Cluster → ℕ → ℕ → ℕ → ℕ → Cluster
with_address c pb0 pb1 pb2 pb3 = with_pending (with_epoch c pb0) pending_flag pb1 pb2 pb3

-- "Any other round first adds 1 to the epoch, 255 going to 0."
unfoldable pub next_epoch : ℕ → ℕ
next_epoch epoch = (epoch + 1) % 256

unfoldable pub epoch_raised : Cluster → Cluster
epoch_raised c = with_epoch c (next_epoch c.epoch)

-- what is pending: a read or a write of a record, the execute of 0x08 record 2, of 0x08 record 1 or of 0x08 record 4, each at a logical
-- name, or nothing that a slave does something for
pub data Duty : Type 0 where
  nothing : Duty
  reading writing : ℕ → ℕ → ℕ → Duty
  comparing baptizing sleeping : ℕ → Duty

-- "put the whole cluster to sleep by an execute of record 4 of 0x08, our choice of record" (document 02, job 9)
abbrev pub sleep_record : ℕ
sleep_record = 4

-- "Execute 0x08 record 2", "Record 1", "Any other: nothing.", but the sleep's
unfoldable pub execution_of : ℕ → ℕ → ℕ → Duty
execution_of name n r =
    cond (eqb n configuration)
    (cond (eqb r 2) (comparing name) (cond (eqb r 1) (baptizing name) (cond (eqb r sleep_record) (sleeping name) nothing)))
    nothing

-- the operation of a logical name, PB2 and PB3
unfoldable pub duty_by : ℕ → ℕ → ℕ → Duty
duty_by name pb2 pb3 =
    cond (eqb (operation_of pb2) read_operation) (reading name (file_number_of pb2) pb3)
    (cond (eqb (operation_of pb2) write_operation) (writing name (file_number_of pb2) pb3)
    (cond (eqb (operation_of pb2) execute_operation) (execution_of name (file_number_of pb2) pb3) nothing))

-- "MSD carries out the pending operation, or nothing."
unfoldable pub pending_duty : Cluster → Duty
pending_duty c = cond (eqb c.flag pending_flag) (duty_by c.pending_name c.pending_pb2 c.pending_pb3) nothing

-- ---- who is addressed

unfoldable pub is_unnamed : Slave → Bool
is_unnamed s = eqb (logical_name s) unnamed

-- "Addressed are: at 0xFF the unnamed, at 0x00 all others, else those of that logical name": a slave by its own logical name
unfoldable pub addresses : ℕ → ℕ → Bool
addresses name own = cond (eqb name unnamed) (eqb own unnamed) (cond (eqb name broadcast) (not (eqb own unnamed)) (eqb own name))

-- "A sleeping slave takes no part in rounds" (document 02, job 9)
unfoldable pub addressed : ℕ → Slave → Bool
addressed name s = both (is_awake s) (addresses name (logical_name s))

-- ---- what an addressed slave sends: its bytes from slot 1 on

-- "Read: addressed slaves, never unnamed ones, that have the record send its four bytes in slots 1 to 4 and" in slot 5 their check, each
-- that of its own bytes (request 1: "0x49 for a read reply")
unfoldable pub answers_read : ℕ → ℕ → ℕ → Slave → Bool
answers_read name n r s = both (addressed name s) (both (not (is_unnamed s)) (has_record s n r))

unfoldable pub read_reply : List ℕ → List ℕ
read_reply bytes = bytes ++ (data_check bytes ∷ [])

-- "Execute 0x08 record 2: addressed slaves with physical name at least IDCV send 0x00 in slot 1, but none at 0x00."
unfoldable pub answers_compare : ℕ → Slave → Bool
answers_compare name s = both (not (eqb name broadcast)) (both (addressed name s) (leb (comparison_value s) (physical_name s)))

unfoldable pub reply_to : Duty → Slave → List ℕ
reply_to nothing s = []
reply_to (reading name n r) s = cond (answers_read name n r s) (read_reply (record_of s n r)) []
reply_to (writing name n r) s = []
reply_to (comparing name) s = cond (answers_compare name s) (0x00 ∷ []) []
reply_to (baptizing name) s = []
reply_to (sleeping name) s = []

-- the byte of such a reply in a slot
unfoldable pub in_slot : List ℕ → ℕ → List ℕ
in_slot reply zero = []
in_slot reply (suc k) = take 1 (drop k reply)

-- the bytes that the slaves send in a slot
-- "Only slaves count as senders; bit 0 is never set.": no other bytes than theirs, and `in_slot` has none in slot 0
unfoldable pub sent_to : Duty → List Slave → ℕ → List ℕ
sent_to o [] slot = []
sent_to o (s ∷ ss) slot = in_slot (reply_to o s) slot ++ sent_to o ss slot

-- ---- what an addressed slave becomes

-- the bytes of file n from byte k on replaced
unfoldable pub replaced : Slave → ℕ → ℕ → List ℕ → Slave
replaced s n k [] = s
replaced s n k (b ∷ bs) = replaced (put_in_slave s n k b) n (suc k) bs

-- "Write: addressed slaves that have the record replace all four bytes, except in 0x3D and in any record 0x00."
unfoldable pub may_write : ℕ → ℕ → Bool
may_write n r = both (not (eqb n documentation)) (not (eqb r 0x00))

-- record 1 of 0x08, whose byte 3 is the logical name
unfoldable pub is_name_record : ℕ → ℕ → Bool
is_name_record n r = both (eqb n configuration) (eqb r 1)

-- the bytes that a record takes from its byte 0 on: "all four", but document 02, job 5: "A write to that record replaces bytes 0 to 2 and
-- leaves byte 3."
unfoldable pub written : ℕ → ℕ → List ℕ → List ℕ
written n r bytes = cond (is_name_record n r) (take 3 bytes) bytes

-- "The sentence of 001 that writes ignore the logical name is read here as: unnamed slaves take writes at 0xFF."
unfoldable pub takes_write : ℕ → ℕ → ℕ → Slave → Bool
takes_write name n r s = both (addressed name s) (both (has_record s n r) (may_write n r))

-- "Record 1: those with physical name equal to IDCV take the new logical name.": byte 2 of record 1 of 0x08 goes to its byte 3. Nothing
-- else changes it: document 02, job 5, "the logical name as changed by baptizing only" (`cluster/specs/Claims/Renaming`).
unfoldable pub takes_name : ℕ → Slave → Bool
takes_name name s = both (addressed name s) (eqb (physical_name s) (comparison_value s))

unfoldable pub named : Slave → Slave
named s = put_in_slave s configuration (record_size + 3) (new_logical_name s)

unfoldable pub slave_after : Duty → List ℕ → Slave → Slave
slave_after nothing bytes s = s
slave_after (reading name n r) bytes s = s
slave_after (writing name n r) bytes s = cond (takes_write name n r s) (replaced s n (record_size * r) (written n r bytes)) s
slave_after (comparing name) bytes s = s
slave_after (baptizing name) bytes s = cond (takes_name name s) (named s) s
slave_after (sleeping name) bytes s = s

-- "settled before any change": each slave by what it was
unfoldable pub slaves_after : Duty → List ℕ → Cluster → Cluster
slaves_after o bytes c = with_slaves c (map (slave_after o bytes) c.slaves)

-- ---- sleep (document 02, job 9)

-- "addressed slaves that have it fall asleep after that round": one that sleeps is not addressed
unfoldable pub falls_asleep : Duty → Slave → Bool
falls_asleep nothing s = false
falls_asleep (reading name n r) s = false
falls_asleep (writing name n r) s = false
falls_asleep (comparing name) s = false
falls_asleep (baptizing name) s = false
falls_asleep (sleeping name) s = both (addressed name s) (has_record s configuration sleep_record)

-- "A sleeping slave .. is awake after the next accepted MSD or multipartner round.": so is everyone else, but who falls asleep
unfoldable pub rests_after : Duty → Slave → Slave
rests_after o s = with_sleep s (cond (falls_asleep o s) 1 0)

unfoldable pub rested : Duty → Cluster → Cluster
rested o c = with_slaves c (map (rests_after o) c.slaves)
