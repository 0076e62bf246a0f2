-- Which bytes a write puts, and writes at 0xFF (document 01, "What slaves do": "The sentence of 001 that writes ignore the logical name is
-- read here as: unnamed slaves take writes at 0xFF.").
use Rattle.std.specs.Prelude.{ℕ, ◌<◌, ◌≡◌, ◌≢◌, List, [], ◌∷◌, ◌++◌, true, false, cond, length, get_or, take, drop}
use Rattle.file.specs.Rules.Bytes.{Bytes}
use Rattle.file.specs.Rules.Layout.{pending_flag}
use Rattle.file.specs.Rules.Cluster.{Slave, no_slave_lem, has_record, record_of, logical_name, unnamed, documentation, pb2_of, write_operation}
use Rattle.file.specs.Rules.Decode.{decode}
use Rattle.file.specs.Rules.Changes.{with_sleep}
use Rattle.frame.specs.Rules.Fireworks.{msd}
use Rattle.frame.specs.Rules.Frames.{between}
use Rattle.master_slave.specs.Rules.Slaves.{addressed, is_name_record}
use Rattle.cluster.specs.Rules.RoundGrounds.{round_by_lem}
use Rattle.cluster.specs.Rules.Round.{round_ground, round_on}
use Rattle.cluster.specs.Claims.Pending.{Pending}

-- the slave at an index of the file's slave table
unfoldable pub slave_in : List ℕ → ℕ → Slave
slave_in file i = get_or (decode file).slaves i no_slave_lem

-- an accepted MSD on a file with a write of record r of file n pending at 0xFF, "except in 0x3D and in any record 0x00"
pub record WriteAtUnnamed (file frame buffer : List ℕ) (n r : ℕ) : Type 0 where
  pub is_msd : round_by_lem frame ≡ msd
  pub accepted : round_ground file frame buffer ≡ 0
  pub pending : Pending (decode file) pending_flag unnamed (pb2_of n write_operation) r
  pub not_documentation : n ≢ documentation
  pub not_header : r ≢ 0x00

-- what a write leaves in a record: the frame's four data bytes; in record 1 of 0x08 "bytes 0 to 2", and byte 3 as it was (document 02,
-- job 5)
unfoldable pub record_after : ℕ → ℕ → List ℕ → List ℕ → List ℕ
record_after n r old bytes = cond (is_name_record n r) (take 3 bytes ++ drop 3 old) bytes

-- afterwards every unnamed slave that is awake and has the record holds this in it
abbrev pub UnnamedTakeWrites : Type 0
UnnamedTakeWrites =
    (file frame buffer : List ℕ) (n r : ℕ) → Bytes file → Bytes frame → WriteAtUnnamed file frame buffer n r →
    (i : ℕ) → i < length (decode file).slaves → (slave_in file i).asleep ≡ 0 → logical_name (slave_in file i) ≡ unnamed →
    has_record (slave_in file i) n r ≡ true →
    record_of (slave_in (round_on file frame buffer).2 i) n r ≡ record_after n r (record_of (slave_in file i) n r) (between frame)

-- ---- every write, by the numbers of file and record

-- an accepted MSD on a file with a write of record r of file n pending at a logical name, and a slave of its table that is awake,
-- addressed and has the record
pub record WriteReaches (file frame buffer : List ℕ) (name n r i : ℕ) : Type 0 where
  pub is_msd : round_by_lem frame ≡ msd
  pub accepted : round_ground file frame buffer ≡ 0
  pub pending : Pending (decode file) pending_flag name (pb2_of n write_operation) r
  pub in_table : i < length (decode file).slaves
  pub is_addressed : addressed name (slave_in file i) ≡ true
  pub has : has_record (slave_in file i) n r ≡ true

-- afterwards the slave holds these bytes in that record, and in any other what it held
pub record Holds (file after : List ℕ) (i n r : ℕ) (bytes : List ℕ) : Type 0 where
  pub here : record_of (slave_in after i) n r ≡ bytes
  pub elsewhere : (n' r' : ℕ) → (n' ≡ n → r' ≡ r → ⊥) → record_of (slave_in after i) n' r' ≡ record_of (slave_in file i) n' r'

-- "A write to that record replaces bytes 0 to 2 and leaves byte 3." (document 02, job 5): record 1 of 0x08
abbrev pub NameRecordWritten : Type 0
NameRecordWritten =
    (file frame buffer : List ℕ) (name n r i : ℕ) → Bytes file → Bytes frame → WriteReaches file frame buffer name n r i → n ≡ 0x08 → r ≡ 1 →
    Holds file (round_on file frame buffer).2 i n r
    (get_or frame 1 0 ∷ get_or frame 2 0 ∷ get_or frame 3 0 ∷ get_or (record_of (slave_in file i) n r) 3 0 ∷ [])

-- "addressed slaves that have the record replace all four bytes, except in 0x3D and in any record 0x00" (document 01): every other one
abbrev pub RecordWritten : Type 0
RecordWritten =
    (file frame buffer : List ℕ) (name n r i : ℕ) → Bytes file → Bytes frame → WriteReaches file frame buffer name n r i →
    (n ≡ 0x08 → r ≡ 1 → ⊥) → n ≢ 0x3D → r ≢ 0x00 →
    Holds file (round_on file frame buffer).2 i n r (get_or frame 1 0 ∷ get_or frame 2 0 ∷ get_or frame 3 0 ∷ get_or frame 4 0 ∷ [])

-- "except in 0x3D and in any record 0x00"; and a slave that is not addressed, a sleeping one among them, or does not have the record,
-- keeps all that it holds, and is awake
pub data NotReached (file : List ℕ) (name n r i : ℕ) : Type 0 where
  in_documentation : n ≡ 0x3D → NotReached file name n r i
  in_header : r ≡ 0x00 → NotReached file name n r i
  not_addressed : addressed name (slave_in file i) ≡ false → NotReached file name n r i
  lacking : has_record (slave_in file i) n r ≡ false → NotReached file name n r i

abbrev pub NothingWritten : Type 0
NothingWritten =
    (file frame buffer : List ℕ) (name n r i : ℕ) → Bytes file → Bytes frame → round_by_lem frame ≡ msd → round_ground file frame buffer ≡ 0 →
    Pending (decode file) pending_flag name (pb2_of n write_operation) r → i < length (decode file).slaves → NotReached file name n r i →
    slave_in (round_on file frame buffer).2 i ≡ with_sleep (slave_in file i) 0
