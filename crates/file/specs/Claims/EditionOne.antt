-- The numbers of the layout at the width of edition 1, as document 01 has them ("The cluster file": "Our own layout, edition 1. Header, 16
-- bytes: .. 2 the edition, 1; .. 6 to 7 the file's length; 8 the epoch; 9 the pending flag, 0 or 1; 10 to 12 the pending logical name, PB2 and PB3; 13 to 15
-- zero. A table entry is 4 bytes .. A directory entry is 4 bytes"; "Records 1 and 2 of 0x3D are the physical name"; "In 0x08 (layout of
-- 004): record 1 holds the new logical name in byte 2 and the logical name in byte 3; records 2 and 3 hold the comparison value IDCV."), and
-- the sleep byte (document 02, job 9: "The zero at the end of a table entry becomes 0 awake or 1 asleep."; "Number 6 now refuses a sleep byte
-- above 1.").
use Rattle.std.specs.Prelude.{ℕ, ◌+◌, ◌*◌, ◌-◌, ◌≤◌, ◌<◌, ◌≡◌, ◌≢◌, List, [], ◌∷◌, ◌++◌, true, not, length, get_or, eqb, ltb}
use Rattle.file.specs.Rules.Bytes.{number_of, bytes_of, part}
use Rattle.file.specs.Rules.Order.{either}
use Rattle.file.specs.Rules.Layout.{width_in, width_of, edition_of, zeros_length, header_size, entry_size_lem, fill_length, max_slaves, max_length}
use Rattle.file.specs.Rules.Layout.{mark_place, edition_place, count_place, table_place, length_place, epoch_place, flag_place, pending_name_place, pending_pb2_place, pending_pb3_place, zeros_place}
use Rattle.file.specs.Rules.Cluster.{File, Slave, no_slave_lem, Cluster, last_record, bytes_in, physical_name, new_logical_name, logical_name, comparison_value}
use Rattle.file.specs.Rules.Encode.{directory_entry, table_entry, header, file_length}
use Rattle.file.specs.Rules.Decode.{offset_at, decode}
use Rattle.file.specs.Rules.FileGrounds.{wrong_size, wrong_length, broken_layout, file_ground}

-- where a file keeps the sleep byte of each slave; above 1 it is 6 that holds, and no accepted file has one
pub record SleepBytes (f : List ℕ) (place : ℕ → ℕ) : Type 0 where
  pub read : (i : ℕ) → i < length (decode f).slaves → (get_or (decode f).slaves i no_slave_lem).asleep ≡ get_or f (place i) 0
  pub above : (i : ℕ) → i < length (decode f).slaves → 1 < get_or f (place i) 0 → broken_layout (width_of f) f ≡ true
  pub most : file_ground f ≡ 0 → (i : ℕ) → i < length (decode f).slaves → get_or f (place i) 0 ≤ 1

-- how a file is read that is none of edition 2: "otherwise those of edition 1" (document 02, job 10)
pub record ReadAsOne (f : List ℕ) : Type 0 where
  pub width : width_of f ≡ 2
  pub size : wrong_size (width_of f) f ≡ either (ltb (length f) 16) (ltb 32768 (length f))
  pub length_at : wrong_length (width_of f) f ≡ not (eqb (offset_at 2 f 6) (length f))
  pub epoch_at : (decode f).epoch ≡ get_or f 8 0
  pub flag_at_lem : (decode f).flag ≡ get_or f 9 0
  pub name_at : (decode f).pending_name ≡ get_or f 10 0
  pub pb2_at : (decode f).pending_pb2 ≡ get_or f 11 0
  pub pb3_at : (decode f).pending_pb3 ≡ get_or f 12 0
  pub sleeps : SleepBytes f (λ (i : ℕ). 19 + 4 * i)

pub record EditionOne : Type 0 where
  pub width : width_in 1 ≡ 2
  pub edition : edition_of 2 ≡ 1
  -- the edition of an edition's width is that edition
  pub edition_back : (e : ℕ) → edition_of (width_in e) ≡ e
  -- where each field of the header begins
  pub mark_from : mark_place ≡ 0
  pub edition_from : edition_place ≡ 2
  pub count_from : count_place ≡ 3
  pub table_from : table_place ≡ 4
  pub length_from : length_place 2 ≡ 6
  pub epoch_from : epoch_place 2 ≡ 8
  pub flag_from : flag_place 2 ≡ 9
  pub name_from : pending_name_place 2 ≡ 10
  pub pb2_from : pending_pb2_place 2 ≡ 11
  pub pb3_from : pending_pb3_place 2 ≡ 12
  pub zeros_from : zeros_place 2 ≡ 13
  -- of a file of either edition: bytes 2 and 3 are the edition and the slave count in both
  pub edition_at : (f : List ℕ) → file_ground f ≡ 0 → (decode f).edition ≡ get_or f 2 0
  pub count_at : (f : List ℕ) → length (decode f).slaves ≡ get_or f 3 0
  pub read : (f : List ℕ) → get_or f 2 0 ≢ 2 → ReadAsOne f
  pub zeros_at : header_size 2 - zeros_length 2 ≡ 13
  pub zeros : zeros_length 2 ≡ 3
  pub header_length : header_size 2 ≡ 16
  pub entry : entry_size_lem 2 ≡ 4
  pub fill : fill_length 2 ≡ 0
  pub slaves : max_slaves 2 ≡ 32
  pub size : max_length 2 ≡ 32768
  pub header_bytes : (c : Cluster) →
      header 2 c ≡
      (0x54 ∷ 0x41 ∷ 1 ∷ length c.slaves ∷ 0 ∷ 16 ∷ []) ++
      (bytes_of 2 (file_length 2 c.slaves) ++ (c.epoch ∷ c.flag ∷ c.pending_name ∷ c.pending_pb2 ∷ c.pending_pb3 ∷ 0 ∷ 0 ∷ 0 ∷ []))
  pub table_bytes : (place : ℕ) (s : Slave) → table_entry 2 place s ≡ bytes_of 2 place ++ (length s.files ∷ s.asleep ∷ [])
  pub directory_bytes : (place : ℕ) (x : File) → directory_entry 2 place x ≡ x.number ∷ last_record x.bytes ∷ bytes_of 2 place
  pub physical_name_at : (s : Slave) → physical_name s ≡ number_of (part (bytes_in s 0x3D) 4 8)
  pub new_logical_name_at : (s : Slave) → new_logical_name s ≡ get_or (bytes_in s 0x08) 6 0
  pub logical_name_at : (s : Slave) → logical_name s ≡ get_or (bytes_in s 0x08) 7 0
  pub comparison_value_at : (s : Slave) → comparison_value s ≡ number_of (part (bytes_in s 0x08) 8 8)
