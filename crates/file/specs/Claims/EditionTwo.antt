-- The numbers of the layout at the width of edition 2, as document 02 has them (job 10: "In edition 2 offsets and length have 4 bytes, the
-- limits are 64 slaves and 65,536 bytes. Header, 24 bytes: 0 to 3 as before, 4 to 7 table offset 24, 8 to 11 length, 12 to 16 epoch and
-- pending bytes, 17 to 23 zero. A table entry is offset (4), file count, sleep byte, two zeros; a directory entry is file number, record
-- count, two zeros, offset (4).").
use Rattle.std.specs.Prelude.{ℕ, ◌+◌, ◌*◌, ◌-◌, ◌≤◌, ◌<◌, ◌≡◌, ◌≢◌, List, [], ◌∷◌, ◌++◌, true, not, length, get_or, eqb, ltb}
use Rattle.file.specs.Rules.Bytes.{bytes_of, part}
use Rattle.file.specs.Rules.Order.{either}
use Rattle.file.specs.Rules.Layout.{width_in, width_of, edition_of, zeros_length, header_size, entry_size_lem, fill_length, max_slaves, max_length}
use Rattle.file.specs.Rules.Layout.{length_place, epoch_place, flag_place, pending_name_place, pending_pb2_place, pending_pb3_place, zeros_place}
use Rattle.file.specs.Rules.Cluster.{File, Slave, Cluster, last_record}
use Rattle.file.specs.Rules.Encode.{directory_entry, table_entry, header, file_length}
use Rattle.file.specs.Rules.Decode.{offset_at, decode}
use Rattle.file.specs.Rules.FileGrounds.{wrong_size, wrong_length, wrong_header, broken_layout, walk_slave, to}
use Rattle.file.specs.Claims.EditionOne.{SleepBytes}

-- the zeros of edition 2: one that is not zero is 5 in the header, 6 in an entry. Slave i's table entry begins at byte 24 + 8 i and its
-- zeros are bytes 6 and 7 of it; those of a directory entry are its bytes 2 and 3.
pub record Zeros (f : List ℕ) : Type 0 where
  pub header : (k : ℕ) (from : 17 ≤ k) (below : k < 24) → get_or f k 0 ≢ 0 → wrong_header (width_of f) f ≡ true
  pub table :
      (i k : ℕ) (slave : i < length (decode f).slaves) (from : 6 ≤ k) (below : k < 8)
      → get_or f (24 + 8 * i + k) 0 ≢ 0
      → broken_layout (width_of f) f ≡ true
  pub directory :
      (i j k : ℕ) (slave : i < length (decode f).slaves) (file : j < get_or f (28 + 8 * i) 0) (from : 2 ≤ k) (below : k < 4)
      → get_or f (offset_at 4 f (24 + 8 * i) + 8 * j + k) 0 ≢ 0
      → broken_layout (width_of f) f ≡ true

-- how a file of edition 2 is read: "edition 2's (24 and 65,536) if byte 2 is present and is 2"
pub record ReadAsTwo (f : List ℕ) : Type 0 where
  pub width : width_of f ≡ 4
  pub size : wrong_size (width_of f) f ≡ either (ltb (length f) 24) (ltb 65536 (length f))
  pub length_at : wrong_length (width_of f) f ≡ not (eqb (offset_at 4 f 8) (length f))
  pub table_at : offset_at 4 f 4 ≢ 24 → wrong_header (width_of f) f ≡ true
  pub zeros : Zeros f
  pub epoch_at : (decode f).epoch ≡ get_or f 12 0
  pub flag_at_lem : (decode f).flag ≡ get_or f 13 0
  pub name_at : (decode f).pending_name ≡ get_or f 14 0
  pub pb2_at : (decode f).pending_pb2 ≡ get_or f 15 0
  pub pb3_at : (decode f).pending_pb3 ≡ get_or f 16 0
  pub sleeps : SleepBytes f (λ (i : ℕ). 29 + 8 * i)

-- the last table entry of the longest file, of a slave with no files: its offset is the file's end, "00 01 00 00"
pub record LastEntry (f : List ℕ) (t : ℕ) : Type 0 where
  pub full : length f ≡ 65536
  pub within : t + 8 ≤ length f
  pub bytes : part f t 8 ≡ 0 ∷ 1 ∷ 0 ∷ 0 ∷ 0 ∷ 0 ∷ 0 ∷ 0 ∷ []

pub record EditionTwo : Type 0 where
  pub width : width_in 2 ≡ 4
  pub edition : edition_of 4 ≡ 2
  -- where each field of the header begins: the mark, the edition, the slave count and the table's offset as in edition 1
  pub length_from : length_place 4 ≡ 8
  pub epoch_from : epoch_place 4 ≡ 12
  pub flag_from : flag_place 4 ≡ 13
  pub name_from : pending_name_place 4 ≡ 14
  pub pb2_from : pending_pb2_place 4 ≡ 15
  pub pb3_from : pending_pb3_place 4 ≡ 16
  pub zeros_from : zeros_place 4 ≡ 17
  pub read : (f : List ℕ) → get_or f 2 0 ≡ 2 → ReadAsTwo f
  pub zeros_at : header_size 4 - zeros_length 4 ≡ 17
  pub zeros : zeros_length 4 ≡ 7
  pub header_length : header_size 4 ≡ 24
  pub entry : entry_size_lem 4 ≡ 8
  pub fill : fill_length 4 ≡ 2
  pub slaves : max_slaves 4 ≡ 64
  pub size : max_length 4 ≡ 65536
  pub header_bytes : (c : Cluster) →
      header 4 c ≡
      (0x54 ∷ 0x41 ∷ 2 ∷ length c.slaves ∷ 0 ∷ 0 ∷ 0 ∷ 24 ∷ []) ++
      (bytes_of 4 (file_length 4 c.slaves) ++
      (c.epoch ∷ c.flag ∷ c.pending_name ∷ c.pending_pb2 ∷ c.pending_pb3 ∷ 0 ∷ 0 ∷ 0 ∷ 0 ∷ 0 ∷ 0 ∷ 0 ∷ []))
  pub table_bytes : (place : ℕ) (s : Slave) → table_entry 4 place s ≡ bytes_of 4 place ++ (length s.files ∷ s.asleep ∷ 0 ∷ 0 ∷ [])
  pub directory_bytes : (place : ℕ) (x : File) → directory_entry 4 place x ≡ x.number ∷ last_record x.bytes ∷ 0 ∷ 0 ∷ bytes_of 4 place
  pub count_above : (f : List ℕ) → 64 < get_or f 3 0 → wrong_header 4 f ≡ true
  pub last_entry_lem : (f : List ℕ) (t : ℕ) → LastEntry f t → walk_slave 4 f t 65536 ≡ to 65536
