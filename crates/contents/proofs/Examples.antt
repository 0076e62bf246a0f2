-- Files of two slaves, read from the two editions of one cluster file, computed: one that both have and one that only the first or the
-- last has, into buffers of every kind; files and slaves that are not there; cluster files that are refused, one that loading alone refuses;
-- a file of most bytes. And the claims at them.
-- Assumes nothing.
use Rattle.std.proofs.Common.{ℕ, ◌+◌, ◌-◌, ◌^◌, ◌≤◌, arith, ◌≡◌, refl, List, [], ◌∷◌, ◌++◌, true, length, take, drop, replicate}
use Rattle.file.specs.Rules.Layout.{width_of}
use Rattle.file.specs.Rules.Order.{first_of, both, either}
use Rattle.file.specs.Rules.Bytes.{number_of, part, all_zero}
use Rattle.file.specs.Rules.Results.{refused, done, written_in}
use Rattle.file.specs.Rules.Cluster.{bytes_among, bytes_in, last_record, physical_name, logical_name, logical_names, no_operation, broadcast_read}
use Rattle.file.specs.Rules.Decode.{offset_at, file_size, file_at, files_at, slave_at, slaves_at, decode_at, decode}
use Rattle.file.specs.Rules.FileGrounds.{is_among, has_repeat, file_ground, file_grounds, file_ground_at, file_grounds_at, wrong_size, wrong_mark, wrong_edition}
use Rattle.file.specs.Rules.FileGrounds.{wrong_length, wrong_header, wrong_pending, broken_layout, walk_file, table_end, walk_slaves, and_then, walk_slave, good_table_entry}
use Rattle.file.specs.Rules.FileGrounds.{walk_directory, good_entry, ends_at, lacks_needed, all_have_needed, has_needed, equal_physical_names}
use Rattle.file.specs.Rules.FileGrounds.{held_names, equal_logical_names, load_ground}
use Rattle.file.specs.Claims.Edition.{NoEdition}
use Rattle.file.proofs.BytesBelow.{all_below, bytes_below}
use Rattle.contents.specs.Rules.Contents.{contents_in, contents_on}
use Rattle.contents.specs.Claims.ContentsRead as claims
use Rattle.contents.proofs.ContentsRead.{each-file-read, none_exactly, most_bytes, buffer-left, contents-edition}

-- the files of the first slave, 0x02, 0x08 and 0x3D, and of the second, 0x08, 0x3D and 0x3F
abbrev entries : List ℕ
entries = 0xE0 ∷ 0xE1 ∷ 0xE2 ∷ 0xE3 ∷ 0x40 ∷ 0x01 ∷ 0x11 ∷ 0x01 ∷ []

abbrev configured : List ℕ
configured = 0xA0 ∷ 0xA1 ∷ 0xA2 ∷ 0xA3 ∷ 0x00 ∷ 0x00 ∷ 0x05 ∷ 0x04 ∷ 0x00 ∷ 0x00 ∷ 0x00 ∷ 0x07 ∷ 0x00 ∷ 0x00 ∷ 0x00 ∷ 0xA0 ∷ []

abbrev documented : List ℕ
documented = 0xD0 ∷ 0xD1 ∷ 0xD2 ∷ 0xD3 ∷ 0x00 ∷ 0x00 ∷ 0x00 ∷ 0x07 ∷ 0x00 ∷ 0x00 ∷ 0x00 ∷ 0x10 ∷ []

abbrev unnamed_configured : List ℕ
unnamed_configured = 0xB0 ∷ 0xB1 ∷ 0xB2 ∷ 0xB3 ∷ 0x00 ∷ 0x00 ∷ 0x06 ∷ 0xFF ∷ 0x00 ∷ 0x00 ∷ 0x00 ∷ 0x00 ∷ 0x00 ∷ 0x00 ∷ 0x00 ∷ 0x01 ∷ []

abbrev other_documented : List ℕ
other_documented = 0xC0 ∷ 0xC1 ∷ 0xC2 ∷ 0xC3 ∷ 0x00 ∷ 0x00 ∷ 0x00 ∷ 0x07 ∷ 0x00 ∷ 0x00 ∷ 0x00 ∷ 0x11 ∷ []

abbrev last : List ℕ
last = 0xF0 ∷ 0xF1 ∷ 0xF2 ∷ 0xF3 ∷ 0xF4 ∷ 0xF5 ∷ 0xF6 ∷ 0xF7 ∷ []

-- 120 bytes in edition 1; the second slave sleeps
abbrev pub narrow : List ℕ
narrow =
    (0x54 ∷ 0x41 ∷ 0x01 ∷ 0x02 ∷ 0x00 ∷ 0x10 ∷ 0x00 ∷ 0x78 ∷ 0x0C ∷ 0x00 ∷ 0x05 ∷ 0x23 ∷ 0x09 ∷ 0x00 ∷ 0x00 ∷ 0x00 ∷
    0x00 ∷ 0x18 ∷ 0x03 ∷ 0x00 ∷ 0x00 ∷ 0x48 ∷ 0x03 ∷ 0x01 ∷
    0x02 ∷ 0x01 ∷ 0x00 ∷ 0x24 ∷ 0x08 ∷ 0x03 ∷ 0x00 ∷ 0x2C ∷ 0x3D ∷ 0x02 ∷ 0x00 ∷ 0x3C ∷ []) ++ entries ++ configured ++ documented ++
    (0x08 ∷ 0x03 ∷ 0x00 ∷ 0x54 ∷ 0x3D ∷ 0x02 ∷ 0x00 ∷ 0x64 ∷ 0x3F ∷ 0x01 ∷ 0x00 ∷ 0x70 ∷ []) ++ unnamed_configured ++ other_documented ++ last

-- 160 bytes in edition 2
abbrev pub wide : List ℕ
wide =
    (0x54 ∷ 0x41 ∷ 0x02 ∷ 0x02 ∷ 0x00 ∷ 0x00 ∷ 0x00 ∷ 0x18 ∷ 0x00 ∷ 0x00 ∷ 0x00 ∷ 0xA0 ∷ 0x0C ∷ 0x00 ∷ 0x05 ∷ 0x23 ∷ 0x09 ∷
    0x00 ∷ 0x00 ∷ 0x00 ∷ 0x00 ∷ 0x00 ∷ 0x00 ∷ 0x00 ∷
    0x00 ∷ 0x00 ∷ 0x00 ∷ 0x28 ∷ 0x03 ∷ 0x00 ∷ 0x00 ∷ 0x00 ∷ 0x00 ∷ 0x00 ∷ 0x00 ∷ 0x64 ∷ 0x03 ∷ 0x01 ∷ 0x00 ∷ 0x00 ∷
    0x02 ∷ 0x01 ∷ 0x00 ∷ 0x00 ∷ 0x00 ∷ 0x00 ∷ 0x00 ∷ 0x40 ∷ 0x08 ∷ 0x03 ∷ 0x00 ∷ 0x00 ∷ 0x00 ∷ 0x00 ∷ 0x00 ∷ 0x48 ∷
    0x3D ∷ 0x02 ∷ 0x00 ∷ 0x00 ∷ 0x00 ∷ 0x00 ∷ 0x00 ∷ 0x58 ∷ []) ++ entries ++ configured ++ documented ++
    (0x08 ∷ 0x03 ∷ 0x00 ∷ 0x00 ∷ 0x00 ∷ 0x00 ∷ 0x00 ∷ 0x7C ∷ 0x3D ∷ 0x02 ∷ 0x00 ∷ 0x00 ∷ 0x00 ∷ 0x00 ∷ 0x00 ∷ 0x8C ∷
    0x3F ∷ 0x01 ∷ 0x00 ∷ 0x00 ∷ 0x00 ∷ 0x00 ∷ 0x00 ∷ 0x98 ∷ []) ++ unnamed_configured ++ other_documented ++ last

abbrev room : ℕ → List ℕ
room n = replicate n 0xEE

-- what a file of the cluster gives in either edition
pub record Read (f : List ℕ) : Type 0 where
  pub accepted : file_ground f ≡ 0
  -- a longer buffer, one of just the size, a byte too short, none
  pub room_left : contents_on f 0 0x02 (room 10) ≡ (done 8, entries ++ room 2)
  pub just_fits : contents_on f 0 0x02 (room 8) ≡ (done 8, entries)
  pub one_short : contents_on f 0 0x02 (room 7) ≡ (done 8, 0xE0 ∷ 0xE1 ∷ 0xE2 ∷ 0xE3 ∷ 0x40 ∷ 0x01 ∷ 0x11 ∷ [])
  pub no_room : contents_on f 0 0x02 [] ≡ (done 8, [])
  -- in the middle, and the same numbers of the other slave
  pub middle : contents_on f 0 0x08 (room 16) ≡ (done 16, configured)
  pub of_first : contents_on f 0 0x3D (room 12) ≡ (done 12, documented)
  pub of_second : contents_on f 1 0x3D (room 12) ≡ (done 12, other_documented)
  -- the last file of the last slave, which sleeps and is unnamed
  pub last_of_all : contents_on f 1 0x3F (room 9) ≡ (done 8, last ++ room 1)
  -- a number that another slave has, one between those there, one that no file can have; the slave behind the last, the last that can be
  -- asked for, and places whose lower byte or lower half is the first slave's
  pub not_here : contents_on f 0 0x3F (room 8) ≡ (done 0, room 8)
  pub between : contents_on f 1 0x09 (room 8) ≡ (done 0, room 8)
  pub too_high : contents_on f 0 0x42 (room 8) ≡ (done 0, room 8)
  pub behind : contents_on f 2 0x08 (room 8) ≡ (done 0, room 8)
  pub far_behind : contents_on f (2 ^ 64 - 1) 0x08 (room 8) ≡ (done 0, room 8)
  pub lower_byte : contents_on f 256 0x08 (room 8) ≡ (done 0, room 8)
  pub lower_half_lem : contents_on f (2 ^ 32) 0x08 (room 8) ≡ (done 0, room 8)
  -- a byte less of the file
  pub cut : contents_on (take (length f - 1) f) 0 0x02 (room 8) ≡ (refused 4, room 8)
  -- what the claims ask for
  pub bytes : all_below f ≡ true
  pub slaves : length (decode f).slaves ≡ 2
  pub files : length (claims.slave_files f 1) ≡ 3
  pub number : (claims.slave_file f 1 2).number ≡ 0x3F

unfoldable pub of_narrow : Read narrow
unfolding contents_on contents_in written_in file_ground file_grounds file_ground_at file_grounds_at first_of both either wrong_size wrong_mark wrong_edition
    wrong_length wrong_header wrong_pending all_zero part number_of offset_at broken_layout walk_file table_end walk_slaves and_then walk_slave good_table_entry
    walk_directory good_entry file_size ends_at lacks_needed all_have_needed has_needed last_record width_of decode decode_at slaves_at slave_at files_at file_at
    equal_physical_names has_repeat is_among physical_name bytes_in bytes_among all_below
of_narrow =
    record {
      accepted = refl;
      room_left = refl;
      just_fits = refl;
      one_short = refl;
      no_room = refl;
      middle = refl;
      of_first = refl;
      of_second = refl;
      last_of_all = refl;
      not_here = refl;
      between = refl;
      too_high = refl;
      behind = refl;
      far_behind = refl;
      lower_byte = refl;
      lower_half_lem = refl;
      cut = refl;
      bytes = refl;
      slaves = refl;
      files = refl;
      number = refl;
    }

pub of_wide : Read wide
unfolding of_narrow
of_wide =
    record {
      accepted = refl;
      room_left = refl;
      just_fits = refl;
      one_short = refl;
      no_room = refl;
      middle = refl;
      of_first = refl;
      of_second = refl;
      last_of_all = refl;
      not_here = refl;
      between = refl;
      too_high = refl;
      behind = refl;
      far_behind = refl;
      lower_byte = refl;
      lower_half_lem = refl;
      cut = refl;
      bytes = refl;
      slaves = refl;
      files = refl;
      number = refl;
    }

-- ---- a file that loading alone refuses, and a file of most bytes

-- a cluster file with other bytes from a place on
abbrev changed : List ℕ → ℕ → List ℕ → List ℕ
changed f place bytes = take place f ++ bytes ++ drop (place + length bytes) f

-- a read of record 1 of 0x08 at 0x05
abbrev pending_read : List ℕ
pending_read = 0x01 ∷ 0x05 ∷ 0x20 ∷ 0x01 ∷ []

-- both slaves have the name 0x04, and an operation is pending: 22 is loading's, and a pending operation no ground
pub record ReadUnloaded (f : List ℕ) : Type 0 where
  pub unloaded : load_ground f ≡ 22
  pub equal_names :
      contents_on f 1 0x08 (room 16) ≡
      (done 16, 0xB0 ∷ 0xB1 ∷ 0xB2 ∷ 0xB3 ∷ 0x00 ∷ 0x00 ∷ 0x06 ∷ 0x04 ∷ 0x00 ∷ 0x00 ∷ 0x00 ∷ 0x00 ∷ 0x00 ∷ 0x00 ∷ 0x00 ∷ 0x01 ∷ [])

pub of_narrow_unloaded : ReadUnloaded (changed (changed narrow 9 pending_read) 91 (0x04 ∷ []))
unfolding of_narrow load_ground equal_logical_names held_names logical_names logical_name no_operation broadcast_read
of_narrow_unloaded = record { unloaded = refl; equal_names = refl }

pub of_wide_unloaded : ReadUnloaded (changed (changed wide 13 pending_read) 131 (0x04 ∷ []))
unfolding of_narrow load_ground equal_logical_names held_names logical_names logical_name no_operation broadcast_read
of_wide_unloaded = record { unloaded = refl; equal_names = refl }

-- 255 records and record 0x00
abbrev longest : List ℕ
longest = replicate 1020 0x00 ++ (0xF4 ∷ 0xF5 ∷ 0xF6 ∷ 0xF7 ∷ [])

pub longest_of_narrow :
    contents_on (changed (changed (take 112 narrow) 6 (0x04 ∷ 0x70 ∷ [])) 81 (0xFF ∷ []) ++ longest) 1 0x3F (room 1025) ≡
    (done 1024, longest ++ room 1)
unfolding of_narrow
longest_of_narrow = refl

pub longest_of_wide :
    contents_on (changed (changed (take 152 wide) 10 (0x04 ∷ 0x98 ∷ [])) 117 (0xFF ∷ []) ++ longest) 1 0x3F (room 1025) ≡
    (done 1024, longest ++ room 1)
unfolding of_narrow
longest_of_wide = refl

-- ---- the premises of the claims can be met

module _ {f : List ℕ} (r : Read f) where
  pub last-read : contents_in f 1 (claims.slave_file f 1 2).number ≡ (claims.slave_file f 1 2).bytes
  last-read = each-file-read f (bytes_below f r.bytes) r.accepted 1 2 (omega (arith, r.slaves)) (omega (arith, r.files))

  -- of the slave behind the last there is none, and so it is told
  pub none_told : length (contents_in f 2 0x08) ≡ 0
  none_told = (none_exactly f (bytes_below f r.bytes) r.accepted 2 0x08).1 (claims.no_slave (omega (arith, r.slaves)))

  pub few_bytes : length (contents_in f 0 0x02) ≤ 1024
  few_bytes = most_bytes f (bytes_below f r.bytes) r.accepted 0 0x02

  pub left_there : claims.LeftBy (contents_in f 0 0x02) (room 10) (contents_on f 0 0x02 (room 10)).1
  left_there = buffer-left f 0 0x02 (room 10) 8 (rw r.room_left)

-- files of unknown edition that differ behind their third byte
abbrev other_edition : ℕ → List ℕ
other_edition rest = 0x54 ∷ 0x41 ∷ 0x03 ∷ replicate 13 rest

pub no_edition : (rest : ℕ) → NoEdition (other_edition rest)
no_edition rest = record { one = λ z. omega (arith, z); two = λ z. omega (arith, z) }

pub other-refused : contents_on (other_edition 0xFF) 0 0x08 (room 8) ≡ (refused 3, room 8)
unfolding of_narrow
other-refused = refl

pub others-alike : (contents_on (other_edition 0xFF) 0 0x08 (room 8)).0 ≡ (contents_on (other_edition 0x00) 2 0x3D []).0
others-alike = contents-edition (other_edition 0xFF) (other_edition 0x00) 0 2 0x08 0x3D (room 8) [] refl refl (no_edition 0xFF)
