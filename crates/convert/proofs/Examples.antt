-- A cluster file in both editions, computed: one slave, asleep, and pending bytes that the flag leaves free. The conversions of it, and the
-- shortest buffer for them.
-- Assumes nothing.
use Rattle.std.proofs.Common.{ℕ, ◌≡◌, refl, List, [], ◌∷◌, ◌++◌, replicate}
use Rattle.file.specs.Rules.Layout.{width_of}
use Rattle.file.specs.Rules.Order.{first_of, both, either}
use Rattle.file.specs.Rules.Bytes.{number_of, bytes_of, part, all_zero}
use Rattle.file.specs.Rules.Results.{done, written_in}
use Rattle.file.specs.Rules.Cluster.{bytes_among, bytes_in, last_record, physical_name}
use Rattle.file.specs.Rules.Encode.{directory_entry, directory, contents, slave_size, slave_bytes, slaves_bytes, slaves_size, table_entry, table, slaves_place, file_length, header, encode_at, encode}
use Rattle.file.specs.Rules.Decode.{offset_at, file_size, file_at, files_at, slave_at, slaves_at, decode_at, decode}
use Rattle.file.specs.Rules.Changes.{with_edition}
use Rattle.file.specs.Rules.Editions.{in_edition, exceeds}
use Rattle.file.specs.Rules.FileGrounds.{is_among, has_repeat, file_ground, file_grounds, file_ground_at, file_grounds_at, wrong_size, wrong_mark, wrong_edition}
use Rattle.file.specs.Rules.FileGrounds.{wrong_length, wrong_header, wrong_pending, broken_layout, walk_file, table_end, walk_slaves, and_then, walk_slave, good_table_entry}
use Rattle.file.specs.Rules.FileGrounds.{walk_directory, good_entry, ends_at, lacks_needed, all_have_needed, has_needed, equal_physical_names}
use Rattle.convert.specs.Rules.Convert.{convert_ground, convert_grounds, convert_on}

-- the records of 0x08 and of 0x3D, the same in both
abbrev records : List ℕ
records =
    0xA0 ∷ 0xA1 ∷ 0xA2 ∷ 0xA3 ∷ 0x00 ∷ 0x00 ∷ 0x05 ∷ 0x04 ∷ 0x00 ∷ 0x00 ∷ 0x00 ∷ 0x07 ∷ 0x00 ∷ 0x00 ∷ 0x00 ∷ 0xA0 ∷ 0xD0 ∷ 0xD1 ∷ 0xD2 ∷ 0xD3 ∷
    0x00 ∷ 0x00 ∷ 0x00 ∷ 0x07 ∷ 0x00 ∷ 0x00 ∷ 0x00 ∷ 0x10 ∷ []

-- 56 bytes in edition 1
abbrev pub narrow : List ℕ
narrow =
    (0x54 ∷ 0x41 ∷ 0x01 ∷ 0x01 ∷ 0x00 ∷ 0x10 ∷ 0x00 ∷ 0x38 ∷ 0x0C ∷ 0x00 ∷ 0x05 ∷ 0x23 ∷ 0x09 ∷ 0x00 ∷ 0x00 ∷ 0x00 ∷
    0x00 ∷ 0x14 ∷ 0x02 ∷ 0x01 ∷
    0x08 ∷ 0x03 ∷ 0x00 ∷ 0x1C ∷ 0x3D ∷ 0x02 ∷ 0x00 ∷ 0x2C ∷ []) ++ records

-- 76 bytes in edition 2
abbrev pub wide : List ℕ
wide =
    (0x54 ∷ 0x41 ∷ 0x02 ∷ 0x01 ∷ 0x00 ∷ 0x00 ∷ 0x00 ∷ 0x18 ∷ 0x00 ∷ 0x00 ∷ 0x00 ∷ 0x4C ∷ 0x0C ∷ 0x00 ∷ 0x05 ∷ 0x23 ∷ 0x09 ∷
    0x00 ∷ 0x00 ∷ 0x00 ∷ 0x00 ∷ 0x00 ∷ 0x00 ∷ 0x00 ∷
    0x00 ∷ 0x00 ∷ 0x00 ∷ 0x20 ∷ 0x02 ∷ 0x01 ∷ 0x00 ∷ 0x00 ∷
    0x08 ∷ 0x03 ∷ 0x00 ∷ 0x00 ∷ 0x00 ∷ 0x00 ∷ 0x00 ∷ 0x30 ∷ 0x3D ∷ 0x02 ∷ 0x00 ∷ 0x00 ∷ 0x00 ∷ 0x00 ∷ 0x00 ∷ 0x40 ∷ []) ++ records

pub record Examples : Type 0 where
  pub narrow_accepted : file_ground narrow ≡ 0
  pub wide_accepted : file_ground wide ≡ 0
  pub widened : in_edition narrow 2 ≡ wide
  pub narrowed : in_edition wide 1 ≡ narrow
  pub narrow_copied : in_edition narrow 1 ≡ narrow
  pub wide_copied : in_edition wide 2 ≡ wide
  pub too_short : convert_ground narrow 2 (replicate 75 0xEE) ≡ 26
  pub long_enough_lem : convert_on narrow 2 (replicate 78 0xEE) ≡ (done 76, wide ++ (0xEE ∷ 0xEE ∷ []))

-- `unfolding examples` unfolds what stands here, in the crates above too: a file's grounds, its cluster and its form
unfoldable pub examples : Examples
unfolding convert_on convert_ground convert_grounds exceeds in_edition with_edition written_in encode encode_at header file_length slaves_place table
    table_entry slaves_size slaves_bytes slave_bytes slave_size contents directory directory_entry bytes_of file_ground file_grounds file_ground_at file_grounds_at
    first_of both either wrong_size wrong_mark wrong_edition wrong_length wrong_header wrong_pending all_zero part number_of offset_at broken_layout walk_file
    table_end walk_slaves and_then walk_slave good_table_entry walk_directory good_entry file_size ends_at lacks_needed all_have_needed has_needed last_record
    width_of decode decode_at slaves_at slave_at files_at file_at equal_physical_names has_repeat is_among physical_name bytes_in bytes_among
examples =
    record {
      narrow_accepted = refl;
      wide_accepted = refl;
      widened = refl;
      narrowed = refl;
      narrow_copied = refl;
      wide_copied = refl;
      too_short = refl;
      long_enough_lem = refl;
    }
