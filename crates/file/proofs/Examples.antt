-- A file of one slave in each edition: its ground, computed, by its sleep byte in edition 1 and by a zero of each kind in edition 2; and
-- the laws of conversion and of a tester that knows edition 1 alone, applied to it.
-- Assumes nothing.
use Rattle.std.proofs.Common.{ℕ, ◌≡◌, refl, List, [], ◌∷◌, ◌++◌, map, true, false}
use Rattle.file.specs.Rules.Layout.{width_of}
use Rattle.file.specs.Rules.Order.{first_of, both, either}
use Rattle.file.specs.Rules.Bytes.{Bytes, number_of, part, all_zero}
use Rattle.file.specs.Rules.Cluster.{is_awake, bytes_among, bytes_in, last_record, physical_name}
use Rattle.file.specs.Rules.Encode.{contents, slave_size, slaves_size, slaves_place, file_length}
use Rattle.file.specs.Rules.Editions.{exceeds}
use Rattle.file.specs.Rules.Decode.{offset_at, file_size, file_at, files_at, slave_at, slaves_at, decode_at, decode}
use Rattle.file.specs.Rules.FileGrounds.{wrong_size, wrong_mark, wrong_edition, wrong_length, wrong_pending, wrong_header, and_then, good_entry, walk_directory}
use Rattle.file.specs.Rules.FileGrounds.{good_table_entry, walk_slave, walk_slaves, table_end, walk_file, ends_at, broken_layout, has_needed, all_have_needed}
use Rattle.file.specs.Rules.FileGrounds.{lacks_needed, is_among, has_repeat, equal_physical_names, file_grounds_at, file_ground_at, file_ground}
use Rattle.file.specs.Claims.Editions.{Converts, Widens}
use Rattle.file.proofs.BytesBelow.{all_below, bytes_below}
use Rattle.file.proofs.Width.{two_widths}
use Rattle.file.proofs.Editions.{converts, widened, handheld}

-- the records of 0x08 and of 0x3D, in the needed size and no more: logical name 2
abbrev records : List ℕ
records =
    0x00 ∷ 0x00 ∷ 0x00 ∷ 0x00 ∷ 0x00 ∷ 0x00 ∷ 0x00 ∷ 0x02 ∷ 0x00 ∷ 0x00 ∷ 0x00 ∷ 0x00 ∷ 0x00 ∷ 0x00 ∷ 0x00 ∷ 0x00 ∷
    0x00 ∷ 0x00 ∷ 0x00 ∷ 0x00 ∷ 0x00 ∷ 0x00 ∷ 0x00 ∷ 0x01 ∷ 0x00 ∷ 0x00 ∷ 0x00 ∷ 0x02 ∷ []

-- 56 bytes in edition 1, by the low byte of the length, the last header zero, the sleep byte and the number of the second file
abbrev spoiled : ℕ → ℕ → ℕ → ℕ → List ℕ
spoiled size last asleep number =
    (0x54 ∷ 0x41 ∷ 0x01 ∷ 0x01 ∷ 0x00 ∷ 0x10 ∷ 0x00 ∷ size ∷ 0x00 ∷ 0x00 ∷ 0x00 ∷ 0x00 ∷ 0x00 ∷ 0x00 ∷ 0x00 ∷ last ∷
    0x00 ∷ 0x14 ∷ 0x02 ∷ asleep ∷
    0x08 ∷ 0x03 ∷ 0x00 ∷ 0x1C ∷ number ∷ 0x02 ∷ 0x00 ∷ 0x2C ∷ []) ++ records

abbrev one_slave : ℕ → List ℕ
one_slave asleep = spoiled 0x38 0 asleep 0x3D

-- 76 bytes in edition 2, by the last zero of the header, of the table entry and of the first directory entry
abbrev in_two : ℕ → ℕ → ℕ → List ℕ
in_two header table directory =
    (0x54 ∷ 0x41 ∷ 0x02 ∷ 0x01 ∷ 0x00 ∷ 0x00 ∷ 0x00 ∷ 0x18 ∷ 0x00 ∷ 0x00 ∷ 0x00 ∷ 0x4C ∷ 0x00 ∷ 0x00 ∷ 0x00 ∷ 0x00 ∷ 0x00 ∷
    0x00 ∷ 0x00 ∷ 0x00 ∷ 0x00 ∷ 0x00 ∷ 0x00 ∷ header ∷
    0x00 ∷ 0x00 ∷ 0x00 ∷ 0x20 ∷ 0x02 ∷ 0x00 ∷ 0x00 ∷ table ∷
    0x08 ∷ 0x03 ∷ 0x00 ∷ directory ∷ 0x00 ∷ 0x00 ∷ 0x00 ∷ 0x30 ∷ 0x3D ∷ 0x02 ∷ 0x00 ∷ 0x00 ∷ 0x00 ∷ 0x00 ∷ 0x00 ∷ 0x40 ∷ []) ++ records

abbrev wide : List ℕ
wide = in_two 0 0 0

pub record Examples : Type 0 where
  pub awake_accepted : file_ground (one_slave 0) ≡ 0
  pub asleep_accepted : file_ground (one_slave 1) ≡ 0
  pub two_refused : file_ground (one_slave 2) ≡ 6
  pub most_refused : file_ground (one_slave 255) ≡ 6
  pub awake : map is_awake (decode (one_slave 0)).slaves ≡ true ∷ []
  pub asleep : map is_awake (decode (one_slave 1)).slaves ≡ false ∷ []
  pub wide_accepted : file_ground wide ≡ 0
  pub header_zero_lem : file_ground (in_two 1 0 0) ≡ 5
  pub table_zero_lem : file_ground (in_two 0 1 0) ≡ 6
  pub directory_zero : file_ground (in_two 0 0 1) ≡ 6
  pub wide_fits_lem : exceeds 2 (decode wide).slaves ≡ false
  -- "Checked in this order", where several hold
  pub length_first : file_ground (spoiled 0x39 1 2 0x3E) ≡ 4
  pub header_first : file_ground (spoiled 0x38 1 2 0x3E) ≡ 5
  pub layout_first : file_ground (spoiled 0x38 0 2 0x3E) ≡ 6
  pub needed_last : file_ground (spoiled 0x38 0 1 0x3E) ≡ 7
  pub wide_header_first : file_ground (in_two 1 1 1) ≡ 5

pub examples : Examples
unfolding width_of first_of both either number_of part all_zero is_awake bytes_among bytes_in last_record physical_name contents
    slave_size slaves_size slaves_place file_length exceeds offset_at file_size file_at files_at slave_at slaves_at decode_at decode
    wrong_size wrong_mark wrong_edition wrong_length wrong_pending wrong_header
    and_then good_entry walk_directory good_table_entry walk_slave walk_slaves table_end walk_file ends_at broken_layout
    has_needed all_have_needed lacks_needed is_among has_repeat equal_physical_names file_grounds_at file_ground_at file_ground
examples =
    record {
      awake_accepted = refl;
      asleep_accepted = refl;
      two_refused = refl;
      most_refused = refl;
      awake = refl;
      asleep = refl;
      wide_accepted = refl;
      header_zero_lem = refl;
      table_zero_lem = refl;
      directory_zero = refl;
      wide_fits_lem = refl;
      length_first = refl;
      header_first = refl;
      layout_first = refl;
      needed_last = refl;
      wide_header_first = refl;
    }

-- ---- the laws, applied

narrow_bytes : Bytes (one_slave 0)
narrow_bytes = bytes_below (one_slave 0) (unfold all_below both in refl)

pub narrow_widens : Widens (one_slave 0)
narrow_widens = widened (one_slave 0) narrow_bytes examples.awake_accepted refl

wide_bytes : Bytes wide
wide_bytes = bytes_below wide (unfold all_below both in refl)

pub wide_narrows : Converts wide 1
wide_narrows = converts wide 1 wide_bytes examples.wide_accepted two_widths.0 examples.wide_fits_lem

pub wide_refused : file_ground_at 2 wide ≡ 3
wide_refused = handheld wide examples.wide_accepted refl
