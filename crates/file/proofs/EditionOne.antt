-- The numbers of the layout in edition 1, as document 01 has them.
-- Assumes nothing.
use Rattle.std.proofs.Common.{ℕ, ◌+◌, ◌*◌, arith, ◌≡◌, refl, sym, List, get_or}
use Rattle.file.specs.Rules.Bytes.{bytes_of}
use Rattle.file.specs.Rules.Layout.{width_of}
use Rattle.file.specs.Rules.Cluster.{physical_name, new_logical_name, logical_name, comparison_value}
use Rattle.file.specs.Rules.Encode.{directory_entry, table_entry, header}
use Rattle.file.specs.Rules.Decode.{decode_at, decode}
use Rattle.file.specs.Rules.FileGrounds.{wrong_size, wrong_length, file_ground}
use Rattle.file.specs.Claims.EditionOne.{ReadAsOne, EditionOne}
use Rattle.file.proofs.Width.{width_two}
use Rattle.file.proofs.AcceptedFacts.{accepted}
use Rattle.file.proofs.SleepBytes.{slaves-counted, sleep_bytes}

-- byte 2 of an accepted file is its edition
pub edition-at : (f : List ℕ) → file_ground f ≡ 0 → (decode f).edition ≡ get_or f 2 0
unfolding file_ground decode decode_at
edition-at f g = sym ((accepted (width_of f) f).0 g).edition

read_one : (f : List ℕ) → width_of f ≡ 2 → ReadAsOne f
unfolding wrong_size wrong_length decode decode_at
read_one f is =
    record {
      width = is;
      size = rw is;
      length_at = rw is;
      epoch_at = rw is;
      flag_at_lem = rw is;
      name_at = rw is;
      pb2_at = rw is;
      pb3_at = rw is;
      sleeps = sleep_bytes f (λ (i : ℕ). 19 + 4 * i) (λ i. rw is (omega arith));
    }

pub edition-one : EditionOne
unfolding header table_entry directory_entry bytes_of physical_name new_logical_name logical_name comparison_value
edition-one = record {
  width = refl;
  edition = refl;
  edition_back = λ e. omega arith;
  mark_from = refl;
  edition_from = refl;
  count_from = refl;
  table_from = refl;
  length_from = refl;
  epoch_from = refl;
  flag_from = refl;
  name_from = refl;
  pb2_from = refl;
  pb3_from = refl;
  zeros_from = refl;
  edition_at = edition-at;
  count_at = slaves-counted;
  read = λ f other. read_one f (width_two f other);
  zeros_at = refl;
  zeros = refl;
  header_length = refl;
  entry = refl;
  fill = refl;
  slaves = refl;
  size = refl;
  header_bytes = λ c. refl;
  table_bytes = λ place s. refl;
  directory_bytes = λ place x. refl;
  physical_name_at = λ s. refl;
  new_logical_name_at = λ s. refl;
  logical_name_at = λ s. refl;
  comparison_value_at = λ s. refl;
}
