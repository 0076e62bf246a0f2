-- The numbers of the layout in edition 2, as document 02 has them.
-- Assumes nothing.
use Rattle.std.proofs.Common.{ℕ, ◌+◌, ◌*◌, ◌-◌, ◌≤◌, ◌<◌, arith, ◌≡◌, refl, ap, subst, ◌≢◌, List, [], ◌∷◌, true, false, length, get_or, lt-ltb}
use Rattle.file.specs.Rules.Bytes.{number_of, bytes_of}
use Rattle.file.specs.Rules.Order.{either}
use Rattle.file.specs.Rules.Layout.{width_of}
use Rattle.file.specs.Rules.Encode.{directory_entry, table_entry, header}
use Rattle.file.specs.Rules.Decode.{offset_at, decode_at, decode}
use Rattle.file.specs.Rules.FileGrounds.{wrong_size, wrong_length, wrong_header, Walk, to, walk_directory, walk_slave, walk_file, broken_layout}
use Rattle.file.specs.Claims.EditionTwo.{Zeros, ReadAsTwo, LastEntry, EditionTwo}
use Rattle.file.proofs.Width.{width_four}
use Rattle.file.proofs.SleepBytes.{slaves-counted, sleep_bytes}
use Rattle.file.proofs.Stands.{Stands, part-stands, stands-part, stands_at, stands-byte, stands-left, stands_right, zeros_stand}
use Rattle.file.proofs.Facts.{true_unless, header_facts, zeros-at, TableEntryFacts, table-entry_yes}
use Rattle.file.proofs.AcceptedFacts.{layout-whole}
use Rattle.file.proofs.Arrivals.{PassedSlave, table-passed, file-passed}

-- a zero of the header or of an entry that is not zero breaks its ground: where the ground does not hold, all of them are zero
module _ (f : List ℕ) (is : width_of f ≡ 4) where
  whole : broken_layout (width_of f) f ≡ false → walk_file 4 f ≡ Walk.to (length f)
  whole e = rw is at ((layout-whole (width_of f) f).0 e)

  header_zero : (k : ℕ) → 17 ≤ k → k < 24 → wrong_header (width_of f) f ≡ false → get_or f k 0 ≡ 0
  header_zero k from below e =
      let place : 17 + (k - 17) ≡ k = omega arith in
      rw place at (zeros-at f 17 7 (k - 17) (omega arith) (header_facts 4 f (rw is at e)).zeros)

  passed : broken_layout (width_of f) f ≡ false → (i : ℕ) → i < length (decode f).slaves → PassedSlave 4 f (24 + 8 * i)
  passed e i slave = table-passed 4 f (length f) (whole e) i (omega (arith, slave, slaves-counted f))

  table_zero : (i k : ℕ) → 6 ≤ k → k < 8 → PassedSlave 4 f (24 + 8 * i) → get_or f (24 + 8 * i + k) 0 ≡ 0
  table_zero i k from below good =
      let place : 24 + 8 * i + 4 + 2 + (k - 6) ≡ 24 + 8 * i + k = omega arith in
      rw place at (zeros-at f (24 + 8 * i + 4 + 2) 2 (k - 6) (omega arith) good.step.facts.zeros)

  directory-zero :
      (i j k : ℕ)
      → j < get_or f (28 + 8 * i) 0
      → 2 ≤ k
      → k < 4
      → PassedSlave 4 f (24 + 8 * i)
      → get_or f (offset_at 4 f (24 + 8 * i) + 8 * j + k) 0 ≡ 0
  directory-zero i j k file from below good =
      let count : 28 + 8 * i ≡ 24 + 8 * i + 4 = omega arith in
      let good' = file-passed 4 f good.place 0 _ _ good.end good.step.files j (rw count at file) in
      let at : good.place + 8 * j + 2 + (k - 2) ≡ offset_at 4 f (24 + 8 * i) + 8 * j + k = omega (arith, good.step.facts.offset) in
      rw at at (zeros-at f (good.place + 8 * j + 2) 2 (k - 2) (omega arith) good'.facts.zeros)

  zeros-two : Zeros f
  zeros-two =
      record {
        header = λ k from below other. true_unless (λ e. other (header_zero k from below e));
        table = λ i k slave from below other. true_unless (λ e. other (table_zero i k from below (passed e i slave)));
        directory =
            λ i j k slave file from below other. true_unless (λ e. other (directory-zero i j k file from below (passed e i slave)));
      }

  table-at : offset_at 4 f 4 ≢ 24 → wrong_header (width_of f) f ≡ true
  table-at other = true_unless (λ e. other (header_facts 4 f (rw is at e)).table)

read-two : (f : List ℕ) → width_of f ≡ 4 → ReadAsTwo f
unfolding wrong_size wrong_length decode decode_at
read-two f is =
    record {
      width = is;
      size = rw is;
      length_at = rw is;
      table_at = table-at f is;
      zeros = zeros-two f is;
      epoch_at = rw is;
      flag_at_lem = rw is;
      name_at = rw is;
      pb2_at = rw is;
      pb3_at = rw is;
      sleeps = sleep_bytes f (λ (i : ℕ). 29 + 8 * i) (λ i. rw is (omega arith));
    }

-- 65 slaves are too many
count-above : (f : List ℕ) → 64 < get_or f 3 0 → wrong_header 4 f ≡ true
unfolding wrong_header either
count-above f more = rw (lt-ltb 64 (get_or f 3 0) more)

-- the offset of a slave with no files at the end of the longest file is past every place of a byte, and it is good
module _ (f : List ℕ) (t : ℕ) (h : LastEntry f t) where
  abbrev offset : List ℕ
  offset = 0 ∷ 1 ∷ 0 ∷ 0 ∷ []

  abbrev rest : List ℕ
  rest = 0 ∷ 0 ∷ 0 ∷ 0 ∷ []

  entry : Stands f t (0 ∷ 1 ∷ 0 ∷ 0 ∷ rest)
  entry = subst (λ (l : List ℕ). Stands f t l) h.bytes (part-stands 8 h.within)

  no-files : get_or f (t + 4) 0 ≡ 0
  no-files = stands-byte entry 4 (omega arith) refl

  awake : get_or f (t + 4 + 1) 0 ≡ 0
  awake = stands-byte entry 5 (omega arith) (omega arith)

  last_facts : TableEntryFacts 4 f t 65536
  unfolding offset_at number_of
  last_facts =
      record {
        offset = ap number_of (stands-part (stands-left offset rest entry));
        sleeps = omega (arith, awake);
        zeros = zeros_stand 2 (stands_at (omega arith) (stands_right (0 ∷ 1 ∷ 0 ∷ 0 ∷ 0 ∷ 0 ∷ []) (0 ∷ 0 ∷ []) entry));
        within = omega (arith, h.full, no-files);
      }

  last_entry : walk_slave 4 f t 65536 ≡ to 65536
  unfolding walk_slave walk_directory
  last_entry = rw (table-entry_yes 4 f t 65536 last_facts, no-files)

pub edition-two : EditionTwo
unfolding header table_entry directory_entry bytes_of
edition-two = record {
  width = refl;
  edition = refl;
  length_from = refl;
  epoch_from = refl;
  flag_from = refl;
  name_from = refl;
  pb2_from = refl;
  pb3_from = refl;
  zeros_from = refl;
  read = λ f is. read-two f (width_four f is);
  zeros_at = refl;
  zeros = refl;
  header_length = refl;
  entry = refl;
  fill = refl;
  slaves = refl;
  size = refl;
  header_bytes = λ c. refl;
  table_bytes = λ place s. refl;
  directory_bytes = λ place x. refl;
  count_above = count-above;
  last_entry_lem = last_entry;
}
