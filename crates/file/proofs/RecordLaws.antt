-- A record of a file, by what the search for the file returned: one law for each way through `find_record`. And the records that every
-- slave has, by the places of their files.
-- Assumes nothing.
use Prim.Native.Nat.{ℕ, suc, ◌+◌, ◌*◌, ◌≤◌, ◌<◌}
use mathlib.Core.Path.{◌≡◌, sym, ◌∙◌}
use mathlib.Core.Bool.{Bool, true}
use mathlib.Core.List.{List}
use native.Mathlib.Omega.{arith}
use borrow.Author.Tests.{le-leb, leb-true, eqb-true}
use lib.ListN.{length, get_or}
use mir.Syntax.{w64}
use mir.Val.{Fits}
use Rattle.file.specs.Rules.Layout.{record_size}
use Rattle.file.specs.Inner.Layout.{needed_configuration, needed_documentation}
use Rattle.file.specs.Rules.Cluster.{Cluster, bytes_in, has_record, configuration, documentation}
use Rattle.file.specs.Rules.Decode.{decode}
use Rattle.file.specs.Inner.Places.{slave_of, file_place, configuration_index, documentation_index}
use Rattle.file.specs.Inner.Accepted.{Becomes, AcceptedFile, slave_count, Placed, file_found, find_file, find_record, is_documented}
use Rattle.file.specs.Inner.FileAnswers.{found_file, found_record}
use Rattle.file.specs.declared.records.FileBytes.{FileBytes}
use Rattle.file.proofs.Order.{both_left, both_right}
use Rattle.file.proofs.PlaceLaws.{documentation-record-fits}
use Rattle.file.proofs.ReaderLaws.{length_limit, configuration-room, documentation-room, record_missing, record_past, record_found, found_within}
use Rattle.std.specs.Prelude.{Option, Some, None}
use Rattle.std.specs.Prelude.{Option, Some, None}

module _ (c : Cluster) (s n : ℕ) {r : Option FileBytes} (is : found_file r ≡ find_file c s n) where
  pub no_file : (record' : ℕ) → r ≡ None → found_record None ≡ find_record c s n record'
  unfolding found_file found_record
  no_file record' e = record_missing c s n record' (rw e at is)

  module _ {found : FileBytes} (e : r ≡ Some found) where
    file-there : file_found found.place found.size ≡ find_file c s n
    unfolding found_file
    file-there = rw e at is

    pub no_record : (record' : ℕ) → found.size < 4 * record' + 4 → found_record None ≡ find_record c s n record'
    unfolding found_record
    no_record record' l = record_past c s n record' file-there l

    pub record-there : (record' : ℕ) → 4 * record' + 4 ≤ found.size → found_record (Some (found.place + 4 * record')) ≡ find_record c s n record'
    unfolding found_record
    record-there record' l = record_found c s n record' file-there l

    pub bytes-within : {f : List ℕ} → Becomes f c → found.place + found.size ≤ length f
    bytes-within h = found_within h s n file-there

-- the place of a record that was found is a number of the machine
pub record-fits : {f : List ℕ} (s n : ℕ) {r : Option FileBytes} {found : FileBytes} → AcceptedFile f → found_file r ≡ find_file (decode f) s n → r ≡ Some found → (record' : ℕ) →
    record_size * record' + record_size ≤ found.size → Fits w64 (found.place + record_size * record')
record-fits {f} s n h is e record' l = record { fits = omega (arith, bytes-within (decode f) s n is e h, length_limit h) }

-- ---- a record that every slave has

-- the place of a file with k records or more states where each of them lies
needed_found : (c : Cluster) (s k : ℕ) {n m place : ℕ} → n ≡ m → place ≡ file_place c s m → record_size * suc k ≤ length (bytes_in (slave_of c s) m) → {r : ℕ} → r ≤ k →
    found_record (Some (place + record_size * r)) ≡ find_record c s n r
unfolding found_record find_record has_record
needed_found c s k {m = m} same kept room {r} less =
    rw (same, le-leb (record_size * r + record_size) (length (bytes_in (slave_of c s) m)) (omega arith), kept)

module _ {f places : List ℕ} (p : Placed f places) {s n r : ℕ} (there : s < slave_count f) where
  pub configuration_found : n ≡ configuration → r ≤ needed_configuration → found_record (Some (get_or places (configuration_index s) 0 + record_size * r)) ≡ find_record (decode f) s n r
  configuration_found same less = needed_found (decode f) s needed_configuration same (p.at.config s there) (configuration-room p.file s there) less

  pub documentation_found : n ≡ documentation → r ≤ needed_documentation → found_record (Some (get_or places (documentation_index s) 0 + record_size * r)) ≡ find_record (decode f) s n r
  documentation_found same less = needed_found (decode f) s needed_documentation same (p.at.document s there) (documentation-room p.file s there) less

module _ {f places : List ℕ} (p : Placed f places) {s : ℕ} (n r : ℕ) (there : s < slave_count f) {t : Bool} (is : t ≡ is_documented n r) (yes : t ≡ true) where
  few : r ≤ needed_documentation
  unfolding is_documented
  few = leb-true r needed_documentation (both_right _ _ (sym is ∙ yes))

  pub documented_found : found_record (Some (get_or places (documentation_index s) 0 + record_size * r)) ≡ find_record (decode f) s n r
  unfolding is_documented
  documented_found = documentation_found p there (eqb-true n documentation (both_left _ _ (sym is ∙ yes))) few

  pub documented-fits : Fits w64 (get_or places (documentation_index s) 0 + record_size * r)
  documented-fits = documentation-record-fits p s there r few
