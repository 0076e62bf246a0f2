-- The places that a walked table and its directories state for 0x08 and 0x3D: what they say of the slaves that the file holds.
-- Assumes nothing.
use Rattle.std.proofs.Common.{ℕ, zero, suc, ◌+◌, ◌*◌, ◌-◌, ◌≤◌, ◌<◌, ◌≡◌, refl, sym, ap, ap₂, subst, List, ◌∷◌, ◌++◌, map, Bool, true, false, not}
use Rattle.std.proofs.Common.{arith, eq-eqb, ne_eqb, le-leb, length, get_or, drop_at, take_at, leb, eqb}
use borrow.Author.Tests.{eqb-false, lt-leb}
use Rattle.file.specs.Rules.Order.{both, either}
use Rattle.file.specs.Rules.Bytes.{All, all_empty, number_of, part}
use Rattle.file.specs.Rules.Bytes
use Rattle.file.specs.Rules.Layout.{entry_size_lem}
use Rattle.file.specs.Inner.Layout.{needed_configuration, needed_documentation}
use Rattle.file.specs.Rules.Cluster.{File, Slave, last_record, bytes_among, bytes_in, physical_name, configuration, documentation}
use Rattle.file.specs.Rules.Encode.{slave_size}
use Rattle.file.specs.Rules.Decode.{file_size, slave_at, slaves_at}
use Rattle.file.specs.Rules.FileGrounds.{to, walk_slave, walk_slaves, has_needed, all_have_needed, is_among}
use Rattle.file.specs.Inner.Places.{place_among, file_place_from, configuration_index, documentation_index}
use Rattle.file.specs.Inner.Checked.{stated_in, stated_places, documentation_places, name_at, NameStands, names_at}
use Rattle.file.proofs.Order.{either_false_left, either_false_right}
use Rattle.file.proofs.Arrivals.{slave_took, slaves_took, length-files_at}
use Rattle.file.proofs.NumberLaws.{part-add, part_length}
use Rattle.file.proofs.Stated.{Stated, lacking, found, stated-file, last-size, walk_end}

-- ---- one slave

-- a slave's walk ends behind its directory and files
pub slave-end : (w : ℕ) (f : List ℕ) (t place e : ℕ) → walk_slave w f t place ≡ to e → e ≡ place + slave_size w (slave_at w f t)
unfolding slave_at slave_size
slave-end w f t place e h =
    let s = slave_took w f t place e h in
    let n = get_or f (t + w) 0 in
    let end = walk_end w f place 0 (place + entry_size_lem w * n) n e s.files in
    rw (s.facts.offset, length-files_at w f place n) (omega (arith, end))

pub stated-slave : (w : ℕ) (f : List ℕ) (n least t place e : ℕ) → 1 ≤ least → walk_slave w f t place ≡ to e →
    Stated f n least 0 (place + entry_size_lem w * length (slave_at w f t).files) (slave_at w f t).files (stated_in w f n least t)
unfolding slave_at stated_in
stated-slave w f n least t place e some h =
    let s = slave_took w f t place e h in
    let k = get_or f (t + w) 0 in
    rw (s.facts.offset, length-files_at w f place k) (stated-file w f n least 0 place 0 (place + entry_size_lem w * k) k e some s.files)

-- a place is stated exactly where the file has the needed size
pub stated_test : {f : List ℕ} {n least place : ℕ} {xs : List File} {st : ℕ} → 0 < place → Stated f n least 0 place xs st → leb least (last_record (bytes_among xs n)) ≡ not (eqb 0 st)
stated_test {f} {n} {least} {place} {xs} {st} h (lacking z short) = rw (lt-leb least (last_record (bytes_among xs n)) short, eq-eqb 0 st (sym z))
stated_test {f} {n} {least} {place} {xs} {st} h (found r is behind bytes within enough) =
    let long : length (bytes_among xs n) ≡ file_size r = rw bytes (part_length f st (file_size r) within) in
    let last = last-size r (bytes_among xs n) long in
    rw (last, le-leb least r enough, ne_eqb 0 st (λ q. omega arith))

-- the eight bytes behind record 0x00, in the file and in the cluster
part-inside : (l : List ℕ) (p a m q : ℕ) → p + (a + (m + q)) ≤ length l → part (part l p (a + (m + q))) a m ≡ part l (p + a) m
unfolding part
part-inside l p a m q h =
    let x = part l p a in
    let y = part l (p + a) m in
    let z = part l (p + a + m) q in
    let joined : part l p (a + (m + q)) ≡ x ++ (y ++ z) = rw (part-add l p a (m + q), part-add l (p + a) m q) in
    rw (joined, drop_at x (y ++ z) a (part_length l p a (omega arith)), take_at y z m (part_length l (p + a) m (omega arith)))

pub part-part : (l : List ℕ) (p n a m : ℕ) → p + n ≤ length l → a + m ≤ n → part (part l p n) a m ≡ part l (p + a) m
part-part l p n a m h g =
    let split : a + (m + (n - (a + m))) ≡ n = omega arith in
    subst (λ (k : ℕ). part (part l p k) a m ≡ part l (p + a) m) split (part-inside l p a m (n - (a + m)) (omega arith))

stated-name : (s : Slave) {f : List ℕ} {place st : ℕ} → Stated f documentation needed_documentation 0 place s.files st → (0 ≡ st → ⊥) → (physical_name s ≡ name_at f st) × NameStands f st
unfolding physical_name bytes_in file_size name_at
stated-name s {f} {place} {st} (lacking z short) h = absurd (h (sym z))
stated-name s {f} {place} {st} (found r is behind bytes within enough) h =
    (ap number_of (rw bytes (part-part f st (4 * (r + 1)) 4 8 within (omega arith))), record { within = omega arith })

is-there : {f : List ℕ} {n least place : ℕ} {xs : List File} {st : ℕ} → Stated f n least 0 place xs st → (0 ≡ st → ⊥) → st ≡ place_among place xs n
is-there (lacking z short) h = absurd (h (sym z))
is-there (found r is behind bytes within enough) h = is

-- ---- all slaves

none_missing : (a b A : Bool) → both (both (not a) (not b)) (not A) ≡ not (either a (either b A))
unfolding both either
none_missing true b A = refl
none_missing false true A = refl
none_missing false false A = refl

module _ (w : ℕ) (f : List ℕ) where
  -- ground 7, by the stated places
  pub needed-places : (t place k e : ℕ) → 0 < place → walk_slaves w f t place k ≡ to e → all_have_needed (slaves_at w f t k) ≡ not (is_among 0 (stated_places w f t k))
  unfolding slaves_at all_have_needed stated_places is_among has_needed bytes_in
  needed-places t place zero e h g = refl
  needed-places t place (suc k) e h g =
      let s = slaves_took w f t place k e g in
      let c = stated_test (omega arith) (stated-slave w f configuration needed_configuration t place s.middle (omega arith) s.first) in
      let d = stated_test (omega arith) (stated-slave w f documentation needed_documentation t place s.middle (omega arith) s.first) in
      let end = slave-end w f t place s.middle s.first in
      let more = needed-places (t + entry_size_lem w) s.middle k e (omega (arith, end)) s.rest in
      rw (c, d, more) (none_missing (eqb 0 (stated_in w f configuration needed_configuration t)) (eqb 0 (stated_in w f documentation needed_documentation t)) _)

  -- a slave of which no place is missing, and the slaves after it
  module _ (t k : ℕ) (m : is_among 0 (stated_places w f t (suc k)) ≡ false) where
    config-some : 0 ≡ stated_in w f configuration needed_configuration t → ⊥
    unfolding stated_places is_among
    config-some = eqb-false 0 (stated_in w f configuration needed_configuration t) (either_false_left _ _ m)

    document-some : 0 ≡ stated_in w f documentation needed_documentation t → ⊥
    unfolding stated_places is_among
    document-some = eqb-false 0 (stated_in w f documentation needed_documentation t) (either_false_left _ _ (either_false_right _ _ m))

    after-some : is_among 0 (stated_places w f (t + entry_size_lem w) k) ≡ false
    unfolding stated_places is_among
    after-some = either_false_right _ _ (either_false_right _ _ m)

  -- ground 8, by the stated places: where none is missing, each physical name stands at its place
  pub stated-names : (t place k e : ℕ) → 0 < place → walk_slaves w f t place k ≡ to e → is_among 0 (stated_places w f t k) ≡ false →
      (map physical_name (slaves_at w f t k) ≡ names_at f (stated_places w f t k)) × All (NameStands f) (documentation_places (stated_places w f t k))
  unfolding slaves_at stated_places documentation_places
  stated-names t place zero e h g m = (refl, all_empty)
  stated-names t place (suc k) e h g m =
      let s = slaves_took w f t place k e g in
      let end = slave-end w f t place s.middle s.first in
      let here = stated-name (slave_at w f t) (stated-slave w f documentation needed_documentation t place s.middle (omega arith) s.first) (document-some t k m) in
      let more = stated-names (t + entry_size_lem w) s.middle k e (omega (arith, end)) s.rest (after-some t k m) in
      (ap₂ (λ (x : ℕ) (xs : List ℕ). x ∷ xs) here.0 more.0, Bytes.all_next here.1 more.1)

  -- the stated places are where the cluster's encoding keeps the files
  pub stated-config : (t place k e s : ℕ) → walk_slaves w f t place k ≡ to e → is_among 0 (stated_places w f t k) ≡ false → s < k →
      get_or (stated_places w f t k) (configuration_index s) 0 ≡ file_place_from w place (slaves_at w f t k) s configuration
  unfolding slaves_at stated_places file_place_from
  stated-config t place zero e s g m l = elim l [ ]
  stated-config t place (suc k) e zero g m l =
      let s = slaves_took w f t place k e g in
      is-there (stated-slave w f configuration needed_configuration t place s.middle (omega arith) s.first) (config-some t k m)
  stated-config t place (suc k) e (suc i) g m l =
      let s = slaves_took w f t place k e g in
      let end = slave-end w f t place s.middle s.first in
      let next : configuration_index (suc i) ≡ suc (suc (configuration_index i)) = omega arith in
      rw next
      (subst (λ (p : ℕ). get_or (stated_places w f (t + entry_size_lem w) k) (configuration_index i) 0 ≡ file_place_from w p (slaves_at w f (t + entry_size_lem w) k) i configuration) end
      (stated-config (t + entry_size_lem w) s.middle k e i s.rest (after-some t k m) (omega arith)))

  pub stated-document : (t place k e s : ℕ) → walk_slaves w f t place k ≡ to e → is_among 0 (stated_places w f t k) ≡ false → s < k →
      get_or (stated_places w f t k) (documentation_index s) 0 ≡ file_place_from w place (slaves_at w f t k) s documentation
  unfolding slaves_at stated_places file_place_from
  stated-document t place zero e s g m l = elim l [ ]
  stated-document t place (suc k) e zero g m l =
      let s = slaves_took w f t place k e g in
      is-there (stated-slave w f documentation needed_documentation t place s.middle (omega arith) s.first) (document-some t k m)
  stated-document t place (suc k) e (suc i) g m l =
      let s = slaves_took w f t place k e g in
      let end = slave-end w f t place s.middle s.first in
      let next : documentation_index (suc i) ≡ suc (suc (documentation_index i)) = omega arith in
      rw next
      (subst (λ (p : ℕ). get_or (stated_places w f (t + entry_size_lem w) k) (documentation_index i) 0 ≡ file_place_from w p (slaves_at w f (t + entry_size_lem w) k) i documentation) end
      (stated-document (t + entry_size_lem w) s.middle k e i s.rest (after-some t k m) (omega arith)))
