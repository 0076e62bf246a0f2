-- What the bytes of an accepted file say of its cluster, as the readers find them.
-- Assumes nothing.
use Prim.Native.Nat.{ℕ, zero, suc, ◌+◌, ◌*◌, ◌-◌, ◌≤◌, ◌<◌}
use mathlib.Core.Path.{◌≡◌, refl, sym, ◌∙◌, ap, subst}
use mathlib.Core.List.{List, [], ◌∷◌}
use mathlib.Core.Bool.{cond}
use native.Mathlib.Omega.{arith}
use borrow.Author.Tests.{eq-eqb, ne_eqb, eqb-true, eqb-false, le-leb, lt-leb, leb-true}
use lib.ListN.{length, get_or}
use lib.Dec.{eqb, leb}
use Rattle.file.specs.Rules.Bytes.{number_of, part}
use Rattle.file.specs.Inner.Numbers.{ByteAt, NumberAt}
use Rattle.file.specs.Rules.Layout.{width_in, header_size, entry_size_lem}
use mir.Syntax.{w64}
use mir.Val.{Fits}
use Rattle.file.specs.Rules.Cluster.{File, Cluster, last_record, bytes_among, bytes_in, has_record, configuration, documentation, logical_name, physical_name, comparison_value}
use Rattle.file.specs.Rules.Encode.{slaves_place}
use Rattle.file.specs.Rules.Decode.{offset_at, file_size, files_at, slave_at, slaves_at, decode_at, decode}
use Rattle.file.specs.Rules.Decode
use Rattle.file.specs.Rules.Legal.{LegalSlave}
use Rattle.file.specs.Rules.FileGrounds.{to, walk_directory, walk_slave, walk_slaves, walk_file, table_end}
use Rattle.file.specs.Inner.Places.{no_slave_lem, slave_of, place_among, file_place_from, file_place_at, file_place, configuration_index, documentation_index}
use Rattle.file.specs.Inner.Accepted.{Becomes, WidthOf, slave_count, Placed, FoundFile, file_found, FoundRecord, record_at, find_file, find_record}
use Rattle.file.specs.Inner.Checked.{EntriesFit, search_directory}
use Rattle.file.proofs.Order.{by_case}
use Rattle.file.proofs.Bytes.{all-at}
use Rattle.file.proofs.AcceptedFacts.{accepted}
use Rattle.file.proofs.Stores.{file-fits, read_byte, read-part}
use Rattle.file.proofs.Arrivals.{broken_arrives, walk_took, slave_took, slaves_took, length-files_at, length-slaves_at}
use Rattle.file.proofs.AtWidth.{BecomesAt, at-edition, becomes-at, width-in, header-room-at, length_at}
use Rattle.file.proofs.WalkLaws.{more_left, none_left, entry-fits}
use Rattle.file.proofs.Stated.{entry-number, entry_length}
use Rattle.file.proofs.StatedSlaves.{slave-end}

-- ---- slaves

pub becomes-decoded : {f : List ℕ} {c : Cluster} → Becomes f c → Becomes f (decode f)
becomes-decoded {f} {c} h =
    record {
      accepted = h.accepted;
      decoded = refl;
      encoded = rw h.decoded h.encoded;
      legal = subst Rattle.file.specs.Rules.Legal.Legal (sym h.decoded) h.legal;
    }

last-room : (r : ℕ) (bs : List ℕ) → 1 ≤ r → r ≤ last_record bs → 4 * r + 4 ≤ length bs
unfolding last_record
last-room r bs some h = omega arith

module _ {f : List ℕ} {c : Cluster} (h : Becomes f c) (s : ℕ) where
  pub slave-legal : s < length c.slaves → LegalSlave (slave_of c s)
  unfolding slave_of
  slave-legal l = all-at no_slave_lem h.legal.slaves l

  -- 0x08 has the bytes of records 0x00 to 3, 0x3D those of 0x00 to 2
  pub configuration-room : s < length c.slaves → 16 ≤ length (bytes_in (slave_of c s) configuration)
  configuration-room l = last-room 3 _ (omega arith) (slave-legal l).configured

  pub documentation-room : s < length c.slaves → 12 ≤ length (bytes_in (slave_of c s) documentation)
  documentation-room l = last-room 2 _ (omega arith) (slave-legal l).documented

  wide : 2 ≤ width_in c.edition
  wide = (at-edition h).legal.width.least

  -- a file's bytes lie within the accepted file, and are read at its place
  pub place-within : (n : ℕ) → 0 < length (bytes_in (slave_of c s) n) → file_place c s n + length (bytes_in (slave_of c s) n) ≤ length f
  unfolding file_place
  place-within n some = rw (at-edition h).encoded (file-fits wide s n c some)

  pub byte-there : (n k : ℕ) → k < length (bytes_in (slave_of c s) n) → get_or f (file_place c s n + k) 0 ≡ get_or (bytes_in (slave_of c s) n) k 0
  unfolding file_place
  byte-there n k l = rw (at-edition h).encoded (read_byte wide s n c k l)

  pub part-there : (n a m : ℕ) → a + m ≤ length (bytes_in (slave_of c s) n) → part f (file_place c s n + a) m ≡ part (bytes_in (slave_of c s) n) a m
  unfolding file_place
  part-there n a m l = rw (at-edition h).encoded (read-part wide s n c a m l)

-- ---- the readers of 0x08 and 0x3D

module _ {f places : List ℕ} (h : Placed f places) (s : ℕ) (l : s < slave_count f) where
  pub configuration-within : get_or places (configuration_index s) 0 + 16 ≤ length f
  configuration-within =
      let room = configuration-room h.file s l in
      omega (arith, place-within h.file s configuration (omega arith), h.at.config s l)

  pub documentation-within : get_or places (documentation_index s) 0 + 12 ≤ length f
  documentation-within =
      let room = documentation-room h.file s l in
      omega (arith, place-within h.file s documentation (omega arith), h.at.document s l)

  pub logical-there : get_or f (get_or places (configuration_index s) 0 + 7) 0 ≡ logical_name (slave_of (decode f) s)
  unfolding logical_name
  logical-there =
      let room = configuration-room h.file s l in
      rw (h.at.config s l) (byte-there h.file s configuration 7 (omega arith))

  pub logical-read : {r : ℕ} → r ≡ get_or f (get_or places (configuration_index s) 0 + 7) 0 → r ≡ logical_name (slave_of (decode f) s)
  logical-read is = is ∙ logical-there

  pub physical-there : {r : ℕ} → NumberAt f (get_or places (documentation_index s) 0 + 4) 8 r → r ≡ physical_name (slave_of (decode f) s)
  unfolding physical_name
  physical-there is =
      let room = documentation-room h.file s l in
      is.is ∙ ap number_of (rw (h.at.document s l) (part-there h.file s documentation 4 8 (omega arith)))

  pub comparison_there : {r : ℕ} → NumberAt f (get_or places (configuration_index s) 0 + 8) 8 r → r ≡ comparison_value (slave_of (decode f) s)
  unfolding comparison_value
  comparison_there is =
      let room = configuration-room h.file s l in
      is.is ∙ ap number_of (rw (h.at.config s l) (part-there h.file s configuration 8 8 (omega arith)))

-- ---- the search of a directory

pub search_none : (w : ℕ) (f : List ℕ) (n d : ℕ) → search_directory w f n d 0 ≡ FoundFile.no_file_lem
unfolding search_directory
search_none w f n d = refl

pub search_here : (w : ℕ) (f : List ℕ) (n d k : ℕ) → 0 < k → get_or f d 0 ≡ n → search_directory w f n d k ≡ file_found (offset_at w f (d + w)) (file_size (get_or f (d + 1) 0))
unfolding search_directory
search_here w f n d zero h e = absurd (omega arith)
search_here w f n d (suc k) h e = rw (eq-eqb (get_or f d 0) n e)

pub search_next : (w : ℕ) (f : List ℕ) (n d k : ℕ) → 0 < k → (get_or f d 0 ≡ n → ⊥) → search_directory w f n d k ≡ search_directory w f n (d + entry_size_lem w) (k - 1)
unfolding search_directory
search_next w f n d zero h e = absurd (omega arith)
search_next w f n d (suc k) h e =
    let same : suc k - 1 ≡ k = omega arith in
    rw (ne_eqb (get_or f d 0) n e, same)

-- what the loop along a directory keeps
pub record Searching (w : ℕ) (f : List ℕ) (n d k entry : ℕ) : Type 0 where
  pub left : ℕ
  pub at : entry + 2 * w * left ≡ d + 2 * w * k
  pub same : search_directory w f n entry left ≡ search_directory w f n d k

pub searching_start : {w : ℕ} {f : List ℕ} (d k n : ℕ) → Searching w f n d k d
searching_start d k n = record { left = k; at = refl; same = refl }

module _ {w : ℕ} {f : List ℕ} {n d k entry : ℕ} (fit : EntriesFit w f d k) (h : Searching w f n d k entry) where
  pub searching_done : d + 2 * w * k ≤ entry → FoundFile.no_file_lem ≡ search_directory w f n d k
  unfolding search_directory
  searching_done none =
      let z : h.left ≡ 0 = none_left w entry (d + 2 * w * k) h.left fit.width.least h.at none in
      rw z at h.same

  module _ (more : entry < d + 2 * w * k) where
    -- the entry of a turn lies within the bytes
    pub searching_entry : EntriesFit w f entry 1
    searching_entry = entry-fits fit entry h.left h.at more

    pub searching_first : entry < length f
    searching_first = omega (arith, searching_entry.within, fit.width.least)

    pub searching_second : entry + 1 < length f
    searching_second = omega (arith, searching_entry.within, fit.width.least)

    pub searching_offset : entry + w + w ≤ length f
    searching_offset = omega (arith, searching_entry.within)

    pub searching_offset-fits : Fits w64 (entry + w)
    searching_offset-fits = record { fits = omega (arith, searching_entry.within, fit.short, fit.width.most) }

    some_left : (l : ℕ) × (h.left ≡ suc l)
    some_left = more_left w entry (d + 2 * w * k) h.left h.at more

    module _ {b : ℕ} (is : ByteAt f entry b) where
      pub searching_here : {last place : ℕ} → b ≡ n → ByteAt f (entry + 1) last → NumberAt f (entry + w) w place → file_found place (4 * (last + 1)) ≡ search_directory w f n d k
      unfolding offset_at file_size
      searching_here here l p = rw (l.is, p.is) (sym (search_here w f n entry h.left (omega (arith, some_left.1)) (sym is.is ∙ here)) ∙ h.same)

      pub searching_next : (b ≡ n → ⊥) → Searching w f n d k (entry + 2 * w)
      searching_next other =
          let m = some_left in
          let less : h.left - 1 ≡ m.0 = omega (arith, m.1) in
          let was : entry + 2 * w * suc m.0 ≡ d + 2 * w * k = rw m.1 at h.at in
          record {
            left = h.left - 1;
            at = rw less (omega (arith, was));
            same = sym (search_next w f n entry h.left (omega (arith, m.1)) (λ q. other (is.is ∙ q))) ∙ h.same;
          }

-- ---- a directory that was walked states each of its files

-- what files from a place on hold of a number
unfoldable pub found_among : ℕ → List File → ℕ → FoundFile
found_among place xs n = cond (eqb (length (bytes_among xs n)) 0) FoundFile.no_file_lem (file_found (place_among place xs n) (length (bytes_among xs n)))

found_here : (place : ℕ) (x : File) (xs : List File) (n : ℕ) → x.number ≡ n → 0 < length x.bytes → found_among place (x ∷ xs) n ≡ file_found place (length x.bytes)
unfolding found_among bytes_among place_among
found_here place x xs n is some = rw (eq-eqb x.number n is, ne_eqb (length x.bytes) 0 (λ q. omega arith))

found_behind : (place : ℕ) (x : File) (xs : List File) (n : ℕ) → (x.number ≡ n → ⊥) → found_among place (x ∷ xs) n ≡ found_among (place + length x.bytes) xs n
unfolding found_among bytes_among place_among
found_behind place x xs n other = rw (ne_eqb x.number n other)

nothing : (p m : ℕ) → FoundFile.no_file_lem ≡ found_among p [] m
unfolding found_among bytes_among
nothing p m = refl

size-some : (r : ℕ) → 0 < file_size r
unfolding file_size
size-some r = omega arith

pub search_finds : (w : ℕ) (f : List ℕ) (n d low place k e : ℕ) → walk_directory w f d low place k ≡ to e → search_directory w f n d k ≡ found_among place (files_at w f d k) n
unfolding files_at
search_finds w f n d low place zero e h = search_none w f n d ∙ nothing place n
search_finds w f n d low place (suc k) e h =
    let s = walk_took w f d low place k e h in
    let x = Decode.file_at w f d in
    let r = get_or f (d + 1) 0 in
    let long = entry_length w f d low place s.facts in
    by_case (eqb (get_or f d 0) n)
    (λ t.
    let is = eqb-true (get_or f d 0) n t in
    search_here w f n d (suc k) (omega arith) is ∙
    sym (found_here place x (files_at w f (d + entry_size_lem w) k) n (entry-number w f d ∙ is) (rw long (size-some r)) ∙ rw (long, s.facts.offset)))
    (λ t.
    let other = eqb-false (get_or f d 0) n t in
    let same : suc k - 1 ≡ k = omega arith in
    let rest = search_finds w f n (d + entry_size_lem w) (suc (get_or f d 0)) (place + file_size r) k e s.rest in
    search_next w f n d (suc k) (omega arith) other ∙
    (rw (same, rest, ← long) (sym (found_behind place x (files_at w f (d + entry_size_lem w) k) n (λ q. other (sym (entry-number w f d) ∙ q))))))

-- ---- the slave of a table entry

pub record SlaveThere (w : ℕ) (f : List ℕ) (t place k s : ℕ) : Type 0 where
  pub at : ℕ
  pub end : ℕ
  pub walk : walk_slave w f (t + entry_size_lem w * s) at ≡ to end
  pub slave : get_or (slaves_at w f t k) s no_slave_lem ≡ slave_at w f (t + entry_size_lem w * s)
  pub place' : (n : ℕ) → file_place_from w place (slaves_at w f t k) s n ≡ place_among (at + entry_size_lem w * length (slave_at w f (t + entry_size_lem w * s)).files) (slave_at w f (t + entry_size_lem w * s)).files n

pub slave-there : (w : ℕ) (f : List ℕ) (t place k e s : ℕ) → walk_slaves w f t place k ≡ to e → s < k → SlaveThere w f t place k s
unfolding slaves_at file_place_from
slave-there w f t place zero e s h l = elim l [ ]
slave-there w f t place (suc k) e zero h l =
    let step = slaves_took w f t place k e h in
    let same : t + entry_size_lem w * 0 ≡ t = omega arith in
    record { at = place; end = step.middle; walk = rw same step.first; slave = rw same; place' = λ n. rw same }
slave-there w f t place (suc k) e (suc s) h l =
    let step = slaves_took w f t place k e h in
    let end = slave-end w f t place step.middle step.first in
    let r = slave-there w f (t + entry_size_lem w) step.middle k e s step.rest (omega arith) in
    let same : t + entry_size_lem w * suc s ≡ t + entry_size_lem w + entry_size_lem w * s = omega arith in
    record {
      at = r.at;
      end = r.end;
      walk = rw same r.walk;
      slave = rw same r.slave;
      place' = λ n.
          let files = (slave_at w f (t + entry_size_lem w + entry_size_lem w * s)).files in
          rw same
          (subst (λ (p : ℕ). file_place_from w p (slaves_at w f (t + entry_size_lem w) k) s n ≡ place_among (r.at + entry_size_lem w * length files) files n) end (r.place' n));
    }

-- ---- the table of an accepted file

-- the most bytes of either width: enough for places to be numbers of the machine
pub length_limit : {f : List ℕ} → Becomes f (decode f) → length f ≤ 65536
length_limit h = let b = at-edition h in omega (arith, length_at b, b.legal.width.most)

pub header-within : {f : List ℕ} → Becomes f (decode f) → 3 < length f
header-within h = omega (arith, header-room-at (at-edition h))

-- an entry is one of so many
entry-below : (w s k : ℕ) → s < k → 2 * w * s + 2 * w ≤ 2 * w * k
entry-below w zero zero l = elim l [ ]
entry-below w (suc s) zero l = elim l [ ]
entry-below w zero (suc k) l = omega arith
entry-below w (suc s) (suc k) l = omega (arith, entry-below w s k (omega arith))

walk-moved : (w : ℕ) (f : List ℕ) {d k a b e : ℕ} → d ≡ a → k ≡ b → walk_directory w f a 0 (a + 2 * w * b) b ≡ to e → walk_directory w f d 0 (d + 2 * w * k) k ≡ to e
walk-moved w f p q h = rw (p, q) h

room_moved : (w n : ℕ) {d k a b : ℕ} → d ≡ a → k ≡ b → a + 2 * w * b ≤ n → d + 2 * w * k ≤ n
room_moved w n p q h = rw (p, q) h

module _ {w : ℕ} {f : List ℕ} {c : Cluster} (h : BecomesAt w f c) where
  table-walk : (header_size w + 2 * w * get_or f 3 0 ≤ length f) × (walk_slaves w f (header_size w) (header_size w + 2 * w * get_or f 3 0) (get_or f 3 0) ≡ to (length f))
  unfolding walk_file table_end
  table-walk =
      let walk = ((accepted w f).0 h.accepted).layout in
      by_case (leb (header_size w + 2 * w * get_or f 3 0) (length f))
      (λ t. (leb-true _ _ t, rw t at walk))
      (λ t. broken_arrives (rw t at walk))

  slaves-are : c.slaves ≡ slaves_at w f (header_size w) (get_or f 3 0)
  unfolding decode_at
  slaves-are = ap (λ (d : Cluster). d.slaves) (sym h.decoded)

  slaves-count : length c.slaves ≡ get_or f 3 0
  slaves-count = rw slaves-are (length-slaves_at w f (header_size w) (get_or f 3 0))

  module _ (s : ℕ) (l : s < length c.slaves) where
    -- its entry of the table, and what that states
    entry-room : header_size w + 2 * w * s + 2 * w ≤ length f
    entry-room = omega (arith, table-walk.0, entry-below w s (get_or f 3 0) (rw slaves-count at l))

    module _ {d k : ℕ} (offset : NumberAt f (header_size w + 2 * w * s) w d) (count : ByteAt f (header_size w + 2 * w * s + w) k) where
      there : SlaveThere w f (header_size w) (header_size w + 2 * w * get_or f 3 0) (get_or f 3 0) s
      there = slave-there w f (header_size w) (header_size w + 2 * w * get_or f 3 0) (get_or f 3 0) (length f) s table-walk.1 (rw slaves-count at l)

      directory-is : d ≡ there.at
      unfolding offset_at
      directory-is = offset.is ∙ (slave_took w f (header_size w + 2 * w * s) there.at there.end there.walk).facts.offset

      entries_fit : EntriesFit w f d k
      entries_fit =
          let took = slave_took w f (header_size w + 2 * w * s) there.at there.end there.walk in
          record { width = h.legal.width; within = room_moved w (length f) directory-is count.is took.facts.within; short = length_at h }

      files-there : (slave_of c s).files ≡ files_at w f d k
      unfolding slave_of slave_at
      files-there =
          let took = slave_took w f (header_size w + 2 * w * s) there.at there.end there.walk in
          rw (slaves-are, there.slave, took.facts.offset, ← directory-is, ← count.is)

      place-there : (n : ℕ) → file_place c s n ≡ place_among (d + 2 * w * k) (files_at w f d k) n
      unfolding file_place file_place_at slaves_place slave_at
      place-there n =
          let took = slave_took w f (header_size w + 2 * w * s) there.at there.end there.walk in
          let at = there.place' n in
          rw (← width-in h, slaves-are, length-slaves_at w f (header_size w) (get_or f 3 0), at, took.facts.offset, ← directory-is, ← count.is, length-files_at w f d k)

      search_found : {r : FoundFile} (n : ℕ) → r ≡ search_directory w f n d k → r ≡ find_file c s n
      unfolding find_file bytes_in found_among
      search_found n is =
          let took = slave_took w f (header_size w + 2 * w * s) there.at there.end there.walk in
          let walk : walk_directory w f d 0 (d + 2 * w * k) k ≡ to there.end = walk-moved w f directory-is count.is took.files in
          rw (files-there, place-there n) (is ∙ search_finds w f n d 0 (d + 2 * w * k) k there.end walk)

pub count-there : {f : List ℕ} {n : ℕ} → Becomes f (decode f) → ByteAt f 3 n → n ≡ slave_count f
count-there h k = k.is ∙ sym (slaves-count (at-edition h))

-- the same, as the readers ask: the width is that of the file
module _ {f : List ℕ} {w : ℕ} (h : Becomes f (decode f)) (v : WidthOf f w) (s : ℕ) (l : s < slave_count f) where
  pub entry-within : header_size w + 2 * w * s + 2 * w ≤ length f
  entry-within = entry-room (becomes-at v h) s l

  pub entry-size-fits : Fits w64 (2 * w * s)
  entry-size-fits = record { fits = omega (arith, entry-within, length_limit h) }

  pub entry-place-fits : Fits w64 (header_size w + 2 * w * s)
  entry-place-fits = record { fits = omega (arith, entry-within, length_limit h) }

  pub entry-count-fits : Fits w64 (header_size w + 2 * w * s + w)
  entry-count-fits = record { fits = omega (arith, entry-within, length_limit h) }

  pub entry-offset : header_size w + 2 * w * s + w ≤ length f
  entry-offset = omega (arith, entry-within)

  pub entry-count : header_size w + 2 * w * s + w < length f
  entry-count = omega (arith, entry-within, v.width.least)

  module _ {d k : ℕ} (offset : NumberAt f (header_size w + 2 * w * s) w d) (count : ByteAt f (header_size w + 2 * w * s + w) k) where
    pub directory-fits : EntriesFit w f d k
    directory-fits = entries_fit (becomes-at v h) s l offset count

    pub file-found : {r : FoundFile} (n : ℕ) → r ≡ search_directory w f n d k → r ≡ find_file (decode f) s n
    file-found n is = search_found (becomes-at v h) s l offset count n is

-- ---- a record of a file that was found

find_cases : (c : Cluster) (s n : ℕ) {place size : ℕ} → file_found place size ≡ find_file c s n → (place ≡ file_place c s n) × (size ≡ length (bytes_in (slave_of c s) n))
unfolding find_file
find_cases c s n {place} {size} h =
    by_case (eqb (length (bytes_in (slave_of c s) n)) 0)
    (λ t. absurd (other (rw t at h)))
    (λ t. same (rw t at h))
  where
    other : file_found place size ≡ FoundFile.no_file_lem → ⊥
    other q = let z : ◌≡◌ {A = ℕ} 0 1 = cc in omega arith

    same : {a b : ℕ} → file_found place size ≡ file_found a b → (place ≡ a) × (size ≡ b)
    same q = (cc, cc)

pub record_missing : (c : Cluster) (s n r : ℕ) → FoundFile.no_file_lem ≡ find_file c s n → FoundRecord.no_record_lem ≡ find_record c s n r
unfolding find_file find_record has_record
record_missing c s n r h =
    by_case (eqb (length (bytes_in (slave_of c s) n)) 0)
    (λ t.
    let z = eqb-true (length (bytes_in (slave_of c s) n)) 0 t in
    rw (lt-leb (4 * r + 4) (length (bytes_in (slave_of c s) n)) (omega arith)))
    (λ t. absurd (other (rw t at h)))
  where
    other : {a b : ℕ} → FoundFile.no_file_lem ≡ file_found a b → ⊥
    other q = let z : ◌≡◌ {A = ℕ} 0 1 = cc in omega arith

pub record_past : (c : Cluster) (s n r : ℕ) {place size : ℕ} → file_found place size ≡ find_file c s n → size < 4 * r + 4 → FoundRecord.no_record_lem ≡ find_record c s n r
unfolding find_record has_record
record_past c s n r h l = rw (lt-leb (4 * r + 4) (length (bytes_in (slave_of c s) n)) (omega (arith, (find_cases c s n h).1)))

pub record_found : (c : Cluster) (s n r : ℕ) {place size : ℕ} → file_found place size ≡ find_file c s n → 4 * r + 4 ≤ size → record_at (place + 4 * r) ≡ find_record c s n r
unfolding find_record has_record
record_found c s n r h l = rw (le-leb (4 * r + 4) (length (bytes_in (slave_of c s) n)) (omega (arith, (find_cases c s n h).1)), (find_cases c s n h).0)

-- a file that was found lies within the file
pub found_within : {f : List ℕ} {c : Cluster} (h : Becomes f c) (s n : ℕ) {place size : ℕ} → file_found place size ≡ find_file c s n → place + size ≤ length f
unfolding find_file
found_within {f} {c} h s n {place} {size} is =
    let both = find_cases c s n is in
    by_case (eqb (length (bytes_in (slave_of c s) n)) 0)
    (λ t. absurd (other (rw t at is)))
    (λ t.
    let some = eqb-false (length (bytes_in (slave_of c s) n)) 0 t in
    omega (arith, both, place-within h s n (positive some)))
  where
    other : file_found place size ≡ FoundFile.no_file_lem → ⊥
    other q = let z : ◌≡◌ {A = ℕ} 0 1 = cc in omega arith

    positive : {m : ℕ} → (m ≡ 0 → ⊥) → 0 < m
    positive {m} no' = omega arith
