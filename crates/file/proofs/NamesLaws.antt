-- The physical names of the slaves, compared from the last to the first.
-- Assumes nothing.
use Rattle.std.proofs.Common.{ℕ, zero, suc, ◌+◌, ◌-◌, ◌/◌, ◌≤◌, ◌<◌, ◌≡◌, refl, sym, ap, ◌∙◌, List, [], ◌∷◌, map, Bool, true, false, arith, length}
use Rattle.std.proofs.Common.{get_or, drop, set, replicate, length-set, drop-cons, eqb, w16, w64, Fits}
use lib.ListN.{length-replicate}
use lib.Seq.{drop-length}
use Rattle.file.specs.Inner.Numbers.{ByteAt}
use Rattle.file.specs.Rules.FileGrounds.{is_among, has_repeat}
use Rattle.file.specs.Inner.Layout.{physical_name_place, long_width}
use Rattle.file.specs.Inner.Places.{places_each, documentation_index}
use Rattle.file.specs.Inner.Checked.{documentation_places, name_at, names_at, NamesStand, RemainderAt, repeats_name}
use Rattle.file.proofs.Bytes.{all-at}
use Rattle.file.proofs.NumberLaws.{number-last}
use Rattle.file.proofs.LookingLaws.{Looking, looking_start, looking_here, looking_next, looking_end, few_once, two_once, repeat_after}
use Rattle.file.specs.Inner.Marked.{Marked, remainder}
use Rattle.file.proofs.Marks.{marked_none, marked_add, marked-new}
use Rattle.file.proofs.Order.{either_left, either_false}

-- ---- the names in order

pub length-names : (f docs : List ℕ) → length (map (name_at f) docs) ≡ length docs
length-names f [] = refl
length-names f (p ∷ ps) = ap suc (length-names f ps)

pub name_of : (f docs : List ℕ) (i : ℕ) → i < length docs → get_or (map (name_at f) docs) i 0 ≡ name_at f (get_or docs i 0)
name_of f [] i h = absurd (omega arith)
name_of f (p ∷ ps) zero h = refl
name_of f (p ∷ ps) (suc i) h = name_of f ps i (omega arith)

pub few-names : (f docs : List ℕ) → length docs < 2 → false ≡ has_repeat (map (name_at f) docs)
few-names f docs h = few_once (map (name_at f) docs) (rw (length-names f docs) h)

-- ---- a search among the names

module _ (f docs : List ℕ) {name from i : ℕ} (h : Looking name (map (name_at f) docs) from i) where
  named_end : length docs ≤ i → false ≡ is_among name (drop from (map (name_at f) docs))
  named_end past = looking_end h (rw (length-names f docs) past)

  module _ (more : i < length docs) {here : ℕ} (is : here ≡ name_at f (get_or docs i 0)) where
    there : i < length (map (name_at f) docs)
    there = rw (length-names f docs) more

    named_here : here ≡ name → true ≡ is_among name (drop from (map (name_at f) docs))
    named_here e = looking_here h there (name_of f docs i more ∙ sym is ∙ e)

    named-next : (here ≡ name → ⊥) → Looking name (map (name_at f) docs) from (i + 1)
    named-next other = looking_next h there (λ e. other (is ∙ sym (name_of f docs i more) ∙ e))

-- ---- the comparison: the marks are the remainders of the names from i on, and none of these names occurs twice

pub record Comparing (l : List ℕ) (seen : List Bool) (i : ℕ) : Type 0 where
  pub room : length seen ≡ 256
  pub within : i ≤ length l
  pub marks : Marked seen (map remainder (drop i l))
  pub single : has_repeat (drop i l) ≡ false

pub comparing-start : (l : List ℕ) {i : ℕ} → i ≡ length l → Comparing l (replicate 256 false) i
unfolding has_repeat
comparing-start l {i} last =
    let none : drop i l ≡ [] = rw (last, drop-length l) in
    record {
      room = length-replicate 256 false;
      within = omega arith;
      marks = rw none (marked_none 256);
      single = rw none;
    }

module _ {l : List ℕ} {seen : List Bool} {i : ℕ} (h : Comparing l seen i) (more : 0 < i) {name : ℕ} (is : name ≡ get_or l (i - 1) 0) where
  before : drop (i - 1) l ≡ name ∷ drop i l
  before =
      let back : suc (i - 1) ≡ i = omega arith in
      let first : drop (i - 1) l ≡ get_or l (i - 1) 0 ∷ drop (suc (i - 1)) l = drop-cons l (i - 1) 0 (let w = h.within in omega arith) in
      rw (back, ← is) at first

  fits : remainder name < length seen
  fits = rw h.room (omega arith)

  -- a remainder that is new
  pub comparing-new : get_or seen (remainder name) false ≡ false → is_among name (drop i l) ≡ false
  comparing-new e = marked-new remainder name (drop i l) h.marks fits e

  pub comparing-here : is_among name (drop i l) ≡ true → true ≡ has_repeat l
  unfolding has_repeat
  comparing-here e = sym (repeat_after (i - 1) l (rw before (either_left (has_repeat (drop i l)) e)))

  pub comparing-next : is_among name (drop i l) ≡ false → Comparing l (set seen (remainder name) true) (i - 1)
  unfolding has_repeat
  comparing-next e =
      record {
        room = length-set seen (remainder name) true ∙ h.room;
        within = let w = h.within in omega arith;
        marks = rw before (marked_add h.marks (remainder name) fits);
        single = rw before (either_false e h.single);
      }

-- ---- the same, of the slaves' places

-- the places of 0x3D among those of both files
pub documents_length : (places : List ℕ) → length (documentation_places places) ≡ length places / places_each
unfolding documentation_places
documents_length [] = refl
documents_length (c ∷ []) = refl
documents_length (c ∷ d ∷ places) = omega (arith, documents_length places)

pub document_of : (places : List ℕ) (i : ℕ) → i < length places / places_each → get_or (documentation_places places) i 0 ≡ get_or places (documentation_index i) 0
unfolding documentation_places
document_of [] i h = absurd (omega arith)
document_of (c ∷ []) i h = absurd (omega arith)
document_of (c ∷ d ∷ places) zero h = refl
document_of (c ∷ d ∷ places) (suc i) h =
    let next : documentation_index (suc i) ≡ suc (suc (documentation_index i)) = omega arith in
    rw next (document_of places i (omega arith))

pub length-names-at : (f places : List ℕ) → length (names_at f places) ≡ length places / places_each
length-names-at f places = length-names f (documentation_places places) ∙ documents_length places

pub few-names-at : (f places : List ℕ) → length places / places_each < 2 → false ≡ has_repeat (names_at f places)
few-names-at f places h = few-names f (documentation_places places) (rw (documents_length places) h)

module _ (f places : List ℕ) (two : length places / places_each ≡ 2) where
  name-at-place : (i : ℕ) → i < 2 → get_or (names_at f places) i 0 ≡ name_at f (get_or places (documentation_index i) 0)
  name-at-place i below =
      let there : i < length (documentation_places places) = rw (documents_length places, two) below in
      name_of f (documentation_places places) i there ∙ rw (document_of places i (rw two below))

  pub two-names-at : {a b : ℕ} → a ≡ name_at f (get_or places (documentation_index 0) 0) → b ≡ name_at f (get_or places (documentation_index 1) 0) → eqb a b ≡ has_repeat (names_at f places)
  two-names-at first second =
      rw (first, second, ← name-at-place 0 (omega arith), ← name-at-place 1 (omega arith)) (two_once (names_at f places) (length-names-at f places ∙ two))

-- each slave's name stands within the bytes, at a place that is a number of the machine
pub name-within : (f places : List ℕ) (i : ℕ) → NamesStand f places → i < length places / places_each → get_or places (documentation_index i) 0 + physical_name_place + long_width ≤ length f
name-within f places i h l =
    let there : i < length (documentation_places places) = rw (documents_length places) l in
    rw (document_of places i l) at (all-at 0 h.all there).within

pub last_within : (f places : List ℕ) (i : ℕ) → NamesStand f places → i < length places / places_each → get_or places (documentation_index i) 0 + physical_name_place + 7 < length f
last_within f places i h l = omega (arith, name-within f places i h l)

module _ (places : List ℕ) (known : (j : ℕ) → Fits w16 (get_or places j 0)) (i : ℕ) where
  pub place-fits : Fits w64 (get_or places i 0)
  place-fits = record { fits = omega (arith, known i) }

  pub name-fits : Fits w64 (get_or places i 0 + physical_name_place)
  name-fits = record { fits = omega (arith, known i) }

  pub last_fits : Fits w64 (get_or places i 0 + physical_name_place + 7)
  last_fits = record { fits = omega (arith, known i) }

-- its remainder is its last byte
pub remainder-there : (f places : List ℕ) {i r : ℕ} → NamesStand f places → i < length places / places_each → ByteAt f (get_or places (documentation_index i) 0 + physical_name_place + 7) r
    → RemainderAt f (get_or places (documentation_index i) 0) r
unfolding name_at
remainder-there f places {i} h l byte =
    record { is = number-last (get_or places (documentation_index i) 0 + physical_name_place) 7 (omega (arith, name-within f places i h l)) byte }

-- a search among them
pub search_start : (f places : List ℕ) (name from : ℕ) → from ≤ length places / places_each → Looking name (names_at f places) from from
search_start f places name from h = looking_start name (names_at f places) from (rw (length-names-at f places) h)

module _ (f places : List ℕ) {name from i : ℕ} (h : Looking name (names_at f places) from i) where
  pub searched_end : length places / places_each ≤ i → false ≡ is_among name (drop from (names_at f places))
  searched_end past = named_end f (documentation_places places) h (rw (documents_length places) past)

  module _ (more : i < length places / places_each) {here : ℕ} (is : here ≡ name_at f (get_or places (documentation_index i) 0)) where
    there-is : here ≡ name_at f (get_or (documentation_places places) i 0)
    there-is = rw (document_of places i more) is

    in_list : i < length (documentation_places places)
    in_list = rw (documents_length places) more

    pub searched_here : here ≡ name → true ≡ is_among name (drop from (names_at f places))
    searched_here e = named_here f (documentation_places places) h in_list there-is e

    pub searched_next : (here ≡ name → ⊥) → Looking name (names_at f places) from (i + 1)
    searched_next other = named-next f (documentation_places places) h in_list there-is other

-- a name whose remainder is new
pub unseen : {b : Bool} (name : ℕ) (l : List ℕ) → (b ≡ false → is_among name l ≡ false) → b ≡ false → false ≡ is_among name l
unseen name l none e = sym (none e)

pub repeats-search :
    (f places : List ℕ) (s : ℕ) {name : ℕ} → name ≡ name_at f (get_or places (documentation_index s) 0) → {t : Bool} →
    t ≡ is_among name (drop (s + 1) (names_at f places)) → t ≡ repeats_name f places s
unfolding repeats_name
repeats-search f places s is found = found ∙ ap (λ (n : ℕ). is_among n (drop (s + 1) (names_at f places))) is

-- what the loop from the last slave to the first keeps
pub record Compared (f places : List ℕ) (seen : List Bool) (i : ℕ) : Type 0 where
  pub inside : i ≤ length places / places_each
  pub room : length seen ≡ 256
  pub names : Comparing (names_at f places) seen i

pub compared-start : (f places : List ℕ) {i : ℕ} → i ≡ length places / places_each → Compared f places (replicate 256 false) i
compared-start f places e =
    record {
      inside = omega arith;
      room = length-replicate 256 false;
      names = comparing-start (names_at f places) (e ∙ sym (length-names-at f places));
    }

module _ {f places : List ℕ} {seen : List Bool} {i : ℕ} (h : Compared f places seen i) (more : 0 < i) where
  abbrev name : ℕ
  name = name_at f (get_or places (documentation_index (i - 1)) 0)

  pub compared-below : i - 1 < length places / places_each
  compared-below = omega (arith, h.inside)

  in_order : name ≡ get_or (names_at f places) (i - 1) 0
  in_order =
      let w = h.inside in
      let there : i - 1 < length (documentation_places places) = rw (documents_length places) (omega arith) in
      sym (name_of f (documentation_places places) (i - 1) there ∙ rw (document_of places (i - 1) (omega arith)))

  among : repeats_name f places (i - 1) ≡ is_among name (drop i (names_at f places))
  unfolding repeats_name
  among = let back : i - 1 + 1 ≡ i = omega arith in rw back

  module _ {r : ℕ} (is : RemainderAt f (get_or places (documentation_index (i - 1)) 0) r) where
    pub equal_new : get_or seen r false ≡ false → repeats_name f places (i - 1) ≡ false
    equal_new e = among ∙ comparing-new h.names more in_order (rw (← is.is) e)

    module _ {t : Bool} (found : t ≡ repeats_name f places (i - 1)) where
      pub equal_here : t ≡ true → true ≡ has_repeat (names_at f places)
      equal_here e = comparing-here h.names more in_order (sym among ∙ sym found ∙ e)

      pub equal_next : t ≡ false → Compared f places (set seen r true) (i - 1)
      equal_next e =
          record {
            inside = omega (arith, h.inside);
            room = length-set seen r true ∙ h.room;
            names = rw is.is (comparing-next h.names more in_order (sym among ∙ sym found ∙ e));
          }
