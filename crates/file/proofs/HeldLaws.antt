-- Names that are held, 0xFF aside: a search for one that a list has twice, from the last to the first.
-- Assumes nothing.
use Rattle.std.proofs.Common.{ℕ, zero, suc, ◌-◌, ◌≤◌, ◌<◌, ◌≡◌, refl, sym, ap, ◌∙◌, List, [], ◌∷◌, Bool, true, false, not, arith, eq-eqb, eqb-true}
use Rattle.std.proofs.Common.{ne_eqb, length, get_or, drop, set, replicate, length-set, drop-cons, eqb}
use lib.ListN.{length-replicate}
use lib.Seq.{drop-length, set-get_or}
use Rattle.file.specs.Rules.Cluster.{Cluster, unnamed, logical_name, logical_names}
use Rattle.file.specs.Rules.FileGrounds.{is_among, has_repeat, held_names}
use Rattle.file.proofs.Order.{by_case, clash, either_left, either_right, either_false}
use Rattle.file.proofs.LookingLaws.{few_once, two_once}
use Rattle.file.specs.Inner.Marked.{Marked}
use Rattle.file.specs.Inner.Places.{no_slave_lem, slave_of}
use Rattle.file.proofs.NameReadLaws.{names-count, name_in}
use Rattle.file.proofs.Marks.{marked_none, marked_add}

-- ---- the first name is held, or it is 0xFF

pub held_first : (n : ℕ) (ns : List ℕ) → eqb n unnamed ≡ false → held_names (n ∷ ns) ≡ n ∷ held_names ns
unfolding held_names
held_first n ns e = rw e

pub held-rest : (n : ℕ) (ns : List ℕ) → eqb n unnamed ≡ true → held_names (n ∷ ns) ≡ held_names ns
unfolding held_names
held-rest n ns e = rw e

-- 0xFF is not held
unnamed_free : (ns : List ℕ) → is_among unnamed (held_names ns) ≡ false
unfolding is_among held_names
unnamed_free [] = refl
unnamed_free (n ∷ ns) =
    by_case (eqb n unnamed)
    (λ e. rw e (unnamed_free ns))
    (λ e. rw e (either_false (ne_eqb unnamed n (λ z. clash (eq_eqb' z) e)) (unnamed_free ns)))
  where
    eq_eqb' : {m : ℕ} → unnamed ≡ m → eqb m unnamed ≡ true
    eq_eqb' z = rw (sym z)

-- a name that is held twice from a place on is held twice
held_after : (k : ℕ) (l : List ℕ) → has_repeat (held_names (drop k l)) ≡ true → has_repeat (held_names l) ≡ true
unfolding has_repeat
held_after zero l h = h
held_after (suc k) [] h = h
held_after (suc k) (n ∷ ns) h =
    by_case (eqb n unnamed)
    (λ e. rw (held-rest n ns e) (held_after k ns h))
    (λ e. rw (held_first n ns e) (either_right (is_among n (held_names ns)) (held_after k ns h)))

pub few-held : (l : List ℕ) → length l < 2 → false ≡ has_repeat (held_names l)
unfolding held_names
few-held [] few = few_once [] few
few-held (n ∷ []) few = by_case (eqb n unnamed) (λ e. rw e (few_once [] (omega arith))) (λ e. rw e (few_once (n ∷ []) few))
few-held (n ∷ m ∷ ns) few = absurd (omega arith)

-- two names: the first is 0xFF, or it is compared with the second
pub two-unnamed : (l : List ℕ) → length l ≡ 2 → get_or l 0 0 ≡ unnamed → false ≡ has_repeat (held_names l)
two-unnamed [] two is = absurd (omega arith)
two-unnamed (n ∷ []) two is = absurd (omega arith)
two-unnamed (n ∷ m ∷ []) two is = rw (held-rest n (m ∷ []) (eq-eqb n unnamed is)) (few-held (m ∷ []) (omega arith))
two-unnamed (n ∷ m ∷ k ∷ ns) two is = absurd (omega arith)

pub two-held : (l : List ℕ) → length l ≡ 2 → (get_or l 0 0 ≡ unnamed → ⊥) → eqb (get_or l 0 0) (get_or l 1 0) ≡ has_repeat (held_names l)
unfolding held_names
two-held [] two other = absurd (omega arith)
two-held (n ∷ []) two other = absurd (omega arith)
two-held (n ∷ m ∷ []) two other =
    by_case (eqb m unnamed)
    (λ e. rw (e, ne_eqb n unnamed other, ne_eqb n m (λ q. other (q ∙ eqb-true m unnamed e))) (few_once (n ∷ []) (omega arith)))
    (λ e. rw (e, ne_eqb n unnamed other) (two_once (n ∷ m ∷ []) refl))
two-held (n ∷ m ∷ k ∷ ns) two other = absurd (omega arith)

-- ---- from the last name on: the marks are those of the names held from i on, and none of these occurs twice

pub record NamesSeen (l : List ℕ) (seen : List Bool) (i : ℕ) : Type 0 where
  pub room : length seen ≡ 256
  pub within : i ≤ length l
  pub marks : Marked seen (held_names (drop i l))
  pub single : has_repeat (held_names (drop i l)) ≡ false

seen_start : (l : List ℕ) → NamesSeen l (replicate 256 false) (length l)
unfolding held_names has_repeat
seen_start l =
    record {
      room = length-replicate 256 false;
      within = omega arith;
      marks = rw (drop-length l) (marked_none 256);
      single = rw (drop-length l);
    }

-- the name at i - 1
module _ {l : List ℕ} {seen : List Bool} {i : ℕ} (h : NamesSeen l seen i) (more : 0 < i) {name : ℕ} (first : drop (i - 1) l ≡ name ∷ drop i l) (byte : name < 256) where
  fits : name < length seen
  fits = rw h.room byte

  seen_here : get_or seen name false ≡ true → true ≡ has_repeat (held_names l)
  unfolding has_repeat
  seen_here e =
      let twice : is_among name (held_names (drop i l)) ≡ true = sym (h.marks.are name fits) ∙ e in
      by_case (eqb name unnamed)
      (λ t. clash (rw (eqb-true name unnamed t) at twice) (unnamed_free (drop i l)))
      (λ t. sym (held_after (i - 1) l (rw (first, held_first name (drop i l) t) (either_left (has_repeat (held_names (drop i l))) twice))))

  seen_next : get_or seen name false ≡ false → NamesSeen l (set seen name (not (eqb name unnamed))) (i - 1)
  seen_next e =
      by_case (eqb name unnamed)
      (λ t.
      let as-was : set seen name false ≡ seen = sym (ap (λ (b : Bool). set seen name b) e) ∙ set-get_or seen name false in
      let rest : held_names (drop (i - 1) l) ≡ held_names (drop i l) = rw first (held-rest name (drop i l) t) in
      rw (t, as-was) (record {
        room = h.room;
        within = let w = h.within in omega arith;
        marks = rw rest h.marks;
        single = rw rest h.single;
      }))
      (λ t.
      let more' : held_names (drop (i - 1) l) ≡ name ∷ held_names (drop i l) = rw first (held_first name (drop i l) t) in
      rw t (record {
        room = length-set seen name true ∙ h.room;
        within = let w = h.within in omega arith;
        marks = rw more' (marked_add h.marks name fits);
        single = rw more' (unfold has_repeat in either_false (sym (h.marks.are name fits) ∙ e) h.single);
      }))

-- ---- the same of the slaves of a cluster

-- an element that is there, whatever stands for one that is not
there-alike : (l : List ℕ) (i d e : ℕ) → i < length l → get_or l i d ≡ get_or l i e
there-alike [] i d e h = absurd (omega arith)
there-alike (n ∷ ns) zero d e h = refl
there-alike (n ∷ ns) (suc i) d e h = there-alike ns i d e (omega arith)

pub slaves-start : (c : Cluster) {n : ℕ} → n ≡ length c.slaves → NamesSeen (logical_names c) (replicate 256 false) n
slaves-start c count = rw (count, ← names-count c) (seen_start (logical_names c))

module _ (c : Cluster) {seen : List Bool} {i : ℕ} (h : NamesSeen (logical_names c) seen i) (more : 0 < i) where
  pub slaves-below : i - 1 < length c.slaves
  slaves-below = omega (arith, h.within, names-count c)

  module _ {name : ℕ} (is : name ≡ logical_name (slave_of c (i - 1))) (byte : name < 256) where
    name-first : drop (i - 1) (logical_names c) ≡ name ∷ drop i (logical_names c)
    name-first =
        let back : suc (i - 1) ≡ i = omega arith in
        let below : i - 1 < length (logical_names c) = rw (names-count c) slaves-below in
        let first : drop (i - 1) (logical_names c) ≡ get_or (logical_names c) (i - 1) (logical_name no_slave_lem) ∷ drop (suc (i - 1)) (logical_names c) =
        drop-cons (logical_names c) (i - 1) (logical_name no_slave_lem) below in
        rw (back, name_in c (i - 1), ← is) at first

    pub slaves-here : get_or seen name false ≡ true → true ≡ has_repeat (held_names (logical_names c))
    slaves-here e = seen_here h more name-first byte e

    pub slaves-next : {t : Bool} → t ≡ not (eqb name unnamed) → get_or seen name false ≡ false → NamesSeen (logical_names c) (set seen name t) (i - 1)
    slaves-next held e = rw held (seen_next h more name-first byte e)

pub few-slaves : (c : Cluster) {n : ℕ} → n ≡ length c.slaves → n < 2 → false ≡ has_repeat (held_names (logical_names c))
few-slaves c count few = few-held (logical_names c) (rw (names-count c, ← count) few)

module _ (c : Cluster) {n : ℕ} (count : n ≡ length c.slaves) (some : 2 ≤ n) (two : n ≤ 2) where
  both-there : length (logical_names c) ≡ 2
  both-there = omega (arith, names-count c)

  name-there : (s : ℕ) → s < 2 → get_or (logical_names c) s 0 ≡ logical_name (slave_of c s)
  name-there s below = there-alike (logical_names c) s 0 (logical_name no_slave_lem) (rw both-there below) ∙ name_in c s

  module _ {first : ℕ} (is : first ≡ logical_name (slave_of c 0)) where
    pub two-slaves-unnamed : first ≡ unnamed → false ≡ has_repeat (held_names (logical_names c))
    two-slaves-unnamed e = two-unnamed (logical_names c) both-there (name-there 0 (omega arith) ∙ sym is ∙ e)

    pub two-slaves : (first ≡ unnamed → ⊥) → {second : ℕ} → second ≡ logical_name (slave_of c 1) → {t : Bool} → t ≡ eqb first second → t ≡ has_repeat (held_names (logical_names c))
    two-slaves other is₂ same =
        rw (same, is, is₂, ← name-there 0 (omega arith), ← name-there 1 (omega arith))
        (two-held (logical_names c) both-there (λ e. other (is ∙ sym (name-there 0 (omega arith)) ∙ e)))
