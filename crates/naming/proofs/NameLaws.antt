-- The tests of a list of names, name by name.
-- Assumes nothing.
use Rattle.std.proofs.Common.{ℕ, suc, ◌-◌, ◌≤◌, ◌<◌, ◌≡◌, refl, sym, ◌∙◌, List, [], ◌∷◌, Bool, true, false, cond, arith, eq-eqb, eqb-true, ne_eqb, length, get_or, drop, set, replicate, length-set, drop-cons, eqb}
use lib.ListN.{length-replicate}
use Rattle.std.proofs.Math.Seq.{drop-length}
use Rattle.file.specs.Rules.Order.{first_of, either}
use Rattle.file.specs.Rules.Results.{refused, done, result_of}
use Rattle.file.specs.Rules.Cluster.{unnamed, broadcast}
use Rattle.file.specs.Rules.FileGrounds.{is_among, has_repeat}
use Rattle.file.specs.Inner.Marked.{Marked}
use Rattle.file.proofs.LookingLaws.{few_once, either-none}
use Rattle.file.proofs.Marks.{marked_none, marked_add}
use Rattle.file.proofs.Order.{by_case, clash, either_left, either_right, either-next, either_false, either_false_left, either_false_right}
use Rattle.naming.specs.Rules.Position.{Position, fresh}
use Rattle.naming.specs.Rules.RunGrounds.{unfit_name, names_grounds, start_ground, start_over}

-- ---- the marks are those of the names from i on, and it is known whether one of these is there twice

pub record Listed (l : List ℕ) (seen : List Bool) (twice : Bool) (i : ℕ) : Type 0 where
  pub room : length seen ≡ 256
  pub within : i ≤ length l
  pub marks : Marked seen (drop i l)
  pub repeats : twice ≡ has_repeat (drop i l)

pub listed_start : (l : List ℕ) → Listed l (replicate 256 false) false (length l)
unfolding has_repeat
listed_start l =
    record {
      room = length-replicate 256 false;
      within = omega arith;
      marks = rw (drop-length l) (marked_none 256);
      repeats = rw (drop-length l);
    }

module _ {l : List ℕ} {seen : List Bool} {twice : Bool} {i : ℕ} (h : Listed l seen twice i) (more : 0 < i) (byte : get_or l (i - 1) 0 < 256) where
  abbrev name : ℕ
  name = get_or l (i - 1) 0

  before : drop (i - 1) l ≡ name ∷ drop i l
  before =
      let back : suc (i - 1) ≡ i = omega arith in
      let first : drop (i - 1) l ≡ get_or l (i - 1) 0 ∷ drop (suc (i - 1)) l = drop-cons l (i - 1) 0 (let w = h.within in omega arith) in
      rw back at first

  fits : name < length seen
  fits = rw h.room byte

  listed_with : {t : Bool} → t ≡ has_repeat (name ∷ drop i l) → Listed l (set seen name true) t (i - 1)
  listed_with e =
      record {
        room = length-set seen name true ∙ h.room;
        within = let w = h.within in omega arith;
        marks = rw before (marked_add h.marks name fits);
        repeats = rw before e;
      }

  pub listed_again : {t : Bool} → get_or seen name false ≡ true → t ≡ true → Listed l (set seen name true) t (i - 1)
  unfolding has_repeat
  listed_again e is = listed_with (is ∙ sym (either_left (has_repeat (drop i l)) (sym (h.marks.are name fits) ∙ e)))

  pub listed-new : {t : Bool} → get_or seen name false ≡ false → t ≡ twice → Listed l (set seen name true) t (i - 1)
  unfolding has_repeat
  listed-new e is = listed_with (is ∙ h.repeats ∙ sym (either-next (has_repeat (drop i l)) (sym (h.marks.are name fits) ∙ e)))

-- ---- ground 15: 0x00 or 0xFF is among the names

unfit_either : (n : ℕ) (ns : List ℕ) → unfit_name ns ≡ true → unfit_name (n ∷ ns) ≡ true
unfolding unfit_name
unfit_either n ns e = either_right (either (eqb n broadcast) (eqb n unnamed)) e

broadcast_unfit : (l : List ℕ) → is_among broadcast l ≡ true → unfit_name l ≡ true
unfolding is_among
broadcast_unfit [] e = clash e refl
broadcast_unfit (n ∷ ns) e =
    by_case (eqb broadcast n)
    (λ t. unfold unfit_name in either_left (unfit_name ns) (either_left (eqb n unnamed) (eq-eqb n broadcast (sym (eqb-true broadcast n t)))))
    (λ t. unfit_either n ns (broadcast_unfit ns (rw (either-next (is_among broadcast ns) t) at e)))

unnamed_unfit : (l : List ℕ) → is_among unnamed l ≡ true → unfit_name l ≡ true
unfolding is_among
unnamed_unfit [] e = clash e refl
unnamed_unfit (n ∷ ns) e =
    by_case (eqb unnamed n)
    (λ t. unfold unfit_name in either_left (unfit_name ns) (either_right (eqb n broadcast) (eq-eqb n unnamed (sym (eqb-true unnamed n t)))))
    (λ t. unfit_either n ns (unnamed_unfit ns (rw (either-next (is_among unnamed ns) t) at e)))

fit_with : (n : ℕ) (ns : List ℕ) → eqb n broadcast ≡ false → eqb n unnamed ≡ false → unfit_name ns ≡ false → unfit_name (n ∷ ns) ≡ false
unfolding unfit_name
fit_with n ns first second rest = either_false (either_false first second) rest

neither_fit : (l : List ℕ) → is_among broadcast l ≡ false → is_among unnamed l ≡ false → unfit_name l ≡ false
unfolding is_among
neither_fit [] e t = unfold unfit_name in refl
neither_fit (n ∷ ns) e t =
    fit_with
    n
    ns
    (ne_eqb n broadcast (λ q. clash (eq-eqb broadcast n (sym q)) (either_false_left (eqb broadcast n) (is_among broadcast ns) e)))
    (ne_eqb n unnamed (λ q. clash (eq-eqb unnamed n (sym q)) (either_false_left (eqb unnamed n) (is_among unnamed ns) t)))
    (neither_fit ns (either_false_right (eqb broadcast n) (is_among broadcast ns) e) (either_false_right (eqb unnamed n) (is_among unnamed ns) t))

-- ---- the first of the two that holds

module _ (l : List ℕ) where
  unfit_ground : unfit_name l ≡ true → 15 ≡ start_ground l
  unfolding start_ground names_grounds first_of
  unfit_ground e = rw e

  fit_ground : unfit_name l ≡ false → (b : Bool) → b ≡ has_repeat l → cond b 16 0 ≡ start_ground l
  unfolding start_ground names_grounds first_of
  fit_ground e b is = rw (e, ← is)

module _ {l : List ℕ} {seen : List Bool} {twice : Bool} {i : ℕ} (h : Listed l seen twice i) (past : i ≤ 0) where
  none_left : i ≡ 0
  none_left = omega arith

  is_marked : (m : ℕ) → m < 256 → get_or seen m false ≡ is_among m l
  is_marked m below =
      let all : Marked seen (drop 0 l) = rw none_left at h.marks in
      all.are m (rw h.room below)

  repeated : twice ≡ has_repeat l
  repeated = rw none_left at h.repeats

  pub listed-broadcast : get_or seen 0 false ≡ true → 15 ≡ start_ground l
  listed-broadcast e = unfit_ground l (broadcast_unfit l (sym (is_marked 0 (omega arith)) ∙ e))

  pub listed-unnamed : get_or seen 255 false ≡ true → 15 ≡ start_ground l
  listed-unnamed e = unfit_ground l (unnamed_unfit l (sym (is_marked 255 (omega arith)) ∙ e))

  module _ (none : get_or seen 0 false ≡ false) (named : get_or seen 255 false ≡ false) where
    all_fit : unfit_name l ≡ false
    all_fit = neither_fit l (sym (is_marked 0 (omega arith)) ∙ none) (sym (is_marked 255 (omega arith)) ∙ named)

    pub listed-twice : twice ≡ true → 16 ≡ start_ground l
    listed-twice e = rw e at (fit_ground l all_fit twice repeated)

    pub listed-fit : twice ≡ false → 0 ≡ start_ground l
    listed-fit e = rw e at (fit_ground l all_fit twice repeated)

-- one name

module _ (n : ℕ) {first : Bool} (is : first ≡ eqb n broadcast) where
  pub unfit_first : first ≡ true → true ≡ unfit_name (n ∷ [])
  unfolding unfit_name either
  unfit_first e = rw (← is, e)

  pub unfit_second : first ≡ false → {second : Bool} → second ≡ eqb n unnamed → second ≡ unfit_name (n ∷ [])
  unfolding unfit_name either
  unfit_second e {second} also = rw (← is, e, ← also) (sym (either-none second))

pub one_unfit : (l : List ℕ) → length l ≡ 1 → {b : Bool} → b ≡ unfit_name (get_or l 0 0 ∷ []) → b ≡ true → 15 ≡ start_ground l
one_unfit [] one is e = absurd (omega arith)
one_unfit (n ∷ []) one is e = unfit_ground (n ∷ []) (sym is ∙ e)
one_unfit (n ∷ m ∷ ns) one is e = absurd (omega arith)

pub one-fit : (l : List ℕ) → length l ≡ 1 → {b : Bool} → b ≡ unfit_name (get_or l 0 0 ∷ []) → b ≡ false → 0 ≡ start_ground l
one-fit [] one is e = absurd (omega arith)
one-fit (n ∷ []) one is e = fit_ground (n ∷ []) (sym is ∙ e) false (few_once (n ∷ []) (omega arith))
one-fit (n ∷ m ∷ ns) one is e = absurd (omega arith)

-- ---- a fresh run

module _ (names : List ℕ) {g : ℕ} (is : g ≡ start_ground names) where
  pub start-refused : (g ≡ 0 → ⊥) → refused g ≡ start_over names
  unfolding start_over result_of
  start-refused n = rw (← is, ne_eqb g 0 n)

  pub start-fresh : {p : Position} → g ≡ 0 → p ≡ fresh names → done p ≡ start_over names
  unfolding start_over result_of
  start-fresh e f = rw (← is, eq-eqb g 0 e, f)
