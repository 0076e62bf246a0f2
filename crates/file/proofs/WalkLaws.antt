-- The walk of a directory, step by step: what a loop along its entries keeps, and one law for each way through a turn.
-- Assumes nothing.
use Rattle.std.proofs.Common.{ℕ, zero, suc, ◌+◌, ◌*◌, ◌-◌, ◌≤◌, ◌<◌, ◌≡◌, refl, sym, ◌∙◌, Some, None, List, Bool, true, false, cond, arith, add-one}
use Rattle.std.proofs.Common.{eq-eqb, ne_eqb, le-leb, leb-true, eqb-true, length, get_or, leb, eqb}
use borrow.Author.Tests.{lt-leb}
use Rattle.file.specs.Rules.Bytes.{all_zero, part}
use Rattle.file.specs.Inner.Numbers.{ByteAt, NumberAt}
use Rattle.file.specs.Rules.Layout.{entry_size_lem}
use Rattle.file.specs.Rules.Decode.{offset_at, file_size}
use Rattle.file.specs.Rules.FileGrounds.{Walk, broken, good_entry, walk_directory}
use Rattle.file.specs.Inner.Checked.{EntriesFit, states, stated_place, next_entry, fits_so_far, ended, DirectoryWalked}
use Rattle.file.specs.declared.walk.DirectoryEnd.{DirectoryEnd}
use Rattle.file.proofs.Order.{by_case, clash, both_left, both_right, both_true, both-next, both_false_left, both_false_right}
use Rattle.file.proofs.Facts.{false_unless, EntryFacts, entry_facts, entry_yes}

-- ---- the definitions, an entry at a time

pub walk_stop : (w : ℕ) (f : List ℕ) (d low place k : ℕ) → 0 < k → good_entry w f d low place ≡ false → walk_directory w f d low place k ≡ broken
unfolding walk_directory
walk_stop w f d low place zero h e = absurd (omega arith)
walk_stop w f d low place (suc k) h e = rw e

pub walk_step : (w : ℕ) (f : List ℕ) (d low place k : ℕ) → 0 < k → good_entry w f d low place ≡ true →
    walk_directory w f d low place k ≡ walk_directory w f (d + entry_size_lem w) (suc (get_or f d 0)) (place + file_size (get_or f (d + 1) 0)) (k - 1)
unfolding walk_directory
walk_step w f d low place zero h e = absurd (omega arith)
walk_step w f d low place (suc k) h e =
    let same : suc k - 1 ≡ k = omega arith in
    rw (e, same)

pub stated-step : (w : ℕ) (f : List ℕ) (n least kept d k : ℕ) → 0 < k →
    stated_place w f n least kept d k ≡
    stated_place w f n least (cond (states f n least d) (offset_at w f (d + w)) kept) (d + entry_size_lem w) (k - 1)
unfolding stated_place
stated-step w f n least kept d zero h = absurd (omega arith)
stated-step w f n least kept d (suc k) h =
    let same : suc k - 1 ≡ k = omega arith in
    rw same

-- the same of the last entry
pub stated-last : (w : ℕ) (f : List ℕ) (n least kept d k : ℕ) →
    stated_place w f n least kept d (suc k) ≡
    cond (states f n least (d + entry_size_lem w * k)) (offset_at w f (d + entry_size_lem w * k + w)) (stated_place w f n least kept d k)
unfolding stated_place
stated-last w f n least kept d zero =
    let same : d + entry_size_lem w * 0 ≡ d = omega arith in
    rw same
stated-last w f n least kept d (suc k) =
    let same : d + entry_size_lem w + entry_size_lem w * k ≡ d + entry_size_lem w * suc k = omega arith in
    rw same at (stated-last w f n least (cond (states f n least d) (offset_at w f (d + w)) kept) (d + entry_size_lem w) k)

-- ---- a good entry in two parts

module _ (w : ℕ) (f : List ℕ) (d low place : ℕ) where
  next_facts : next_entry w f d low place ≡ true → fits_so_far f (suc (get_or f d 0)) (place + file_size (get_or f (d + 1) 0)) ≡ true → EntryFacts w f d low place
  unfolding next_entry fits_so_far
  next_facts e g =
      let e₁ = both_right _ _ e in
      let e₂ = both_right _ _ e₁ in
      record {
        rising = leb-true _ _ (both_left _ _ e);
        number = omega (arith, leb-true (suc (get_or f d 0)) 64 (both_left _ _ g));
        records = leb-true _ _ (both_left _ _ e₁);
        zeros = both_left _ _ e₂;
        offset = eqb-true _ _ (both_right _ _ e₂);
        within = leb-true _ _ (both_right _ _ g);
      }

  pub next_of : EntryFacts w f d low place → next_entry w f d low place ≡ true
  unfolding next_entry
  next_of h =
      both_true (le-leb _ _ h.rising) (both_true (le-leb _ _ h.records) (both_true h.zeros (eq-eqb _ _ h.offset)))

  fits_of : EntryFacts w f d low place → fits_so_far f (suc (get_or f d 0)) (place + file_size (get_or f (d + 1) 0)) ≡ true
  unfolding fits_so_far
  fits_of h = both_true (le-leb (suc (get_or f d 0)) 64 (omega (arith, h.number))) (le-leb _ _ h.within)

  -- an entry that may come next is good if what it leads to fits
  pub good_next : next_entry w f d low place ≡ true → good_entry w f d low place ≡ fits_so_far f (suc (get_or f d 0)) (place + file_size (get_or f (d + 1) 0))
  good_next e =
      by_case (fits_so_far f (suc (get_or f d 0)) (place + file_size (get_or f (d + 1) 0)))
      (λ t. entry_yes w f d low place (next_facts e t) ∙ sym t)
      (λ t. false_unless (λ g. clash (fits_of (entry_facts w f d low place g)) t) ∙ sym t)

  pub good_other : next_entry w f d low place ≡ false → good_entry w f d low place ≡ false
  good_other e = false_unless (λ g. clash (next_of (entry_facts w f d low place g)) e)

-- ---- the walk, its last tests made at the end

-- a walk from where low and place fit, and broken where they do not
unfoldable pub held : List ℕ → ℕ → ℕ → Walk → Walk
held f low place walk = cond (fits_so_far f low place) walk broken

held-broken : (f : List ℕ) (low place : ℕ) → held f low place broken ≡ broken
unfolding held
held-broken f low place = by_case (fits_so_far f low place) (λ e. rw e) (λ e. rw e)

-- where a later one fits, so did each before it
held-twice : (f : List ℕ) {low low' place place' : ℕ} (walk : Walk) → low ≤ low' → place ≤ place' → held f low place (held f low' place' walk) ≡ held f low' place' walk
unfolding held fits_so_far
held-twice f {low} {low'} {place} {place'} walk a b =
    by_case (fits_so_far f low' place')
    (λ e.
    let p = leb-true low' 64 (both_left _ _ e) in
    let q = leb-true place' (length f) (both_right _ _ e) in
    let first : fits_so_far f low place ≡ true = both_true (le-leb low 64 (omega arith)) (le-leb place (length f) (omega arith)) in
    rw first)
    (λ e. rw e (held-broken f low place))

pub walk-next : (w : ℕ) (f : List ℕ) (d low place k : ℕ) → 0 < k → next_entry w f d low place ≡ true →
    let next = place + file_size (get_or f (d + 1) 0) in
    walk_directory w f d low place k ≡ held f (suc (get_or f d 0)) next (walk_directory w f (d + entry_size_lem w) (suc (get_or f d 0)) next (k - 1))
unfolding held
walk-next w f d low place k more e =
    let good = good_next w f d low place e in
    by_case (fits_so_far f (suc (get_or f d 0)) (place + file_size (get_or f (d + 1) 0)))
    (λ t. rw t (walk_step w f d low place k more (good ∙ t)))
    (λ t. rw t (walk_stop w f d low place k more (good ∙ t)))

-- ---- entries that fit

-- there are few of them, and one more of those that are left
entries-few : (w k : ℕ) → 2 ≤ w → 4 * k ≤ 2 * w * k
entries-few w zero h = omega arith
entries-few w (suc k) h = omega (arith, entries-few w k h)

pub entries_rise : (w a b : ℕ) → a ≤ b → 2 * w * a ≤ 2 * w * b
entries_rise w zero b l = omega arith
entries_rise w (suc a) zero l = absurd (omega arith)
entries_rise w (suc a) (suc b) l = omega (arith, entries_rise w a b (omega arith))

pub more_left : (w a b left : ℕ) → a + 2 * w * left ≡ b → a < b → (l : ℕ) × (left ≡ suc l)
more_left w a b zero e h = absurd (omega arith)
more_left w a b (suc l) e h = (l, refl)

pub none_left : (w a b left : ℕ) → 2 ≤ w → a + 2 * w * left ≡ b → b ≤ a → left ≡ 0
none_left w a b zero p e h = refl
none_left w a b (suc l) p e h = absurd (omega arith)

-- the entry at which a loop along them stands is one of them
pub entry-fits : {w : ℕ} {f : List ℕ} {d k : ℕ} → EntriesFit w f d k → (entry left : ℕ) → entry + 2 * w * left ≡ d + 2 * w * k → entry < d + 2 * w * k → EntriesFit w f entry 1
entry-fits {w} {f} {d} {k} fit entry left at more =
    let m = more_left w entry (d + 2 * w * k) left at more in
    let e : entry + 2 * w * suc m.0 ≡ d + 2 * w * k = rw m.1 at at in
    record { width = fit.width; within = omega (arith, e, fit.within); short = fit.short }

-- what the loop along the k entries of the directory at d keeps
pub record Walking (w : ℕ) (f : List ℕ) (d k entry low place : ℕ) : Type 0 where
  pub left : ℕ
  pub at : entry + 2 * w * left ≡ d + 2 * w * k
  pub small : place + 1024 * left ≤ 65536 + 1024 * k
  pub walk : held f low place (walk_directory w f entry low place left) ≡ walk_directory w f d 0 (d + 2 * w * k) k

pub walking_start : {w : ℕ} {f : List ℕ} {d k : ℕ} → EntriesFit w f d k → Walking w f d k d 0 (d + 2 * w * k)
unfolding held fits_so_far
walking_start {w} {f} {d} {k} fit =
    let h = fit.within in
    let all : fits_so_far f 0 (d + 2 * w * k) ≡ true = both_true (le-leb 0 64 (omega arith)) (le-leb (d + 2 * w * k) (length f) h) in
    record { left = k; at = refl; small = omega (arith, h, fit.short, fit.width.most); walk = rw all }

-- a directory without entries
pub walking_none : {w : ℕ} {f : List ℕ} {d k : ℕ} {end : DirectoryEnd} → EntriesFit w f d k → k ≡ 0 → end.low ≡ 0 → end.place ≡ d → DirectoryWalked w f d k (Some end)
unfolding ended walk_directory fits_so_far
walking_none {w} {f} {d} {k} fit none low place =
    let here : d + 2 * w * 0 ≡ d = omega arith in
    let all : fits_so_far f 0 d ≡ true = both_true (le-leb 0 64 (omega arith)) (le-leb d (length f) (omega (arith, fit.within))) in
    record { walk = rw (low, place, none, here, all) }

-- the first entry of one that has some
pub walking_first : (w d k : ℕ) → 2 ≤ w → (k ≡ 0 → ⊥) → d < d + 2 * w * k
walking_first w d zero least some = absurd (some refl)
walking_first w d (suc k) least some = omega arith

module _ {w : ℕ} {f : List ℕ} {d k entry low place : ℕ} (fit : EntriesFit w f d k) (h : Walking w f d k entry low place) where
  -- the entry of a turn lies within the bytes
  pub walking_entry : entry < d + 2 * w * k → EntriesFit w f entry 1
  walking_entry more = entry-fits fit entry h.left h.at more

  some_left : entry < d + 2 * w * k → 0 < h.left
  some_left more = let m = more_left w entry (d + 2 * w * k) h.left h.at more in omega (arith, m.1)

  pub walking_stop : {t : Bool} → entry < d + 2 * w * k → t ≡ next_entry w f entry low place → t ≡ false → DirectoryWalked w f d k None
  unfolding ended
  walking_stop more is e =
      let stopped = walk_stop w f entry low place h.left (some_left more) (good_other w f entry low place (sym is ∙ e)) in
      record { walk = sym (held-broken f low place) ∙ (rw stopped at h.walk) }

  pub walking_done : {end : DirectoryEnd} → d + 2 * w * k ≤ entry → end.low ≡ low → end.place ≡ place → DirectoryWalked w f d k (Some end)
  unfolding ended held walk_directory
  walking_done none is at =
      let z : h.left ≡ 0 = none_left w entry (d + 2 * w * k) h.left fit.width.least h.at none in
      record { walk = rw (is, at) (rw z at h.walk) }

  pub walking_next : {t : Bool} {number last : ℕ} → entry < d + 2 * w * k → t ≡ next_entry w f entry low place → t ≡ true →
      ByteAt f entry number → ByteAt f (entry + 1) last → Walking w f d k (entry + 2 * w) (number + 1) (place + 4 * (last + 1))
  unfolding file_size next_entry
  walking_next {number = number} {last = last} more is e a b =
      let some = some_left more in
      let m = more_left w entry (d + 2 * w * k) h.left h.at more in
      let less : h.left - 1 ≡ m.0 = omega (arith, m.1) in
      let was : entry + 2 * w * suc m.0 ≡ d + 2 * w * k = rw m.1 at h.at in
      let rising : low ≤ get_or f entry 0 = leb-true _ _ (both_left _ _ (sym is ∙ e)) in
      let rest = walk_directory w f (entry + 2 * w) (suc (get_or f entry 0)) (place + 4 * (get_or f (entry + 1) 0 + 1)) (h.left - 1) in
      let twice = held-twice f {low = low} {low' = suc (get_or f entry 0)} {place = place} {place' = place + 4 * (get_or f (entry + 1) 0 + 1)} rest (omega arith) (omega arith) in
      record {
        left = h.left - 1;
        at = rw less (omega (arith, was));
        small = omega (arith, h.small, b.byte);
        walk = rw (add-one number, a.is, b.is, ← twice, ← (walk-next w f entry low place h.left some (sym is ∙ e))) h.walk;
      }

-- the first turn, of a directory that has entries
module _ {w : ℕ} {f : List ℕ} {d k : ℕ} (fit : EntriesFit w f d k) (some : k ≡ 0 → ⊥) where
  one-there : d < d + 2 * w * k
  one-there = walking_first w d k fit.width.least some

  pub first_entry : EntriesFit w f d 1
  first_entry = walking_entry fit (walking_start fit) one-there

  pub first-number : d < length f
  first-number = omega (arith, first_entry.within, fit.width.least)

  pub first_stop : {t : Bool} → t ≡ next_entry w f d 0 (d + 2 * w * k) → t ≡ false → DirectoryWalked w f d k None
  first_stop is e = walking_stop fit (walking_start fit) one-there is e

  pub first_next : {t : Bool} {number last : ℕ} → t ≡ next_entry w f d 0 (d + 2 * w * k) → t ≡ true →
      ByteAt f d number → ByteAt f (d + 1) last → Walking w f d k (d + 2 * w) (number + 1) (d + 2 * w * k + 4 * (last + 1))
  first_next is e a b = walking_next fit (walking_start fit) one-there is e a b

-- ---- the tests of an entry

module _ (w : ℕ) (f : List ℕ) (d low place : ℕ) where
  pub next_low : {n : ℕ} → ByteAt f d n → n < low → false ≡ next_entry w f d low place
  unfolding next_entry
  next_low k h = sym (both_false_left _ (lt-leb low (get_or f d 0) (omega (arith, k.is))))

  pub next_empty : {n : ℕ} → ByteAt f (d + 1) n → n < 1 → false ≡ next_entry w f d low place
  unfolding next_entry
  next_empty k h = sym (both_false_right (leb low (get_or f d 0)) (both_false_left _ (lt-leb 1 (get_or f (d + 1) 0) (omega (arith, k.is)))))

  pub next_unfilled : {t : Bool} → t ≡ all_zero (part f (d + 2) (w - 2)) → t ≡ false → false ≡ next_entry w f d low place
  unfolding next_entry
  next_unfilled is e = sym (both_false_right (leb low (get_or f d 0)) (both_false_right (leb 1 (get_or f (d + 1) 0)) (both_false_left _ (sym is ∙ e))))

  pub next_last : {t : Bool} {number last offset : ℕ} → ByteAt f d number → ByteAt f (d + 1) last → low ≤ number → 1 ≤ last →
      t ≡ all_zero (part f (d + 2) (w - 2)) → t ≡ true → NumberAt f (d + w) w offset → eqb offset place ≡ next_entry w f d low place
  unfolding next_entry offset_at
  next_last {number = number} {last} {offset} a b rising some is e o =
      let p₁ = le-leb low (get_or f d 0) (omega (arith, a.is)) in
      let p₂ = le-leb 1 (get_or f (d + 1) 0) (omega (arith, b.is)) in
      rw (both-next _ p₁, both-next _ p₂, both-next _ (sym is ∙ e), o.is)

pub fits_not : (f : List ℕ) (low place : ℕ) → 64 < low → false ≡ fits_so_far f low place
unfolding fits_so_far
fits_not f low place h = sym (both_false_left _ (lt-leb low 64 h))

pub fits_last : (f : List ℕ) (low place : ℕ) → low ≤ 64 → leb place (length f) ≡ fits_so_far f low place
unfolding fits_so_far
fits_last f low place h = sym (both-next _ (le-leb low 64 h))

-- ---- the place kept

pub kept-other : (f : List ℕ) (n least d place kept : ℕ) → (get_or f d 0 ≡ n → ⊥) → kept ≡ cond (states f n least d) place kept
unfolding states
kept-other f n least d place kept h = rw (both_false_left (leb least (get_or f (d + 1) 0)) (ne_eqb (get_or f d 0) n h))

pub kept-short : (f : List ℕ) (n least d place kept : ℕ) → get_or f (d + 1) 0 < least → kept ≡ cond (states f n least d) place kept
unfolding states
kept-short f n least d place kept h = rw (both_false_right (eqb (get_or f d 0) n) (lt-leb least (get_or f (d + 1) 0) h))

pub kept_here : (f : List ℕ) (n least d place kept : ℕ) → get_or f d 0 ≡ n → least ≤ get_or f (d + 1) 0 → place ≡ cond (states f n least d) place kept
unfolding states
kept_here f n least d place kept h l = rw (both-next (leb least (get_or f (d + 1) 0)) (eq-eqb (get_or f d 0) n h), le-leb least (get_or f (d + 1) 0) l)
