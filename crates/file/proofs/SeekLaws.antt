-- The search for the place that a directory states for a file, from its front and from its back.
-- Assumes nothing.
use Rattle.std.proofs.Common.{ℕ, zero, suc, ◌+◌, ◌*◌, ◌-◌, ◌≤◌, ◌<◌, ◌≡◌, refl, sym, ◌∙◌, List, Bool, true, false, cond, arith, eqb-true, eq-eqb}
use Rattle.std.proofs.Common.{ne_eqb, length, get_or, leb}
use Rattle.file.specs.Inner.Numbers.{NumberAt}
use Rattle.file.specs.Rules.Decode.{offset_at, file_size}
use Rattle.file.specs.Rules.FileGrounds.{to, walk_directory}
use Rattle.file.specs.Inner.Checked.{EntriesFit, states, stated_place, Arrives}
use Rattle.file.proofs.Order.{both_left, both-next, both_false_left}
use Rattle.file.proofs.Arrivals.{Step, walk_took}
use Rattle.file.proofs.WalkLaws.{stated-step, stated-last, more_left, none_left, walking_first}
use Rattle.file.proofs.Stated.{walk_skips}
use Rattle.file.proofs.Width.{place-fits, wide_enough}

-- ---- the test of an entry

pub states-other : (f : List ℕ) (n least d : ℕ) → (get_or f d 0 ≡ n → ⊥) → false ≡ states f n least d
unfolding states
states-other f n least d h = sym (both_false_left _ (ne_eqb (get_or f d 0) n h))

pub states-last : (f : List ℕ) (n least d : ℕ) → get_or f d 0 ≡ n → leb least (get_or f (d + 1) 0) ≡ states f n least d
unfolding states
states-last f n least d h = sym (both-next _ (eq-eqb (get_or f d 0) n h))

states-number : (f : List ℕ) (n least d : ℕ) → states f n least d ≡ true → get_or f d 0 ≡ n
unfolding states
states-number f n least d e = eqb-true _ _ (both_left _ _ e)

-- ---- from the front: the walk from here on arrives, and what it states is what the whole directory states

-- an entry of a walk that arrives states a place of a file within the bytes
place-there : (w : ℕ) (f : List ℕ) (d low place k e : ℕ) → walk_directory w f d low place (suc k) ≡ to e → offset_at w f (d + w) + 8 ≤ length f
unfolding file_size
place-there w f d low place k e h =
    let s = walk_took w f d low place k e h in
    omega (arith, s.facts.offset, s.facts.within, s.facts.records)

pub record Seeking (w : ℕ) (f : List ℕ) (d k n least entry : ℕ) : Type 0 where
  pub left : ℕ
  pub at : entry + 2 * w * left ≡ d + 2 * w * k
  pub low : ℕ
  pub place : ℕ
  pub end : ℕ
  pub walk : walk_directory w f entry low place left ≡ to end
  pub same : stated_place w f n least 0 entry left ≡ stated_place w f n least 0 d k

pub seeking_start : {w : ℕ} {f : List ℕ} {d k : ℕ} (n least : ℕ) → Arrives w f d k → Seeking w f d k n least d
seeking_start {w} {f} {d} {k} n least h = record { left = k; at = refl; low = 0; place = d + 2 * w * k; end = h.end; walk = h.walk; same = refl }

module _ {w : ℕ} {f : List ℕ} {d k n least entry : ℕ} (fit : EntriesFit w f d k) (h : Seeking w f d k n least entry) where
  pub seeking_done : d + 2 * w * k ≤ entry → 0 ≡ stated_place w f n least 0 d k
  unfolding stated_place
  seeking_done none =
      let z : h.left ≡ 0 = none_left w entry (d + 2 * w * k) h.left fit.width.least h.at none in
      rw z at h.same

  module _ (more : entry < d + 2 * w * k) where
    some : suc (h.left - 1) ≡ h.left
    some = let m = more_left w entry (d + 2 * w * k) h.left h.at more in omega (arith, m.1)

    at_next : entry + 2 * w + 2 * w * (h.left - 1) ≡ d + 2 * w * k
    at_next =
        let one : 2 * w * suc (h.left - 1) ≡ 2 * w * h.left = rw some in
        omega (arith, one, h.at)

    pub seeking_short : {place : ℕ} → NumberAt f (entry + w) w place → place < 65536
    unfolding offset_at
    seeking_short o = omega (arith, o.is, place-there w f entry h.low h.place (h.left - 1) h.end (rw some h.walk), fit.short, fit.width.most)

    module _ {t : Bool} (is : t ≡ states f n least entry) where
      step : Step w f entry h.low h.place (h.left - 1) h.end
      step = walk_took w f entry h.low h.place (h.left - 1) h.end (rw some h.walk)

      stepped : stated_place w f n least (cond (states f n least entry) (offset_at w f (entry + w)) 0) (entry + 2 * w) (h.left - 1) ≡ stated_place w f n least 0 d k
      stepped = sym (stated-step w f n least 0 entry h.left (omega (arith, some))) ∙ h.same

      pub seeking_next : t ≡ false → Seeking w f d k n least (entry + 2 * w)
      seeking_next e =
          record {
            left = h.left - 1;
            at = at_next;
            low = suc (get_or f entry 0);
            place = h.place + file_size (get_or f (entry + 1) 0);
            end = h.end;
            walk = step.rest;
            same = rw (sym is ∙ e) at stepped;
          }

      -- numbers rise, so no entry behind states the file again
      pub seeking_here : {place : ℕ} → t ≡ true → NumberAt f (entry + w) w place → place ≡ stated_place w f n least 0 d k
      unfolding offset_at
      seeking_here e o =
          let number = states-number f n least entry (sym is ∙ e) in
          let first : stated_place w f n least (offset_at w f (entry + w)) (entry + 2 * w) (h.left - 1) ≡ stated_place w f n least 0 d k = rw (sym is ∙ e) at stepped in
          let skips =
          walk_skips w f n least (offset_at w f (entry + w)) (entry + 2 * w)
          (suc (get_or f entry 0)) (h.place + file_size (get_or f (entry + 1) 0)) (h.left - 1) h.end (omega (arith, number)) step.rest in
          o.is ∙ (sym skips ∙ first)

-- the first entry: its file lies behind the directory
module _ {w : ℕ} {f : List ℕ} {d k : ℕ} (fit : EntriesFit w f d k) (h : Arrives w f d k) (some : k ≡ 0 → ⊥) where
  first-there : d < d + 2 * w * k
  first-there = walking_first w d k fit.width.least some

  first-behind : offset_at w f (d + w) ≡ d + 2 * w * k
  first-behind =
      let m : suc (k - 1) ≡ k = omega arith in
      (walk_took w f d 0 (d + 2 * w * k) (k - 1) h.end (rw m h.walk)).facts.offset

  first-number : NumberAt f (d + w) w (d + 2 * w * k)
  unfolding offset_at
  first-number = record { is = sym first-behind; below = place-fits (wide_enough fit.width) (omega (arith, fit.within, fit.short)) }

  pub first_short : d + 2 * w * k < 65536
  first_short = seeking_short fit (seeking_start 0 0 h) first-there first-number

  pub first-here : (n least : ℕ) {t : Bool} → t ≡ states f n least d → t ≡ true → d + 2 * w * k ≡ stated_place w f n least 0 d k
  first-here n least is e = seeking_here fit (seeking_start n least h) first-there is e first-number

pub none-stated : (w : ℕ) (f : List ℕ) (n least d : ℕ) {k : ℕ} → k ≡ 0 → 0 ≡ stated_place w f n least 0 d k
unfolding stated_place
none-stated w f n least d none = rw none

-- ---- from the back: the entries before state what the whole directory states

pub record SeekingBack (w : ℕ) (f : List ℕ) (d k n least entry : ℕ) : Type 0 where
  pub count : ℕ
  pub at : entry ≡ d + 2 * w * count
  pub most : count ≤ k
  pub same : stated_place w f n least 0 d count ≡ stated_place w f n least 0 d k

-- a walk that arrives has every entry in its way
entry-there : (w : ℕ) (f : List ℕ) (d low place e k j : ℕ) → j < k → walk_directory w f d low place k ≡ to e → offset_at w f (d + 2 * w * j + w) + 8 ≤ length f
entry-there w f d low place e zero j l h = absurd (omega arith)
entry-there w f d low place e (suc k) zero l h =
    let same : d + 2 * w * 0 ≡ d = omega arith in
    rw same (place-there w f d low place k e h)
entry-there w f d low place e (suc k) (suc j) l h =
    let same : d + 2 * w * suc j ≡ d + 2 * w + 2 * w * j = omega arith in
    rw same (entry-there w f (d + 2 * w) (suc (get_or f d 0)) (place + file_size (get_or f (d + 1) 0)) e k j (omega arith) (walk_took w f d low place k e h).rest)

module _ {w : ℕ} {f : List ℕ} {d k n least entry : ℕ} (fit : EntriesFit w f d k) (h : SeekingBack w f d k n least entry) where
  pub back_done : entry ≤ d → 0 ≡ stated_place w f n least 0 d k
  unfolding stated_place
  back_done none =
      let z : h.count ≡ 0 = back_none h.count h.at in
      rw z at h.same
    where
      back_none : (c : ℕ) → entry ≡ d + 2 * w * c → c ≡ 0
      back_none zero e = refl
      back_none (suc c) e = absurd (omega (arith, fit.width.least))

  module _ (more : d < entry) where
    back_some : (c : ℕ) → entry ≡ d + 2 * w * c → suc (c - 1) ≡ c
    back_some zero e = absurd (omega arith)
    back_some (suc c) e = omega arith

    some_back : suc (h.count - 1) ≡ h.count
    some_back = back_some h.count h.at

    last-at : entry ≡ d + 2 * w * (h.count - 1) + 2 * w
    last-at =
        let one : 2 * w * suc (h.count - 1) ≡ 2 * w * h.count = rw some_back in
        omega (arith, one, h.at)

    there : d + 2 * w * (h.count - 1) ≡ entry - 2 * w
    there = omega (arith, last-at)

    pub back-short : {place : ℕ} → Arrives w f d k → NumberAt f (entry - 2 * w + w) w place → place < 65536
    unfolding offset_at
    back-short {place} a o =
        let e : offset_at w f (d + 2 * w * (h.count - 1) + w) + 8 ≤ length f = entry-there w f d 0 (d + 2 * w * k) a.end k (h.count - 1) (omega (arith, some_back, h.most)) a.walk in
        let g : offset_at w f (entry - 2 * w + w) + 8 ≤ length f = rw there at e in
        omega (arith, o.is, g, fit.short, fit.width.most)

    module _ {t : Bool} (is : t ≡ states f n least (entry - 2 * w)) where
      split : cond (states f n least (entry - 2 * w)) (offset_at w f (entry - 2 * w + w)) (stated_place w f n least 0 d (h.count - 1)) ≡ stated_place w f n least 0 d k
      split = rw (← there) (sym (stated-last w f n least 0 d (h.count - 1)) ∙ rw some_back h.same)

      pub back-next : t ≡ false → SeekingBack w f d k n least (entry - 2 * w)
      back-next e =
          record {
            count = h.count - 1;
            at = sym there;
            most = omega (arith, h.most);
            same = rw (sym is ∙ e) at split;
          }

      pub back-here : {place : ℕ} → t ≡ true → NumberAt f (entry - 2 * w + w) w place → place ≡ stated_place w f n least 0 d k
      unfolding offset_at
      back-here e o =
          let first : offset_at w f (entry - 2 * w + w) ≡ stated_place w f n least 0 d k = rw (sym is ∙ e) at split in
          o.is ∙ first
