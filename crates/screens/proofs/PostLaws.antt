-- A post: a law for each way.
-- Assumes nothing.
use Rattle.std.proofs.Common.{ℕ, ◌+◌, ◌≤◌, ◌<◌, ◌≡◌, List, Bool, true, false, arith, get_or, set, ne_eqb, lt-ltb, le-ltb, ltb-false}
use borrow.Author.Tests.{eqb-false}
use Rattle.file.specs.Rules.Order.{first_of, both, either}
use Rattle.file.specs.Rules.Results.{refused, done, result_of}
use Rattle.file.proofs.Order.{first-none}
use Rattle.frame.specs.Rules.FrameGrounds.{broadcast_read, no_file_number}
use Rattle.screens.specs.Rules.Screens.{screens, last_served, place_of, is_waiting, Read, read_by, no_screen, read_grounds, post_ground}
use Rattle.screens.specs.Rules.Screens.{posted, post_on}
use Rattle.screens.specs.Inner.Parts.{PostGround}

-- ---- the grounds of a read

module _ (r : Read) where
  pub read-file : 63 < r.file → 18 ≡ first_of (read_grounds r)
  unfolding read_grounds no_file_number first_of
  read-file h = rw (lt-ltb 63 r.file h)

  module _ (fits : r.file ≤ 63) where
    pub read-broadcast : r.name ≡ 0 → 14 ≡ first_of (read_grounds r)
    unfolding read_grounds no_file_number broadcast_read both first_of
    read-broadcast e = rw (le-ltb 63 r.file fits, e)

    pub read_fits : (r.name ≡ 0 → ⊥) → 0 ≡ first_of (read_grounds r)
    unfolding read_grounds no_file_number broadcast_read both first_of
    read_fits n = rw (le-ltb 63 r.file fits, ne_eqb r.name 0 n)

-- what none of them says
pub record Readable (r : Read) : Type 0 where
  pub fits : r.file ≤ 63
  pub named : r.name ≡ 0 → ⊥

pub readable : (r : Read) → first_of (read_grounds r) ≡ 0 → Readable r
unfolding read_grounds no_file_number broadcast_read both
readable r e =
    let eighteen = first-none 17 _ _ e in
    let fourteen = first-none 13 _ _ eighteen.1 in
    record { fits = ltb-false 63 r.file eighteen.0; named = eqb-false r.name 0 fourteen.0 }

-- ---- the grounds of a post

module _ (state : List ℕ) (i : ℕ) (r : Read) where
  pub post-screen : 7 < i → PostGround state i r 27
  unfolding post_ground no_screen first_of either
  post-screen h = record { is = rw (lt-ltb 7 i h); few = λ z. absurd (omega (arith, z)) }

  module _ (few : i ≤ 7) where
    pub post-last : 7 < get_or state 0 0 → PostGround state i r 27
    unfolding post_ground no_screen last_served first_of either
    post-last h = record { is = rw (le-ltb 7 i few, lt-ltb 7 (get_or state 0 0) h); few = λ z. omega arith }

    module _ (last : get_or state 0 0 ≤ 7) {t : Bool} (waits : t ≡ is_waiting state i) where
      pub post-waiting : t ≡ true → PostGround state i r 28
      unfolding post_ground no_screen last_served first_of either
      post-waiting already =
          record { is = rw (le-ltb 7 i few, le-ltb 7 (get_or state 0 0) last, ← waits, already); few = λ z. omega arith }

      pub post_read : t ≡ false → {g : ℕ} → g ≡ first_of (read_grounds r) → PostGround state i r g
      unfolding post_ground no_screen last_served first_of either
      post_read idle is =
          record { is = rw (le-ltb 7 i few, le-ltb 7 (get_or state 0 0) last, ← waits, idle) is; few = λ z. omega arith }

pub post-few : {state : List ℕ} {i : ℕ} {r : Read} {g : ℕ} → PostGround state i r g → g ≡ 0 → i < screens
post-few p = p.few

-- ---- the post

module _ (state : List ℕ) (i name file «record» : ℕ) {g : ℕ} (p : PostGround state i (read_by name file «record») g) where
  pub post-refused : (g ≡ 0 → ⊥) → (refused g, state) ≡ post_on state i (read_by name file «record»)
  unfolding post_on result_of
  post-refused n = rw (← p.is, ne_eqb g 0 n)

  pub post-done :
      g ≡ 0 → {place : ℕ} → place ≡ place_of i →
      (done tt, set (set (set (set state place 1) (place + 1) name) (place + 2) file) (place + 3) «record») ≡
      post_on state i (read_by name file «record»)
  unfolding post_on posted result_of
  post-done e at = rw (← p.is, e, at)
