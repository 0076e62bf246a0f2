-- The bytes of the state after a post and after a screen is served: those of the other screens stay.
-- Assumes nothing.
use Rattle.std.proofs.Common.{ℕ, ◌+◌, ◌<◌, ◌≡◌, ◌∙◌, ◌≢◌, List, false, arith, length, get_or, set, length-set, get_or-set_same, get_or-set_other}
use Rattle.screens.specs.Rules.Screens.{last_served, place_of, is_waiting, Read, read_of, posted}
use Rattle.screens.specs.Rules.Turn.{after_serving}

pub serving_byte : (state : List ℕ) (j k : ℕ) → k ≢ 0 → k ≢ place_of j → get_or (after_serving state j) k 0 ≡ get_or state k 0
unfolding after_serving
serving_byte state j k a b = get_or-set_other (set state 0 j) (place_of j) k 0 0 b ∙ get_or-set_other state 0 k j 0 a

pub posted-byte :
    (state : List ℕ) (j : ℕ) (r : Read) (k : ℕ) → k ≢ place_of j → k ≢ place_of j + 1 → k ≢ place_of j + 2 → k ≢ place_of j + 3 →
    get_or (posted state j r) k 0 ≡ get_or state k 0
unfolding posted
posted-byte state j r k a b c d =
    let one : List ℕ = set state (place_of j) 1 in
    let two : List ℕ = set one (place_of j + 1) r.name in
    let three : List ℕ = set two (place_of j + 2) r.file in
    get_or-set_other three (place_of j + 3) k r.«record» 0 d ∙ get_or-set_other two (place_of j + 2) k r.file 0 c
    ∙ get_or-set_other one (place_of j + 1) k r.name 0 b ∙ get_or-set_other state (place_of j) k 1 0 a

-- a screen whose four bytes are the same waits alike, with the same read
module _ (state after : List ℕ) (i : ℕ) (same : (n : ℕ) → n < 4 → get_or after (place_of i + n) 0 ≡ get_or state (place_of i + n) 0) where
  pub same-waits : is_waiting after i ≡ is_waiting state i
  unfolding is_waiting
  same-waits =
      let there : place_of i + 0 ≡ place_of i = omega arith in
      let e : get_or after (place_of i) 0 ≡ get_or state (place_of i) 0 = rw there at (same 0 (omega arith)) in
      rw e

  pub same_read : read_of after i ≡ read_of state i
  unfolding read_of
  same_read = rw (same 1 (omega arith), same 2 (omega arith), same 3 (omega arith))

module _ (state : List ℕ) (i j : ℕ) (other : i ≢ j) where
  pub serving_same : (n : ℕ) → n < 4 → get_or (after_serving state j) (place_of i + n) 0 ≡ get_or state (place_of i + n) 0
  serving_same n few =
      serving_byte state j (place_of i + n) (λ e. unfold place_of in omega (arith, e))
      (λ e. unfold place_of in other (omega (arith, e, few)))

  pub posted-same : (r : Read) (n : ℕ) → n < 4 → get_or (posted state j r) (place_of i + n) 0 ≡ get_or state (place_of i + n) 0
  posted-same r n few =
      posted-byte state j r (place_of i + n) (λ e. unfold place_of in other (omega (arith, e, few)))
      (λ e. unfold place_of in other (omega (arith, e, few))) (λ e. unfold place_of in other (omega (arith, e, few)))
      (λ e. unfold place_of in other (omega (arith, e, few)))

pub posted-last : (state : List ℕ) (j : ℕ) (r : Read) → last_served (posted state j r) ≡ last_served state
unfolding last_served
posted-last state j r =
    posted-byte state j r 0 (λ e. unfold place_of in omega (arith, e)) (λ e. unfold place_of in omega (arith, e))
    (λ e. unfold place_of in omega (arith, e)) (λ e. unfold place_of in omega (arith, e))

pub serving_last : (state : List ℕ) (j : ℕ) → 0 < length state → last_served (after_serving state j) ≡ j
unfolding last_served after_serving
serving_last state j some =
    get_or-set_other (set state 0 j) (place_of j) 0 0 0 (λ e. unfold place_of in omega (arith, e)) ∙ get_or-set_same state 0 j 0 some

-- the screen that is served
module _ (state : List ℕ) (i : ℕ) where
  pub serving_clears : place_of i < length state → is_waiting (after_serving state i) i ≡ false
  unfolding is_waiting after_serving
  serving_clears within =
      let there : place_of i < length (set state 0 i) = rw (length-set state 0 i) within in
      rw (get_or-set_same (set state 0 i) (place_of i) 0 0 there)

  own_byte : (n : ℕ) → 0 < n → get_or (after_serving state i) (place_of i + n) 0 ≡ get_or state (place_of i + n) 0
  own_byte n some = serving_byte state i (place_of i + n) (λ e. omega (arith, e, some)) (λ e. omega (arith, e, some))

  pub serving_read : read_of (after_serving state i) i ≡ read_of state i
  unfolding read_of
  serving_read = rw (own_byte 1 (omega arith), own_byte 2 (omega arith), own_byte 3 (omega arith))
