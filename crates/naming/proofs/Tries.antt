-- The values that a pass compares with, for the greatest physical name p, as arithmetic: which half of them changes from one comparison to
-- the next. While bits 63 to 32 are asked for it is the high half alone, after that the low half alone, and at bit 31 the high one
-- again exactly if bit 32 of p is 0. The value itself differs from the last one in the low half exactly if bit 0 is 0.
-- Assumes nothing.
use Rattle.std.proofs.Common.{ℕ, zero, suc, ◌+◌, ◌*◌, ◌-◌, ◌/◌, ◌%◌, ◌^◌, ◌≤◌, ◌<◌, ◌≡◌, refl, sym, ap, ◌∙◌, cond, arith, pow-suc, ltb, pow_pos, pow-add, shr-shr, lt-ltb, ltb-true, ltb-false}
use lib.Pow.{pow-lt, shl-shr, high}
use Rattle.file.proofs.Order.{by_case}
use Rattle.naming.specs.Rules.Pass.{bits}
use Rattle.naming.specs.Rules.RunRounds.{half}
use Rattle.naming.specs.Rules.Account.{bit_clear}
use Rattle.naming.proofs.Search.{cleared}

-- the value that the comparison of bit b sends: p with the bits up to b cleared, and bit b set
unfoldable pub attempt : ℕ → ℕ → ℕ
attempt b p = cleared (suc b) p + 2 ^ b

-- the value sent last while r bits are left: 0 before bit 63
unfoldable pub last_try : ℕ → ℕ → ℕ
last_try r p = cond (ltb r bits) (attempt r p) 0

-- ---- one attempt

module _ (b p : ℕ) where
  -- an odd multiple of its bit
  odd : attempt b p ≡ (p / 2 ^ suc b * 2 + 1) * 2 ^ b
  unfolding attempt cleared
  odd = rw (pow-suc 2 b) (omega arith)

  upper_half : b ≤ 31 → attempt b p / half ≡ p / half
  unfolding attempt cleared
  upper_half h =
      let e : suc b + (31 - b) ≡ 32 = omega arith in
      let l : 2 ^ b < 2 ^ suc b = pow-lt (omega arith) in
      let x = attempt b p in
      let there : x / 2 ^ suc b / 2 ^ (31 - b) ≡ x / 2 ^ 32 = shr-shr x (suc b) (31 - b) ∙ ap (λ (n : ℕ). x / 2 ^ n) e in
      let here : p / 2 ^ suc b / 2 ^ (31 - b) ≡ p / 2 ^ 32 = shr-shr p (suc b) (31 - b) ∙ ap (λ (n : ℕ). p / 2 ^ n) e in
      let same : x / 2 ^ suc b ≡ p / 2 ^ suc b = high (p / 2 ^ suc b) (suc b) l in
      sym there ∙ ap (λ (n : ℕ). n / 2 ^ (31 - b)) same ∙ here

  lower_half : 32 ≤ b → attempt b p % half ≡ 0
  lower_half h =
      let e : b - 32 + 32 ≡ b = omega arith in
      let power : 2 ^ b ≡ 2 ^ (b - 32) * 2 ^ 32 = ap (λ (n : ℕ). 2 ^ n) (sym e) ∙ pow-add 2 (b - 32) 32 in
      let m = (p / 2 ^ suc b * 2 + 1) * 2 ^ (b - 32) in
      let is : attempt b p ≡ (p / 2 ^ suc b * 2 + 1) * (2 ^ (b - 32) * 2 ^ 32) = odd ∙ ap (λ (n : ℕ). (p / 2 ^ suc b * 2 + 1) * n) power in
      let whole : attempt b p ≡ m * 4294967296 = omega arith in
      omega arith

-- no two that follow one another are equal: an odd and an even multiple
attempts_differ : (b p : ℕ) → attempt b p ≡ attempt (suc b) p → ⊥
attempts_differ b p e =
    let x = p / 2 ^ suc b * 2 + 1 in
    let y = (p / 2 ^ suc (suc b) * 2 + 1) * 2 in
    let here : attempt b p / 2 ^ b ≡ x = ap (λ (n : ℕ). n / 2 ^ b) (odd b p) ∙ shl-shr x b in
    let even : attempt (suc b) p ≡ y * 2 ^ b = odd (suc b) p ∙ rw (pow-suc 2 b) (omega arith) in
    let there : attempt (suc b) p / 2 ^ b ≡ y = ap (λ (n : ℕ). n / 2 ^ b) even ∙ shl-shr y b in
    let same : x ≡ y = sym here ∙ ap (λ (n : ℕ). n / 2 ^ b) e ∙ there in
    omega arith

-- ---- which half is sent again

pub try_here : (b p : ℕ) → b < bits → last_try b p ≡ attempt b p
unfolding last_try
try_here b p h = rw (lt-ltb b bits h)

try_first : (p : ℕ) → last_try bits p ≡ 0
unfolding last_try
try_first p = refl

module _ (b p : ℕ) (within : b < bits) where
  -- bits 63 to 32: the high half
  module _ (upper : 32 ≤ b) where
    before-low : last_try (suc b) p % half ≡ 0
    before-low =
        by_case (ltb (suc b) bits)
        (λ t. rw (try_here (suc b) p (ltb-true (suc b) bits t)) (lower_half (suc b) p (omega arith)))
        (λ f.
        let l = ltb-false (suc b) bits f in
        let e : suc b ≡ bits = omega arith in
        rw (e, try_first p))

    pub upper_low : attempt b p % half ≡ last_try (suc b) p % half
    upper_low = lower_half b p upper ∙ sym before-low

    pub upper_high : attempt b p / half ≡ last_try (suc b) p / half → ⊥
    upper_high e =
        let whole : attempt b p ≡ last_try (suc b) p = let l = upper_low in omega arith in
        by_case (ltb (suc b) bits)
        (λ t. attempts_differ b p (whole ∙ try_here (suc b) p (ltb-true (suc b) bits t)))
        (λ f.
        let l = ltb-false (suc b) bits f in
        let is : suc b ≡ bits = omega arith in
        let none : attempt b p ≡ 0 = whole ∙ rw (is, try_first p) in
        positive none)
      where
        positive : attempt b p ≡ 0 → ⊥
        positive none =
            let some : 0 < 2 ^ b = pow_pos b in
            let sum : cleared (suc b) p + 2 ^ b ≡ 0 = unfold attempt in none in
            omega arith

  -- bits 30 to 0: the low half
  module _ (lower : b < 31) where
    before-high : last_try (suc b) p / half ≡ p / half
    before-high = rw (try_here (suc b) p (omega arith)) (upper_half (suc b) p (omega arith))

    pub lower_high : attempt b p / half ≡ last_try (suc b) p / half
    lower_high = upper_half b p (omega arith) ∙ sym before-high

    pub lower_low : attempt b p % half ≡ last_try (suc b) p % half → ⊥
    lower_low e =
        let whole : attempt b p ≡ last_try (suc b) p = let h = lower_high in omega arith in
        attempts_differ b p (whole ∙ try_here (suc b) p (omega arith))

-- bit 31: the low half, and the high one if bit 32 of p is 0
module _ (p : ℕ) where
  attempt_31 : attempt 31 p ≡ p / 4294967296 * 4294967296 + 2147483648
  unfolding attempt cleared
  attempt_31 = refl

  attempt_32 : last_try 32 p ≡ p / 8589934592 * 8589934592 + 4294967296
  unfolding attempt cleared last_try
  attempt_32 = refl

  pub middle_high : (attempt 31 p / half ≡ last_try 32 p / half → bit_clear 32 p ≡ 0) × ((attempt 31 p / half ≡ last_try 32 p / half → ⊥) → bit_clear 32 p ≡ 1)
  unfolding bit_clear
  middle_high =
      let a = attempt_31 in
      let l = attempt_32 in
      (λ e. omega arith, λ n. by_bit n (p / 4294967296 % 2) refl)
    where
      by_bit : (attempt 31 p / half ≡ last_try 32 p / half → ⊥) → (t : ℕ) → p / 4294967296 % 2 ≡ t → 1 - p / 4294967296 % 2 ≡ 1
      by_bit n zero e = omega arith
      by_bit n (suc t) e =
          let a = attempt_31 in
          let l = attempt_32 in
          absurd (n (omega arith))

  pub middle_low : attempt 31 p % half ≡ last_try 32 p % half → ⊥
  middle_low e =
      let a = attempt_31 in
      let l = attempt_32 in
      omega arith

  -- the value itself after the last comparison: the same high half, and the low one if bit 0 is 1
  attempt_0 : last_try 0 p ≡ p / 2 * 2 + 1
  unfolding attempt cleared last_try
  attempt_0 = refl

  pub given-high : p / half ≡ last_try 0 p / half
  given-high = let a = attempt_0 in omega arith

  pub given-low : (p % half ≡ last_try 0 p % half → bit_clear 0 p ≡ 0) × ((p % half ≡ last_try 0 p % half → ⊥) → bit_clear 0 p ≡ 1)
  unfolding bit_clear
  given-low = (λ e. let a = attempt_0 in omega arith, λ n. by_bit n (p % 2) refl)
    where
      by_bit : (p % half ≡ last_try 0 p % half → ⊥) → (t : ℕ) → p % 2 ≡ t → 1 - p / 1 % 2 ≡ 1
      by_bit n zero e = omega arith
      by_bit n (suc t) e = let a = attempt_0 in absurd (n (omega arith))
