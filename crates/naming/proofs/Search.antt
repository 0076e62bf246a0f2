-- The search for the greatest physical name, as arithmetic: the value so far before bit b is the name with its low b + 1 bits
-- cleared, and a comparison with that bit set tells the bit.
-- Assumes nothing.
use Rattle.std.proofs.Common.{ℕ, zero, suc, ◌+◌, ◌*◌, ◌/◌, ◌%◌, ◌^◌, ◌≤◌, ◌<◌, ◌≡◌, refl, ap, ◌∙◌, Bool, true, false, cond, arith, div-add-mod', mod-lt, pow-suc, div-one, mul-one, leb, pow_pos, leb-true, leb-false}
use native.Mathlib.Nat.{div-div-eq-div-mul, div-eq_of_lt}
use lib.Bits.{or_shifted, or_lt}
use lib.Pow.{pow-lt}
use Rattle.naming.specs.Rules.Pass.{Question, bit, bits}
use Rattle.naming.specs.Rules.Run.{tried}
use Rattle.naming.specs.Rules.RunRounds.{half}
use Rattle.naming.proofs.Places.{LegalQuestion, of_least, of_bit}

-- p with its low r bits cleared
unfoldable pub cleared : ℕ → ℕ → ℕ
cleared r p = p / 2 ^ r * 2 ^ r

pub cleared_all : (p : ℕ) → p < 2 ^ bits → cleared bits p ≡ 0
unfolding cleared
cleared_all p h = rw div-eq_of_lt

pub cleared_none : (p : ℕ) → cleared 0 p ≡ p
unfolding cleared
cleared_none p = rw (div-one, mul-one)

bit-set : (P h q r m p x : ℕ) → q ≡ h * 2 + r → r < 2 → q * P + m ≡ p → m < P → x ≡ h * (P * 2) → x + P ≤ p → x + P ≡ q * P
bit-set P h q zero m p x e l s k c g = let f : q * P ≡ h * 2 * P = ap (λ (z : ℕ). z * P) (e ∙ omega arith) in omega arith
bit-set P h q (suc zero) m p x e l s k c g = let f : q * P ≡ (h * 2 + 1) * P = ap (λ (z : ℕ). z * P) e in omega arith
bit-set P h q (suc (suc r)) m p x e l s k c g = omega arith

bit-clear : (P h q r m p x : ℕ) → q ≡ h * 2 + r → r < 2 → q * P + m ≡ p → m < P → x ≡ h * (P * 2) → p < x + P → x ≡ q * P
bit-clear P h q zero m p x e l s k c g = let f : q * P ≡ h * 2 * P = ap (λ (z : ℕ). z * P) (e ∙ omega arith) in omega arith
bit-clear P h q (suc zero) m p x e l s k c g = let f : q * P ≡ (h * 2 + 1) * P = ap (λ (z : ℕ). z * P) e in omega arith
bit-clear P h q (suc (suc r)) m p x e l s k c g = omega arith

-- one bit less cleared, by quotient and halves
module _ (b p x : ℕ) (so_far : x ≡ cleared (suc b) p) where
  double : x ≡ p / 2 ^ b / 2 * (2 ^ b * 2)
  unfolding cleared
  double = so_far ∙ rw (pow-suc 2 b, ← div-div-eq-div-mul p (2 ^ b) 2)

  pub kept : x + 2 ^ b ≤ p → x + 2 ^ b ≡ cleared b p
  unfolding cleared
  kept g =
      bit-set (2 ^ b) (p / 2 ^ b / 2) (p / 2 ^ b) (p / 2 ^ b % 2) (p % 2 ^ b) p x (omega arith) (omega arith) (div-add-mod' p (2 ^ b))
      (mod-lt p (pow_pos b)) double g

  pub dropped : p < x + 2 ^ b → x ≡ cleared b p
  unfolding cleared
  dropped g =
      bit-clear (2 ^ b) (p / 2 ^ b / 2) (p / 2 ^ b) (p / 2 ^ b % 2) (p % 2 ^ b) p x (omega arith) (omega arith) (div-add-mod' p (2 ^ b))
      (mod-lt p (pow_pos b)) double g

  -- the value that the comparison of bit b sends
  pub tried-bit : tried (bit b) x ≡ x + 2 ^ b
  unfolding tried cleared
  tried-bit =
      let l : 2 ^ b < 2 ^ suc b = pow-lt (omega arith) in
      rw so_far (or_shifted (p / 2 ^ suc b) (suc b) (2 ^ b) l)

  -- what the answer leaves as the value so far
  pub answered : cond (leb (tried (bit b) x) p) (tried (bit b) x) x ≡ cleared b p
  answered = rw tried-bit (go (leb (x + 2 ^ b) p) refl)
    where
      go : (t : Bool) → leb (x + 2 ^ b) p ≡ t → cond t (x + 2 ^ b) x ≡ cleared b p
      go true e = kept (leb-true _ _ e)
      go false e = dropped (leb-false _ _ e)

-- values stay below 2^64
pub tried-small : {q : Question} → LegalQuestion q → (x : ℕ) → x < 2 ^ bits → tried q x < 2 ^ bits
unfolding tried
tried-small of_least x h = omega arith
tried-small (of_bit {b = b} l) x h = or_lt bits x (2 ^ b) h (pow-lt l)

-- a value is its two halves
pub halves : {h l v : ℕ} → h ≡ v / half → l ≡ v % half → h * half + l ≡ v
halves {h} {l} {v} p q = omega arith
