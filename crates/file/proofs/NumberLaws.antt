-- Numbers of several bytes at a place of a list: one law joins two of them, whatever their widths.
-- Assumes nothing.
use Rattle.std.proofs.Common.{ℕ, zero, suc, ◌+◌, ◌*◌, ◌-◌, ◌%◌, ◌^◌, ◌≤◌, ◌<◌, ◌≡◌, refl, sym, ◌∙◌, subst, Bool, true, false, eqb, eqb-true, List, []}
use Rattle.std.proofs.Common.{◌∷◌, ◌++◌, arith, bit_or, pow-add, shl_exact, shl_lt, length, get_or, drop, length-append, length-take, length-drop}
use Rattle.std.proofs.Common.{take-add, drop-drop, drop-cons}
use native.Mathlib.Nat.{one-le-pow}
use borrow.Author.Tests.{eqb-false}
use lib.Arith.{digits_lt}
use lib.Bits.{or_shifted}
use Rattle.file.specs.Rules.Layout.{OffsetWidth}
use Rattle.file.specs.Rules.Bytes.{number_of, part, all_zero}
use Rattle.file.specs.Inner.Numbers.{ByteAt, NumberAt}
use Rattle.file.proofs.Order.{by_case, clash}
use Rattle.file.proofs.Width.{Which, narrow, wide, which}

-- the number that two runs of bytes spell together
pub number_append : (xs ys : List ℕ) → number_of (xs ++ ys) ≡ number_of xs * 256 ^ length ys + number_of ys
unfolding number_of
number_append [] ys = omega arith
number_append (x ∷ xs) ys =
    let h : number_of (xs ++ ys) ≡ number_of xs * 256 ^ length ys + number_of ys = number_append xs ys in
    let p : 256 ^ length (xs ++ ys) ≡ 256 ^ length xs * 256 ^ length ys = rw length-append (pow-add 256 (length xs) (length ys)) in
    rw (h, p) (omega arith)

pub part-add : (l : List ℕ) (at m n : ℕ) → part l at (m + n) ≡ part l at m ++ part l (at + m) n
unfolding part
part-add l at m n = rw (take-add m n (drop at l), drop-drop m at l)

pub part_length : (l : List ℕ) (at n : ℕ) → at + n ≤ length l → length (part l at n) ≡ n
unfolding part
part_length l at n h = simp (length-take, length-drop) (omega arith)

-- a byte is a number of one byte
pub byte-number : {l : List ℕ} {at b : ℕ} → at < length l → ByteAt l at b → NumberAt l at 1 b
unfolding number_of part
byte-number {l} {at} {b} h k =
    record {
      is = rw (drop-cons l at 0 h) (k.is ∙ simple (get_or l at 0));
      below = k.byte;
    }
  where
    simple : (x : ℕ) → x ≡ x * 256 ^ 0 + 0
    simple x = omega arith

-- two numbers, one behind the other
pub number-join : {l : List ℕ} {at m n a b : ℕ} → at + m + n ≤ length l → NumberAt l at m a → NumberAt l (at + m) n b → NumberAt l at (m + n) (a * 256 ^ n + b)
number-join {l} {at} {m} {n} {a} {b} h p q =
    record {
      is = rw (part-add l at m n, number_append (part l at m) (part l (at + m) n), part_length l (at + m) n h, ← p.is, ← q.is);
      below = subst (λ (k : ℕ). a * 256 ^ n + b < k) (sym (pow-add 256 m n)) (digits_lt p.below q.below);
    }

-- the remainder of a number is its last byte
last_of : (x b : ℕ) → b < 256 → b ≡ (x * 256 ^ 1 + b) % 256
last_of x b h = omega arith

pub number-last : {l : List ℕ} (at n : ℕ) {b : ℕ} → at + n < length l → ByteAt l (at + n) b → b ≡ number_of (part l at (n + 1)) % 256
number-last {l} at n {b} h q =
    rw (part-add l at n 1, number_append (part l at n) (part l (at + n) 1), part_length l (at + n) 1 (omega arith), ← (byte-number h q).is)
    (last_of (number_of (part l at n)) b q.byte)

-- the same of two numbers of one width, joined by a shift of k bits and or
pub number_or : {l : List ℕ} {at : ℕ} (n k : ℕ) {a b : ℕ} → 2 ^ k ≡ 256 ^ n → k + k ≤ 64 → at + n + n ≤ length l → NumberAt l at n a → NumberAt l (at + n) n b →
    NumberAt l at (n + n) (bit_or ((a * 2 ^ k) % 2 ^ 64) b)
number_or n k {a} {b} same few h p q =
    let high : a < 2 ^ k = rw same p.below in
    let low : b < 2 ^ k = rw same q.below in
    rw (shl_exact k k 64 high few, or_shifted a k b low, same) (number-join h p q)

-- the first m bytes of a number, shifted to where k bits follow
pub record Shifted (l : List ℕ) (at m k x : ℕ) : Type 0 where
  pub top : ℕ
  pub number : NumberAt l at m top
  pub is : x ≡ top * 2 ^ k

pub shifted_first : {l : List ℕ} {at b : ℕ} (k : ℕ) → k ≤ 56 → at < length l → ByteAt l at b → Shifted l at 1 k ((b * 2 ^ k) % 2 ^ 64)
shifted_first {b = b} k few h q = record { top = b; number = byte-number h q; is = shl_exact 8 k 64 q.byte (omega arith) }

-- one byte more
join-byte : (a b p : ℕ) → a * (256 * p) + b * p ≡ (a * 256 + b) * p
join-byte a b p = omega arith

pub shifted_next : {l : List ℕ} {at m b x : ℕ} (k : ℕ) → k ≤ 48 → at + m < length l → Shifted l at m (8 + k) x → ByteAt l (at + m) b → Shifted l at (m + 1) k (bit_or x ((b * 2 ^ k) % 2 ^ 64))
shifted_next {l} {at} {m} {b} {x} k few h s q =
    let p : 2 ^ (8 + k) ≡ 256 * 2 ^ k = pow-add 2 8 k in
    let below : b * 2 ^ k < 2 ^ (8 + k) = shl_lt 8 k q.byte in
    record {
      top = s.top * 256 + b;
      number = number-join (omega arith) s.number (byte-number h q);
      is = rw (s.is, shl_exact 8 k 64 q.byte (omega arith), or_shifted s.top (8 + k) (b * 2 ^ k) below, p) (join-byte s.top b (2 ^ k));
    }

pub shifted_last : {l : List ℕ} {at m b x : ℕ} → at + m < length l → Shifted l at m 8 x → ByteAt l (at + m) b → NumberAt l at (m + 1) (bit_or x b)
shifted_last {l} {at} {m} {b} {x} h s q =
    rw (s.is, or_shifted s.top 8 b q.byte) (number-join (omega arith) s.number (byte-number h q))

-- eight bytes, each shifted to its place
pub eight-bytes : {l : List ℕ} {at b₀ b₁ b₂ b₃ b₄ b₅ b₆ b₇ : ℕ} → at + 8 ≤ length l →
    ByteAt l at b₀ → ByteAt l (at + 1) b₁ → ByteAt l (at + 2) b₂ → ByteAt l (at + 3) b₃ → ByteAt l (at + 4) b₄ → ByteAt l (at + 5) b₅ → ByteAt l (at + 6) b₆ → ByteAt l (at + 7) b₇ →
    NumberAt l at 8
    (bit_or (bit_or (bit_or (bit_or (bit_or (bit_or (bit_or ((b₀ * 2 ^ 56) % 2 ^ 64) ((b₁ * 2 ^ 48) % 2 ^ 64)) ((b₂ * 2 ^ 40) % 2 ^ 64)) ((b₃ * 2 ^ 32) % 2 ^ 64)) ((b₄ * 2 ^ 24) % 2 ^ 64))
    ((b₅ * 2 ^ 16) % 2 ^ 64))
    ((b₆ * 2 ^ 8) % 2 ^ 64))
    b₇)
eight-bytes {l} {at} h p₀ p₁ p₂ p₃ p₄ p₅ p₆ p₇ =
    let s₁ = shifted_first {l = l} {at = at} 56 (omega arith) (omega arith) p₀ in
    let s₂ = shifted_next {l = l} {at = at} {m = 1} 48 (omega arith) (omega arith) s₁ p₁ in
    let s₃ = shifted_next {l = l} {at = at} {m = 2} 40 (omega arith) (omega arith) s₂ p₂ in
    let s₄ = shifted_next {l = l} {at = at} {m = 3} 32 (omega arith) (omega arith) s₃ p₃ in
    let s₅ = shifted_next {l = l} {at = at} {m = 4} 24 (omega arith) (omega arith) s₄ p₄ in
    let s₆ = shifted_next {l = l} {at = at} {m = 5} 16 (omega arith) (omega arith) s₅ p₅ in
    let s₇ = shifted_next {l = l} {at = at} {m = 6} 8 (omega arith) (omega arith) s₆ p₆ in
    shifted_last {l = l} {at = at} {m = 7} (omega arith) s₇ p₇

-- ---- an offset, of either width

offset-joined : {l : List ℕ} {at w a b : ℕ} → Which w → (w ≡ 2 → ⊥) → at + w ≤ length l → NumberAt l at 2 a → NumberAt l (at + 2) 2 b → NumberAt l at w (bit_or ((a * 2 ^ 16) % 2 ^ 64) b)
offset-joined narrow other h p q = absurd (other refl)
offset-joined wide other h p q = number_or 2 16 refl (omega arith) (omega arith) p q

pub offset_wide : {l : List ℕ} {at w a b : ℕ} → OffsetWidth w → (w ≡ 2 → ⊥) → at + w ≤ length l → NumberAt l at 2 a → NumberAt l (at + 2) 2 b → NumberAt l at w (bit_or ((a * 2 ^ 16) % 2 ^ 64) b)
offset_wide width other h p q = offset-joined (which width) other h p q

-- ---- zeros, and the number that they spell

pub zero_number : (l : List ℕ) → all_zero l ≡ true → number_of l ≡ 0
unfolding all_zero number_of
zero_number [] e = refl
zero_number (b ∷ bs) e =
    by_case (eqb b 0)
    (λ t.
    let z : b ≡ 0 = eqb-true b 0 t in
    let r : number_of bs ≡ 0 = zero_number bs (rw t at e) in
    rw (z, r) (omega arith))
    (λ f. clash (rw f at e) refl)

some_power : (b n : ℕ) → 0 < b → b * 256 ^ n ≡ 0 → ⊥
some_power (suc b) n h e =
    let p : 1 ≤ 256 ^ n = one-le-pow n 256 (omega arith) in
    omega (arith, e)
some_power zero n h e = absurd (omega arith)

pub number_zero : (l : List ℕ) → number_of l ≡ 0 → all_zero l ≡ true
unfolding all_zero number_of
number_zero [] e = refl
number_zero (b ∷ bs) e =
    let r : number_of bs ≡ 0 = omega arith in
    let p : b * 256 ^ length bs ≡ 0 = omega arith in
    by_case (eqb b 0)
    (λ t. rw t (number_zero bs r))
    (λ f. absurd (some_power b (length bs) (let z : b ≡ 0 → ⊥ = eqb-false b 0 f in omega arith) p))

-- the zeros that fill an entry of either width up
pub filled_narrow : {w : ℕ} (f : List ℕ) (at : ℕ) → w ≡ 2 → true ≡ all_zero (part f at (w - 2))
unfolding part all_zero
filled_narrow f at e = rw e

filled : {w n : ℕ} {f : List ℕ} {at : ℕ} → Which w → (w ≡ 2 → ⊥) → NumberAt f at 2 n → eqb n 0 ≡ all_zero (part f at (w - 2))
filled narrow other h = absurd (other refl)
filled {n = n} {f} {at} wide other h =
    by_case (eqb n 0)
    (λ t. t ∙ sym (number_zero (part f at 2) (sym h.is ∙ eqb-true n 0 t)))
    (λ t. t ∙ sym (false_unless (λ z. eqb-false n 0 t (h.is ∙ zero_number (part f at 2) z))))
  where
    false_unless : {b : Bool} → (b ≡ true → ⊥) → b ≡ false
    false_unless {b} never = by_case b (λ e. absurd (never e)) (λ e. e)

pub filled_wide : {w n : ℕ} {f : List ℕ} {at : ℕ} → OffsetWidth w → (w ≡ 2 → ⊥) → NumberAt f at 2 n → eqb n 0 ≡ all_zero (part f at (w - 2))
filled_wide width other h = filled (which width) other h
