-- Masks of slots, bit by bit.
-- Assumes nothing.
use Rattle.std.proofs.Common.{ℕ, zero, suc, ◌+◌, ◌-◌, ◌*◌, ◌/◌, ◌%◌, ◌^◌, ◌≤◌, ◌<◌, min, max, arith, pow-suc, mod-lt, mod-eq_of_lt, ◌≡◌, refl, sym, ap, ◌∙◌, Bool, true, false, not, ◌||◌, pow_pos, pow_mono, shl_exact, shr-shr, shr_lt, eqb, leb, ltb, eq-eqb, ne_eqb, eqb-true, leb-true, leb-false, ltb-true, ltb-false}
use lib.Bits.{bit_and, bit_or, bit_xor, differ, and_step, or_step, xor_step, and_shr, or_shr, xor_shr, and_self}
use lib.Count.{count_leading_zeros, leading_top, count_trailing_zeros}
use lib.Pow.{high, split, field, mod-mod-pow, high_ones}
use borrow.Author.Tests.{eqb-false}
use Rattle.file.specs.Rules.Order.{both, either}
use Rattle.file.proofs.Order.{by_case, both_true, both_false_left, both_false_right, both-next}
use Rattle.master_slave.specs.Rules.Bus.{slots}
use Rattle.owner.specs.Rules.Plan.{some_below}
use Rattle.owner.specs.Inner.Masks.{is_set, Marks, between, longest_entry, LastIs}

-- ---- truth values

pub or_either : (a b : Bool) → (a || b) ≡ either a b
unfolding either
or_either true b = refl
or_either false b = refl

pub either_false : (a : Bool) → either a false ≡ a
unfolding either
either_false true = refl
either_false false = refl

pub both-all : (a : Bool) → both a true ≡ a
unfolding both
both-all true = refl
both-all false = refl

-- ---- and, or, and what is left out

digit : (q : ℕ) {d : ℕ} → d < 2 → (q * 2 + d) % 2 ≡ d
digit q l = omega arith

-- a law of two digits, by its four cases
two_digits : (P : ℕ → ℕ → Type 0) → P 0 0 → P 0 1 → P 1 0 → P 1 1 → (x y : ℕ) → x < 2 → y < 2 → P x y
two_digits P none second first all zero zero p q = none
two_digits P none second first all zero (suc zero) p q = second
two_digits P none second first all (suc zero) zero p q = first
two_digits P none second first all (suc zero) (suc zero) p q = all
two_digits P none second first all (suc (suc x)) y p q = absurd (omega arith)
two_digits P none second first all zero (suc (suc y)) p q = absurd (omega arith)
two_digits P none second first all (suc zero) (suc (suc y)) p q = absurd (omega arith)

or_digit : (x y : ℕ) → x < 2 → y < 2 → eqb (max x y) 1 ≡ either (eqb x 1) (eqb y 1)
unfolding either
or_digit = two_digits (λ (x y : ℕ). eqb (max x y) 1 ≡ either (eqb x 1) (eqb y 1)) refl refl refl refl

and_digit : (x y : ℕ) → x < 2 → y < 2 → eqb (min x y) 1 ≡ both (eqb x 1) (eqb y 1)
unfolding both
and_digit = two_digits (λ (x y : ℕ). eqb (min x y) 1 ≡ both (eqb x 1) (eqb y 1)) refl refl refl refl

xor_digit : (x y : ℕ) → x < 2 → y ≡ 1 → eqb (differ x y) 1 ≡ not (eqb x 1)
xor_digit zero y p q = rw q
xor_digit (suc zero) y p q = rw q
xor_digit (suc (suc x)) y p q = absurd (omega arith)

max_small : (x y : ℕ) → x < 2 → y < 2 → max x y < 2
max_small x y p q = omega arith

min_small : (x y : ℕ) → x < 2 → y < 2 → min x y < 2
min_small x y p q = omega arith

differ_small : (x y : ℕ) → x < 2 → y < 2 → differ x y < 2
differ_small zero y p q = q
differ_small (suc zero) zero p q = p
differ_small (suc zero) (suc zero) p q = omega arith
differ_small (suc (suc x)) y p q = absurd (omega arith)
differ_small (suc zero) (suc (suc y)) p q = absurd (omega arith)

last-digit : (n : ℕ) → n % 2 < 2
last-digit n = omega arith

module _ (a b slot : ℕ) where
  pub set_or : is_set (bit_or a b) slot ≡ either (is_set a slot) (is_set b slot)
  unfolding is_set
  set_or =
      let x = a / 2 ^ slot in
      let y = b / 2 ^ slot in
      let here : bit_or a b / 2 ^ slot % 2 ≡ max (x % 2) (y % 2) =
      ap (λ (n : ℕ). n % 2) (or_shr a b slot ∙ or_step x y) ∙ digit (bit_or (x / 2) (y / 2)) (max_small (x % 2) (y % 2) (last-digit x) (last-digit y))
      in
      ap (λ (n : ℕ). eqb n 1) here ∙ or_digit (x % 2) (y % 2) (last-digit x) (last-digit y)

  pub set_and : is_set (bit_and a b) slot ≡ both (is_set a slot) (is_set b slot)
  unfolding is_set
  set_and =
      let x = a / 2 ^ slot in
      let y = b / 2 ^ slot in
      let here : bit_and a b / 2 ^ slot % 2 ≡ min (x % 2) (y % 2) =
      ap (λ (n : ℕ). n % 2) (and_shr a b slot ∙ and_step x y) ∙ digit (bit_and (x / 2) (y / 2)) (min_small (x % 2) (y % 2) (last-digit x) (last-digit y))
      in
      ap (λ (n : ℕ). eqb n 1) here ∙ and_digit (x % 2) (y % 2) (last-digit x) (last-digit y)

  set_xor : is_set b slot ≡ true → is_set (bit_xor a b) slot ≡ not (is_set a slot)
  unfolding is_set
  set_xor is =
      let x = a / 2 ^ slot in
      let y = b / 2 ^ slot in
      let here : bit_xor a b / 2 ^ slot % 2 ≡ differ (x % 2) (y % 2) =
      ap (λ (n : ℕ). n % 2) (xor_shr a b slot ∙ xor_step x y) ∙ digit (bit_xor (x / 2) (y / 2)) (differ_small (x % 2) (y % 2) (last-digit x) (last-digit y))
      in
      ap (λ (n : ℕ). eqb n 1) here ∙ xor_digit (x % 2) (y % 2) (last-digit x) (eqb-true (y % 2) 1 is)

-- ---- a run of slots

div-small : (n k : ℕ) → n < 2 ^ k → n / 2 ^ k ≡ 0
div-small n k l = ap (λ (x : ℕ). x / 2 ^ k) (plain (2 ^ k)) ∙ high 0 k l
  where
    plain : (p : ℕ) → n ≡ 0 * p + n
    plain p = omega arith

small-none : (n slot : ℕ) → n < 2 ^ slot → is_set n slot ≡ false
unfolding is_set
small-none n slot l = let nought : n / 2 ^ slot ≡ 0 = div-small n slot l in rw nought

-- slot by slot: the next slot's bit is this slot's of half the number
half-bit : (n slot : ℕ) → is_set n (suc slot) ≡ is_set (n / 2) slot
unfolding is_set
half-bit n slot = let next : suc slot ≡ 1 + slot = omega arith in rw next (ap (λ (x : ℕ). eqb (x % 2) 1) (sym (shr-shr n 1 slot)))

half-run : (first end : ℕ) → (2 ^ suc end - 2 ^ suc first) / 2 ≡ 2 ^ end - 2 ^ first
half-run first end = rw (pow-suc 2 end, pow-suc 2 first) (omega arith)

half-ones : (end : ℕ) → (2 ^ suc end - 2 ^ 0) / 2 ≡ 2 ^ end - 2 ^ 0
half-ones end = rw (pow-suc 2 end) (omega (arith, pow_pos end))

even-run : (first end : ℕ) → is_set (2 ^ suc end - 2 ^ suc first) 0 ≡ false
unfolding is_set
even-run first end =
    let even : (2 ^ suc end - 2 ^ suc first) / 2 ^ 0 % 2 ≡ 0 = rw (pow-suc 2 end, pow-suc 2 first) (omega arith) in rw even

odd_ones : (end : ℕ) → is_set (2 ^ suc end - 2 ^ 0) 0 ≡ true
unfolding is_set
odd_ones end = let odd : (2 ^ suc end - 2 ^ 0) / 2 ^ 0 % 2 ≡ 1 = rw (pow-suc 2 end) (omega (arith, pow_pos end)) in rw odd

run_early : (slot first end : ℕ) → slot < first → first ≤ end → is_set (2 ^ end - 2 ^ first) slot ≡ false
run_early slot zero end l m = absurd (omega arith)
run_early slot (suc first) zero l m = absurd (omega arith)
run_early zero (suc first) (suc end) l m = even-run first end
run_early (suc slot) (suc first) (suc end) l m =
    half-bit _ slot ∙ rw (half-run first end) (run_early slot first end (omega arith) (omega arith))

run_in : (slot first end : ℕ) → first ≤ slot → slot < end → is_set (2 ^ end - 2 ^ first) slot ≡ true
run_in slot first zero l m = absurd (omega arith)
run_in zero (suc first) (suc end) l m = absurd (omega arith)
run_in zero zero (suc end) l m = odd_ones end
run_in (suc slot) zero (suc end) l m = half-bit _ slot ∙ rw (half-ones end) (run_in slot zero end (omega arith) (omega arith))
run_in (suc slot) (suc first) (suc end) l m =
    half-bit _ slot ∙ rw (half-run first end) (run_in slot first end (omega arith) (omega arith))

run_late : (slot first end : ℕ) → end ≤ slot → is_set (2 ^ end - 2 ^ first) slot ≡ false
run_late slot first end l = small-none (2 ^ end - 2 ^ first) slot (omega (arith, pow_pos first, pow_pos end, pow_mono l))

pub run-bit : (first end slot : ℕ) → first ≤ end → is_set (2 ^ end - 2 ^ first) slot ≡ between first end slot
unfolding between
run-bit first end slot l =
    by_case (leb first slot)
    (λ e. by_case (ltb slot end)
    (λ m. run_in slot first end (leb-true first slot e) (ltb-true slot end m) ∙ sym (both_true e m))
    (λ m. run_late slot first end (ltb-false slot end m) ∙ sym (both_false_right _ m)))
    (λ e. run_early slot first end (leb-false first slot e) l ∙ sym (both_false_left _ e))

-- what is not in a mask
pub set_free : (a slot : ℕ) → slot < slots → is_set (bit_xor a 0xFFFFFFFFFFFFFFFF) slot ≡ not (is_set a slot)
set_free a slot l = set_xor a 0xFFFFFFFFFFFFFFFF slot (run_in slot 0 64 (omega arith) l)

pub set-none : (slot : ℕ) → is_set 0 slot ≡ false
set-none slot = small-none 0 slot (pow_pos slot)

pub set_first : is_set 1 0 ≡ true
unfolding is_set
set_first = refl

pow_two : (n : ℕ) → 0 < n → 2 ≤ 2 ^ n
pow_two zero l = absurd (omega arith)
pow_two (suc n) l = rw (pow-suc 2 n) (omega (arith, pow_pos n))

pub set-later : (slot : ℕ) → 0 < slot → is_set 1 slot ≡ false
set-later slot l = small-none 1 slot (omega (arith, pow_two slot l))

-- ---- the code's run of slots

pub one_shifted : (k : ℕ) → k < 64 → (1 * 2 ^ k) % 2 ^ 64 ≡ 2 ^ k
one_shifted k l = shl_exact 1 k 64 (omega arith) (omega arith) ∙ single (2 ^ k)
  where
    single : (p : ℕ) → 1 * p ≡ p
    single p = omega arith

-- a bit of a number is one of its low ones
pub low_bit : (n m slot : ℕ) → slot < n → is_set (m % 2 ^ n) slot ≡ is_set m slot
unfolding is_set
low_bit n m slot l =
    let up : n ≡ suc (n - slot - 1) + slot = omega arith in
    let here : m % 2 ^ n / 2 ^ slot ≡ m / 2 ^ slot % 2 ^ suc (n - slot - 1) =
    ap (λ (x : ℕ). m % 2 ^ x / 2 ^ slot) up ∙ field m (suc (n - slot - 1)) slot
    in
    ap (λ (x : ℕ). eqb x 1) (ap (λ (x : ℕ). x % 2) here ∙ last_bit (m / 2 ^ slot) (n - slot - 1))
  where
    last_bit : (q k : ℕ) → q % 2 ^ suc k % 2 ≡ q % 2
    last_bit q k = let next : suc k ≡ k + 1 = omega arith in rw next (mod-mod-pow q k 1)

pub run-from : {start long : ℕ} → start < slots → long ≤ longest_entry → Marks ((((1 * 2 ^ long) % 2 ^ 64 - 1) * 2 ^ start) % 2 ^ 64) (between start (start + long))
run-from {start} {long} first few =
    let end : long + start ≡ start + long = omega arith in
    record {
      each = λ slot l.
          rw (one_shifted long (omega arith))
          (low_bit 64 ((2 ^ long - 1) * 2 ^ start) slot l
          ∙ (ap (λ (n : ℕ). is_set n slot) (sym (high_ones long start))
          ∙ (run-bit start (long + start) slot (omega arith) ∙ ap (λ (n : ℕ). between start n slot) end)));
    }

-- one slot
pub one_bit : (k slot : ℕ) → is_set (2 ^ k) slot ≡ between k (k + 1) slot
one_bit k slot =
    let next : k + 1 ≡ suc k = omega arith in
    let whole : 2 ^ (k + 1) - 2 ^ k ≡ 2 ^ k = rw (next, pow-suc 2 k) (omega arith) in
    ap (λ (n : ℕ). is_set n slot) (sym whole) ∙ run-bit k (k + 1) slot (omega arith)

-- ---- whether a mask has a slot

some-low : (m n k : ℕ) → k ≤ n → some_below (is_set (m % 2 ^ n)) k ≡ some_below (is_set m) k
unfolding some_below
some-low m n zero l = refl
some-low m n (suc k) l = rw (some-low m n k (omega arith), low_bit n m k (omega arith))

pub some-set : (n m : ℕ) → m < 2 ^ n → some_below (is_set m) n ≡ not (eqb m 0)
unfolding some_below either
some-set zero m l = let none : m ≡ 0 = omega arith in rw none
some-set (suc n) m l =
    rw (← some-low m n n (omega arith), some-set n (m % 2 ^ n) (mod-lt m (pow_pos n)))
    (by_case (eqb (m % 2 ^ n) 0)
    (λ e. rw e (low (eqb-true (m % 2 ^ n) 0 e)))
    (λ e. rw e (sym (ap not (ne_eqb m 0 (λ z. eqb-false (m % 2 ^ n) 0 e (rw z (mod-eq_of_lt (pow_pos n)))))))))
  where
    top : (m ≡ 0 → ⊥) → m % 2 ^ n ≡ 0 → m / 2 ^ n ≡ 1
    top some e =
        let next : suc n ≡ 1 + n = omega arith in
        let few : m / 2 ^ n < 2 = shr_lt 1 n (rw next at l) in
        only (m / 2 ^ n) few (λ z. some (nought z))
      where
        nought : m / 2 ^ n ≡ 0 → m ≡ 0
        nought z = let whole : 0 * 2 ^ n + 0 ≡ m = rw (z, e) at (split m n) in omega (arith, whole)

        only : (q : ℕ) → q < 2 → (q ≡ 0 → ⊥) → q ≡ 1
        only q few other = omega arith

    low : m % 2 ^ n ≡ 0 → either false (is_set m n) ≡ not (eqb m 0)
    low e =
        unfold either is_set in
        by_case (eqb m 0)
        (λ z. rw z (let none : m ≡ 0 = eqb-true m 0 z in rw none (small-none 0 n (pow_pos n))))
        (λ z. rw (z, top (eqb-false m 0 z) e))

-- ---- the last slot

pub last_none : {mask : ℕ} → mask ≡ 0 → LastIs mask 0
last_none e = rw e (record { few = omega arith; here = λ l. absurd (omega arith); above = λ slot l m. set-none slot })

pub last-few : (mask : ℕ) → (mask ≡ 0 → ⊥) → mask < 2 ^ 64 → count_leading_zeros 64 mask ≤ 63
last-few mask some small = let top = leading_top 64 mask (omega arith) small in omega (arith, top.1)

pub last_top : (mask : ℕ) → (mask ≡ 0 → ⊥) → mask < 2 ^ 64 → LastIs mask (63 - count_leading_zeros 64 mask)
last_top mask some small =
    let top = leading_top 64 mask (omega arith) small in
    let is : 63 - count_leading_zeros 64 mask ≡ top.0 = omega (arith, top.1) in
    rw is
    (record {
      few = omega (arith, top.1);
      here = λ l. unfold is_set in ap (λ (n : ℕ). eqb (n % 2) 1) (highest top.0 top.2 top.3);
      above = λ slot l m. small-none mask slot (omega (arith, top.3, pow_mono l));
    })
  where
    highest : (j : ℕ) → 2 ^ j ≤ mask → mask < 2 ^ suc j → mask / 2 ^ j ≡ 1
    highest j least most =
        let below : mask - 2 ^ j < 2 ^ j = rest (rw (pow-suc 2 j) at most) in
        let parts : mask ≡ 1 * 2 ^ j + (mask - 2 ^ j) = omega arith in
        ap (λ (n : ℕ). n / 2 ^ j) parts ∙ high 1 j below
      where
        rest : mask < 2 ^ j * 2 → mask - 2 ^ j < 2 ^ j
        rest l = omega arith

-- ---- the first slot, and the mask without it

and_half : (a b : ℕ) → bit_and a b / 2 ≡ bit_and (a / 2) (b / 2)
and_half a b = and_shr a b 1

and_last : (a b : ℕ) → bit_and a b % 2 ≡ min (a % 2) (b % 2)
and_last a b =
    ap (λ (n : ℕ). n % 2) (and_step a b) ∙ digit (bit_and (a / 2) (b / 2)) (min_small (a % 2) (b % 2) (last-digit a) (last-digit b))

min_none : (n : ℕ) → min 0 n ≡ 0
min_none n = omega arith

first_bit : (n : ℕ) → is_set n 0 ≡ eqb (n % 2) 1
unfolding is_set
first_bit n = let whole : n / 1 ≡ n = omega arith in rw whole

-- t is the first slot of a mask
pub record FirstIs (mask t : ℕ) : Type 0 where
  pub here : is_set mask t ≡ true
  pub others : (slot : ℕ) → is_set (bit_and mask (mask - 1)) slot ≡ both (not (eqb slot t)) (is_set mask slot)

first_odd : (a : ℕ) → a % 2 ≡ 1 → FirstIs a 0
first_odd a odd = record { here = first_bit a ∙ ap (λ (n : ℕ). eqb n 1) odd; others = each }
  where
    before : (a - 1) / 2 ≡ a / 2
    before = omega arith

    even : (a - 1) % 2 ≡ 0
    even = omega arith

    each : (slot : ℕ) → is_set (bit_and a (a - 1)) slot ≡ both (not (eqb slot 0)) (is_set a slot)
    each zero = first_bit (bit_and a (a - 1)) ∙ (rw (and_last a (a - 1), odd, even) (unfold both in refl))
    each (suc slot) =
        half-bit (bit_and a (a - 1)) slot
        ∙ (ap (λ (n : ℕ). is_set n slot) (and_half a (a - 1) ∙ (ap (bit_and (a / 2)) before ∙ and_self (a / 2)))
        ∙ (sym (half-bit a slot) ∙ sym (both-next _ (ap not (ne_eqb (suc slot) 0 (λ e. omega (arith, e)))))))

same_next : (a b : ℕ) → eqb (suc a) (suc b) ≡ eqb a b
same_next a b =
    by_case (eqb a b)
    (λ e. eq-eqb (suc a) (suc b) (ap suc (eqb-true a b e)) ∙ sym e)
    (λ e. ne_eqb (suc a) (suc b) (λ q. eqb-false a b e (omega (arith, q))) ∙ sym e)

first-even : (a t : ℕ) → 0 < a → a % 2 ≡ 0 → FirstIs (a / 2) t → FirstIs a (suc t)
first-even a t some even rest = record { here = half-bit a t ∙ rest.here; others = each }
  where
    before : (a - 1) / 2 ≡ a / 2 - 1
    before = omega arith

    each : (slot : ℕ) → is_set (bit_and a (a - 1)) slot ≡ both (not (eqb slot (suc t))) (is_set a slot)
    each zero =
        first_bit (bit_and a (a - 1))
        ∙ (rw (and_last a (a - 1), even, min_none ((a - 1) % 2)) (sym (both_false_right (not (eqb 0 (suc t))) (first_bit a ∙ ap (λ (n : ℕ). eqb n 1) even))))
    each (suc slot) =
        half-bit (bit_and a (a - 1)) slot
        ∙ (ap (λ (n : ℕ). is_set n slot) (and_half a (a - 1) ∙ ap (bit_and (a / 2)) before)
        ∙ (rest.others slot ∙ rw (same_next slot t) (ap (both (not (eqb slot t))) (sym (half-bit a slot)))))

first_slot : (k a : ℕ) → 0 < a → a < 2 ^ k → FirstIs a (count_trailing_zeros k a) × (count_trailing_zeros k a < k)
unfolding count_trailing_zeros
first_slot zero a some small = absurd (omega arith)
first_slot (suc k) a some small =
    by_case (eqb (a % 2) 1)
    (λ e. let odd : a % 2 ≡ 1 = eqb-true (a % 2) 1 e in rw odd (first_odd a odd, omega arith))
    (λ e.
    let even : a % 2 ≡ 0 = other (eqb-false (a % 2) 1 e) in
    let rest = first_slot k (a / 2) (omega (arith, even)) (half_lt k small) in
    rw even (first-even a (count_trailing_zeros k (a / 2)) some even rest.0, omega (arith, rest.1)))
  where
    other : (a % 2 ≡ 1 → ⊥) → a % 2 ≡ 0
    other none = omega arith

    half_lt : (k : ℕ) → a < 2 ^ suc k → a / 2 < 2 ^ k
    half_lt k l = let twice : a < 2 ^ k * 2 = rw (pow-suc 2 k) at l in omega arith

pub first-of : (mask : ℕ) → (mask ≡ 0 → ⊥) → mask < 2 ^ 64 → FirstIs mask (count_trailing_zeros 64 mask) × (count_trailing_zeros 64 mask < 64)
first-of mask some small = first_slot 64 mask (omega arith) small
