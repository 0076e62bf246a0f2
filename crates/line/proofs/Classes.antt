-- The class of every pattern by its bits: the count of ones is the sum of the bits, and the list's bytes are those that open a round.
-- Assumes nothing.
use Rattle.std.proofs.Common.{ℕ, ◌%◌, ◌<◌, ◌≡◌, refl, sym, ap, ◌∙◌, subst, ◌≢◌, ◌⊎◌, inl, inr, Bool, true, false, cond, not, arith, eqb, ltb, eqb-true, ne_eqb, ltb-true, ltb-false}
use lib.Count.{ones_in}
use borrow.Author.Tests.{eqb-false}
use Rattle.file.specs.Rules.Order.{both, either}
use Rattle.file.specs.Rules.Results.{Result, done, refused}
use Rattle.file.specs.Rules.FileGrounds.{is_among}
use Rattle.file.proofs.Order.{by_case, clash}
use Rattle.frame.specs.Rules.Fireworks.{Round, multipartner, msd, msa, no_round, round_of, round_in}
use Rattle.line.specs.Rules.Patterns.{PatternClass, data_byte, firework, broken, ones, is_listed, class_of, pattern_on}
use Rattle.line.specs.Claims.Classes.{all_ones, ClassesByBits, the_eight, TheEight, OneOfThree, AboveIsRefused}
use Rattle.line.proofs.Computed.{all_below, at}
use Rattle.line.proofs.Table.{below, above}

-- ---- the count of ones

ones_are_bits : ℕ → Bool
ones_are_bits p = eqb (ones p) (all_ones p)

computed_ones : all_below 512 ones_are_bits ≡ true
unfolding all_below ones_are_bits ones ones_in both
computed_ones = refl

pub ones-are-bits : (p : ℕ) → p < 512 → ones p ≡ all_ones p
unfolding ones_are_bits
ones-are-bits p few = eqb-true (ones p) (all_ones p) (at 512 ones_are_bits computed_ones p few)

-- ---- the list

opens : Round → Bool
opens (multipartner r) = true
opens msd = true
opens msa = true
opens no_round = false

opens-some : (r : Round) → opens r ≡ true → r ≢ no_round
unfolding opens
opens-some r o e = clash o (ap opens e)

opens-none : (r : Round) → opens r ≡ false → r ≡ no_round
unfolding opens
opens-none (multipartner r) o = clash refl o
opens-none msd o = clash refl o
opens-none msa o = clash refl o
opens-none no_round o = refl

alike : Bool → Bool → Bool
alike a b = cond a b (not b)

alike_same : (a b : Bool) → alike a b ≡ true → a ≡ b
unfolding alike
alike_same true true t = refl
alike_same true false t = clash t refl
alike_same false true t = clash t refl
alike_same false false t = refl

listed_opens : ℕ → Bool
listed_opens byte = alike (is_listed byte) (opens (round_of byte))

computed_list : all_below 256 listed_opens ≡ true
unfolding all_below listed_opens alike opens is_listed is_among either round_of round_in both
computed_list = refl

listed-opens : (byte : ℕ) → byte < 256 → is_listed byte ≡ opens (round_of byte)
unfolding listed_opens
listed-opens byte few = alike_same (is_listed byte) (opens (round_of byte)) (at 256 listed_opens computed_list byte few)

-- ---- the three classes

pub data Sorted (p : ℕ) : PatternClass → Type 0 where
  even : all_ones p % 2 ≡ 0 → Sorted p data_byte
  listed : all_ones p % 2 ≡ 1 → round_of (p % 256) ≢ no_round → Sorted p firework
  other : all_ones p % 2 ≡ 1 → round_of (p % 256) ≡ no_round → Sorted p broken

byte-few : (p : ℕ) → p % 256 < 256
byte-few p = omega arith

odd : (n : ℕ) → (n % 2 ≡ 0 → ⊥) → n % 2 ≡ 1
odd n h = omega (arith, h)

not-both : {P : Type 0} {n : ℕ} → n ≡ 0 → n ≡ 1 → P
not-both zero one = let z : ◌≡◌ {A = ℕ} 0 1 = sym zero ∙ one in absurd (omega (arith, z))

pub sorted : (p : ℕ) → p < 512 → Sorted p (class_of p)
unfolding class_of
sorted p few =
    let same : ones p % 2 ≡ all_ones p % 2 = ap (λ (n : ℕ). n % 2) (ones-are-bits p few) in
    let list : is_listed (p % 256) ≡ opens (round_of (p % 256)) = listed-opens (p % 256) (byte-few p) in
    by_case (eqb (ones p % 2) 0)
    (λ t. rw t (even (sym same ∙ eqb-true (ones p % 2) 0 t)))
    (λ t.
    let one : all_ones p % 2 ≡ 1 = odd (all_ones p) (λ e. eqb-false (ones p % 2) 0 t (same ∙ e)) in
    by_case (is_listed (p % 256))
    (λ u. rw (t, u) (listed one (opens-some (round_of (p % 256)) (sym list ∙ u))))
    (λ u. rw (t, u) (other one (opens-none (round_of (p % 256)) (sym list ∙ u)))))

-- a class by what is known of the pattern
pub is-data : {p : ℕ} {c : PatternClass} → Sorted p c → all_ones p % 2 ≡ 0 → c ≡ data_byte
is-data (even e) h = refl
is-data (listed e r) h = not-both h e
is-data (other e r) h = not-both h e

pub is-firework : {p : ℕ} {c : PatternClass} → Sorted p c → all_ones p % 2 ≡ 1 → round_of (p % 256) ≢ no_round → c ≡ firework
is-firework (even e) h s = not-both e h
is-firework (listed e r) h s = refl
is-firework (other e r) h s = absurd (s r)

pub is-broken : {p : ℕ} {c : PatternClass} → Sorted p c → all_ones p % 2 ≡ 1 → round_of (p % 256) ≡ no_round → c ≡ broken
is-broken (even e) h s = not-both e h
is-broken (listed e r) h s = absurd (r s)
is-broken (other e r) h s = refl

-- what is known of a pattern by its class
data-even : {p : ℕ} → Sorted p data_byte → all_ones p % 2 ≡ 0
data-even (even e) = e

firework-listed : {p : ℕ} → Sorted p firework → (all_ones p % 2 ≡ 1) × (round_of (p % 256) ≢ no_round)
firework-listed (listed e r) = (e, r)

broken-other : {p : ℕ} → Sorted p broken → (all_ones p % 2 ≡ 1) × (round_of (p % 256) ≡ no_round)
broken-other (other e r) = (e, r)

-- ---- the answer

value : Result PatternClass → PatternClass
value (refused n) = broken
value (done c) = c

is_done : Result PatternClass → Bool
is_done (refused n) = false
is_done (done c) = true

-- what is read is a pattern below 512 of that class
pub read-few : (p : ℕ) {c : PatternClass} → pattern_on p ≡ done c → p < 512
unfolding is_done
read-few p h =
    by_case (ltb 511 p)
    (λ t. clash (ap is_done (above p (ltb-true 511 p t) ∙ h)) refl)
    (λ t. omega (arith, ltb-false 511 p t))

pub read_class : (p : ℕ) {c : PatternClass} → pattern_on p ≡ done c → class_of p ≡ c
unfolding value
read_class p h = ap value (below p (read-few p h) ∙ h)

pub read_sorted : (p : ℕ) {c : PatternClass} → pattern_on p ≡ done c → Sorted p c
read_sorted p h = subst (Sorted p) (read_class p h) (sorted p (read-few p h))

-- a pattern below 512 is read as its class
pub reads : (p : ℕ) {c : PatternClass} → p < 512 → class_of p ≡ c → pattern_on p ≡ done c
reads p few e = sym (below p few) ∙ ap done e

pub classes_by_bits : ClassesByBits
classes_by_bits p few =
    record {
      even = (λ h. data-even (read_sorted p h), λ e. reads p few (is-data (sorted p few) e));
      listed = (λ h. firework-listed (read_sorted p h), λ e. reads p few (is-firework (sorted p few) e.0 e.1));
      other = (λ h. broken-other (read_sorted p h), λ e. reads p few (is-broken (sorted p few) e.0 e.1));
    }

-- ---- the eight fireworks

is_firework : PatternClass → Bool
is_firework data_byte = false
is_firework firework = true
is_firework broken = false

firework-is : (c : PatternClass) → is_firework c ≡ true → c ≡ firework
unfolding is_firework
firework-is data_byte e = clash e refl
firework-is firework e = refl
firework-is broken e = clash e refl

is_of_eight : ℕ → Bool
is_of_eight p = alike (is_firework (class_of p)) (is_among p the_eight)

computed_eight : all_below 512 is_of_eight ≡ true
unfolding all_below is_of_eight alike is_firework class_of ones ones_in is_listed is_among either both
computed_eight = refl

of_eight : (p : ℕ) → p < 512 → is_firework (class_of p) ≡ is_among p the_eight
unfolding is_of_eight
of_eight p few = alike_same (is_firework (class_of p)) (is_among p the_eight) (at 512 is_of_eight computed_eight p few)

none_above : (p : ℕ) → 511 < p → is_among p the_eight ≡ false
unfolding is_among either
none_above p h =
    let apart : (n : ℕ) → n < 512 → eqb p n ≡ false = λ n few. ne_eqb p n (λ e. omega (arith, e)) in
    rw (
      apart 0x178 (omega arith),
      apart 0x049 (omega arith),
      apart 0x0BA (omega arith),
      apart 0x18B (omega arith),
      apart 0x064 (omega arith),
      apart 0x155 (omega arith),
      apart 0x1A6 (omega arith),
      apart 0x097 (omega arith),
    )

pub the-eight : TheEight
unfolding is_firework
the-eight p = (
  λ h. sym (of_eight p (read-few p h)) ∙ ap is_firework (read_class p h),
  λ e.
      by_case (ltb 511 p)
      (λ t. clash e (none_above p (ltb-true 511 p t)))
      (λ t.
      let few : p < 512 = omega (arith, ltb-false 511 p t) in
      reads p few (firework-is (class_of p) (of_eight p few ∙ e))),
)

one_of :
    (p : ℕ) (c : PatternClass) → pattern_on p ≡ done c →
    (pattern_on p ≡ done data_byte) ⊎ ((pattern_on p ≡ done firework) ⊎ (pattern_on p ≡ done broken))
one_of p data_byte e = inl e
one_of p firework e = inr (inl e)
one_of p broken e = inr (inr e)

number : Result PatternClass → ℕ
number (refused n) = 3
number (done data_byte) = 0
number (done firework) = 1
number (done broken) = 2

pub one_of_three : OneOfThree
unfolding number
one_of_three =
    record {
      one = λ p few. one_of p (class_of p) (sym (below p few));
      data_or_firework = λ p d f. let z : ◌≡◌ {A = ℕ} 0 1 = ap number (sym d ∙ f) in omega (arith, z);
      data_or_broken = λ p d b. let z : ◌≡◌ {A = ℕ} 0 2 = ap number (sym d ∙ b) in omega (arith, z);
      firework_or_broken = λ p f b. let z : ◌≡◌ {A = ℕ} 1 2 = ap number (sym f ∙ b) in omega (arith, z);
    }

reason : Result PatternClass → ℕ
reason (refused n) = n
reason (done c) = 0

refused_by : (p n : ℕ) → pattern_on p ≡ refused n → n ≡ 31
unfolding reason is_done
refused_by p n h =
    by_case (ltb 511 p)
    (λ t. sym (ap reason (above p (ltb-true 511 p t) ∙ h)))
    (λ t. clash refl (ap is_done (below p (omega (arith, ltb-false 511 p t)) ∙ h)))

pub above-is-refused : AboveIsRefused
unfolding reason
above-is-refused =
    record {
      above =
          λ p. (
            λ h.
                by_case (ltb 511 p) (λ t. ltb-true 511 p t)
                (λ t. let z : ◌≡◌ {A = ℕ} 0 31 = ap reason (below p (omega (arith, ltb-false 511 p t)) ∙ h) in absurd (omega (arith, z))),
            λ h. sym (above p h),
          );
      only = λ p n h. refused_by p n h;
    }
