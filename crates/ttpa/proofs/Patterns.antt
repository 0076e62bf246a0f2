-- What ttpa_pattern tells is the rule's own answer: a number of a class is told of that class alone, since a refusal is by 31.
-- Assumes nothing.
use Prim.Native.Nat.{ℕ, ◌<◌}
use mathlib.Core.Path.{◌≡◌, refl, sym, ap, ◌∙◌}
use mathlib.Core.Logic.{◌⊎◌, inl, inr, ◌↔◌}
use mathlib.Core.Bool.{cond, true}
use native.Mathlib.Omega.{arith}
use lib.Dec.{eqb}
use Rattle.file.specs.Rules.Results.{Result, refused, done, number_in}
use Rattle.file.specs.Rules.FileGrounds.{is_among}
use Rattle.line.specs.Claims.Classes.{the_eight}
use Rattle.line.specs.Rules.Patterns.{PatternClass, data_byte, firework, broken, class_of, pattern_on}
use Rattle.line.proofs.Table.{below}
use Rattle.line.proofs.Classes.{classes_by_bits, the-eight, above-is-refused}
use Rattle.line.proofs.Parity.{even-is-data, odd_by_round, fireworks_open_rounds}
use Rattle.line.proofs.Flips.{flipped_is-none, fireworks-apart}
use Rattle.ttpa.specs.Rules.Calls.{lent_after, class_number, pattern_call}
use Rattle.ttpa.specs.Claims.Patterns.{ToldByBits, PatternsTold, ParityTold, FlippedIsNotTold, ToldFireworksApart}

-- ---- the classes by their numbers

class_by_lem : ℕ → PatternClass
class_by_lem n = cond (eqb n 0) data_byte (cond (eqb n 1) firework broken)

class_back : (c : PatternClass) → class_by_lem (class_number c) ≡ c
unfolding class_by_lem class_number
class_back data_byte = refl
class_back firework = refl
class_back broken = refl

told-by :
    (r : Result PatternClass) (c : PatternClass) (kind : ℕ) → ((n : ℕ) → r ≡ refused n → n ≡ 31) →
    ◌≡◌ {A = ℕ × ℕ} (number_in r, lent_after r kind class_number) (0, class_number c) → r ≡ done c
unfolding number_in lent_after
told-by (refused n) c kind only e =
    let z : n ≡ 0 = ap (λ (x : ℕ × ℕ). x.0) e in absurd (omega (arith, only n refl, z))
told-by (done d) c kind only e =
    let same : class_number d ≡ class_number c = ap (λ (x : ℕ × ℕ). x.1) e in
    ap done (sym (class_back d) ∙ ap class_by_lem same ∙ class_back c)

-- ---- the call and the rule

told : (pattern kind : ℕ) (c : PatternClass) → pattern_call pattern kind ≡ (0, class_number c) → pattern_on pattern ≡ done c
unfolding pattern_call
told pattern kind c e = told-by (pattern_on pattern) c kind (above-is-refused.only pattern) e

tells : (pattern kind : ℕ) (c : PatternClass) → pattern_on pattern ≡ done c → pattern_call pattern kind ≡ (0, class_number c)
unfolding pattern_call number_in lent_after
tells pattern kind c e = rw e

told-above : (r : Result PatternClass) → number_in r ≡ 31 → r ≡ refused 31
unfolding number_in
told-above (refused n) e = ap refused e
told-above (done c) e = absurd (omega (arith, e))

one_told :
    (pattern kind : ℕ) (c : PatternClass) → pattern_on pattern ≡ done c →
    (pattern_call pattern kind ≡ (0, 0)) ⊎ ((pattern_call pattern kind ≡ (0, 1)) ⊎ (pattern_call pattern kind ≡ (0, 2)))
unfolding class_number
one_told pattern kind data_byte e = inl (tells pattern kind data_byte e)
one_told pattern kind firework e = inr (inl (tells pattern kind firework e))
one_told pattern kind broken e = inr (inr (tells pattern kind broken e))

-- ---- the claims

by_bits : (pattern kind : ℕ) → pattern < 512 → ToldByBits pattern kind
unfolding class_number
by_bits pattern kind few =
    let b = classes_by_bits pattern few in
    record {
      even = (λ h. b.even.0 (told pattern kind data_byte h), λ e. tells pattern kind data_byte (b.even.1 e));
      listed = (λ h. b.listed.0 (told pattern kind firework h), λ e. tells pattern kind firework (b.listed.1 e));
      other = (λ h. b.other.0 (told pattern kind broken h), λ e. tells pattern kind broken (b.other.1 e));
    }

refused-above : (pattern kind : ℕ) → 511 < pattern → (pattern_call pattern kind).0 ≡ 31
unfolding pattern_call number_in
refused-above pattern kind h = ap number_in ((above-is-refused.above pattern).1 h)

above-refused : (pattern kind : ℕ) → (pattern_call pattern kind).0 ≡ 31 → 511 < pattern
unfolding pattern_call
above-refused pattern kind e = (above-is-refused.above pattern).0 (told-above (pattern_on pattern) e)

eight-told : (pattern kind : ℕ) → (pattern_call pattern kind ≡ (0, 1)) ↔ (is_among pattern the_eight ≡ true)
unfolding class_number
eight-told pattern kind = (
  λ h. (the-eight pattern).0 (told pattern kind firework h),
  λ e. tells pattern kind firework ((the-eight pattern).1 e),
)

pub patterns_told : PatternsTold
patterns_told =
    record {
      bits = by_bits;
      one = λ pattern kind few. one_told pattern kind (class_of pattern) (sym (below pattern few));
      eight = eight-told;
      above = λ pattern kind. (above-refused pattern kind, refused-above pattern kind);
    }

pub parity-told : ParityTold
unfolding class_number
parity-told =
    record {
      even = λ byte kind few. tells _ kind data_byte (even-is-data byte few);
      opens = λ byte kind few some. tells _ kind firework (odd_by_round.opens byte few some);
      opens_none = λ byte kind few none. tells _ kind broken (odd_by_round.opens_none byte few none);
      of_round = λ pattern kind h. fireworks_open_rounds pattern (told pattern kind firework h);
    }

pub flipped_is-not-told : FlippedIsNotTold
unfolding class_number
flipped_is-not-told pattern flips kind again h few one three told-again =
    flipped_is-none pattern flips (told pattern kind firework h) few one three (told _ again firework told-again)

pub told-fireworks-apart : ToldFireworksApart
unfolding class_number
told-fireworks-apart p q kind again h i other = fireworks-apart p q (told p kind firework h) (told q again firework i) other
