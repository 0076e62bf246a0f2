-- A byte with its parity bit, by tests of every byte and every pattern that antt computes.
-- Assumes nothing.
use Rattle.std.proofs.Common.{ℕ, ◌+◌, ◌%◌, ◌<◌, ◌≡◌, refl, sym, ap, ◌∙◌, Bool, true, cond, arith, eqb, eq-eqb, eqb-true}
use Rattle.file.specs.Rules.Order.{both}
use Rattle.file.proofs.Order.{both_left, both_right}
use Rattle.frame.specs.Rules.Fireworks.{round_of}
use Rattle.line.specs.Rules.Patterns.{firework}
use Rattle.line.specs.Claims.Classes.{byte_ones, all_ones}
use Rattle.line.specs.Claims.Parity.{pattern_by, even_parity, odd_parity, EvenIsData, OddByRound, OfRound, FireworksOpenRounds}
use Rattle.line.proofs.Computed.{all_below, at}
use Rattle.line.proofs.Classes.{Sorted, listed, sorted, is-data, is-firework, is-broken, read-few, read_sorted, reads}

-- ---- the ones of a byte with its parity bit

parities : ℕ → Bool
parities byte =
    both (eqb (all_ones (pattern_by byte (even_parity byte)) % 2) 0) (eqb (all_ones (pattern_by byte (odd_parity byte)) % 2) 1)

computed_parities : all_below 256 parities ≡ true
unfolding all_below parities both
computed_parities = refl

module _ (byte : ℕ) (few : byte < 256) where
  parity_test : parities byte ≡ true
  parity_test = at 256 parities computed_parities byte few

  even-count : all_ones (pattern_by byte (even_parity byte)) % 2 ≡ 0
  unfolding parities
  even-count = eqb-true _ _ (both_left _ _ parity_test)

  odd_count : all_ones (pattern_by byte (odd_parity byte)) % 2 ≡ 1
  unfolding parities
  odd_count = eqb-true _ _ (both_right _ _ parity_test)

-- ---- the pattern made of a byte and a bit

made-few : (byte n : ℕ) → byte < 256 → pattern_by byte (n % 2) < 512
made-few byte n few = omega arith

made-byte : (byte n : ℕ) → byte < 256 → pattern_by byte (n % 2) % 256 ≡ byte
made-byte byte n few = omega arith

pub even-is-data : EvenIsData
even-is-data byte few =
    let there = made-few byte (byte_ones byte) few in
    let p = pattern_by byte (even_parity byte) in
    reads p there (is-data (sorted p there) (even-count byte few))

pub odd_by_round : OddByRound
odd_by_round =
    record {
      opens =
          λ byte few some.
          let there = made-few byte (byte_ones byte + 1) few in
          let p = pattern_by byte (odd_parity byte) in
          let same = made-byte byte (byte_ones byte + 1) few in
          reads p there (is-firework (sorted p there) (odd_count byte few) (λ e. some (ap round_of (sym same) ∙ e)));
      opens_none =
          λ byte few none.
          let there = made-few byte (byte_ones byte + 1) few in
          let p = pattern_by byte (odd_parity byte) in
          let same = made-byte byte (byte_ones byte + 1) few in
          reads p there (is-broken (sorted p there) (odd_count byte few) (ap round_of same ∙ none));
    }

-- ---- the pattern taken apart

taken_apart : ℕ → Bool
taken_apart p = cond (eqb (all_ones p % 2) 1) (eqb p (pattern_by (p % 256) (odd_parity (p % 256)))) true

computed_apart : all_below 512 taken_apart ≡ true
unfolding all_below taken_apart both
computed_apart = refl

odd_apart : (p : ℕ) → p < 512 → all_ones p % 2 ≡ 1 → p ≡ pattern_by (p % 256) (odd_parity (p % 256))
unfolding taken_apart
odd_apart p few one =
    let t : taken_apart p ≡ true = at 512 taken_apart computed_apart p few in
    eqb-true _ _ (rw (eq-eqb (all_ones p % 2) 1 one) at t)

of-round : {p : ℕ} → p < 512 → Sorted p firework → OfRound p
of-round {p} few (listed e r) = record { round = r; parity = odd_apart p few e }

pub fireworks_open_rounds : FireworksOpenRounds
fireworks_open_rounds p h = of-round (read-few p h) (read_sorted p h)
