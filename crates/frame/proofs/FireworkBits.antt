-- The round worked out from a byte's bits is that of document 01's list.
-- Assumes nothing.
use Prim.Native.Nat.{ℕ, ◌+◌, ◌*◌, ◌/◌, ◌%◌, ◌<◌}
use mathlib.Core.Path.{◌≡◌, refl, ap, ◌∙◌}
use mathlib.Core.List.{List}
use native.Mathlib.Omega.{arith}
use lib.Dec.{eqb}
use borrow.Author.Count.{below_none, below_more}
use borrow.Author.Tests.{eq-eqb, ne_eqb, eqb-true, eqb-false}
use Rattle.file.specs.Rules.Bytes.{All, all_empty, all_next}
use Rattle.file.proofs.Order.{by_case}
use Rattle.frame.specs.Rules.Fireworks.{Round, multipartner, msd, msa, no_round, fireworks, round_of, round_in}
use Rattle.frame.specs.Inner.FireworkBits.{high_bits, round_numbered, round_by_bits}

-- bits 7 to 3 are those that bits 2 to 0 ask for
abbrev HasHighBits : ℕ → Type 0
HasHighBits byte = byte / 8 ≡ high_bits (byte % 8)

-- each of the eight numbers with such bits opens its round
abbrev Opens : ℕ → Type 0
Opens n = round_numbered n ≡ round_of (8 * high_bits n + n)

eight_open : (n : ℕ) → n < 8 → Opens n
unfolding high_bits round_numbered round_of round_in
eight_open =
    below_more Opens 7 (below_more Opens 6 (below_more Opens 5 (below_more Opens 4 (below_more Opens 3 (below_more Opens 2
    (below_more Opens 1 (below_more Opens 0 (below_none Opens) refl) refl) refl) refl) refl) refl) refl) refl

firework-opens : (byte : ℕ) → HasHighBits byte → round_numbered (byte % 8) ≡ round_of byte
firework-opens byte has =
    let same : 8 * high_bits (byte % 8) + byte % 8 ≡ byte = omega arith in
    eight_open (byte % 8) (omega arith) ∙ ap round_of same

-- and each of the list has them
list-has : All (λ (e : ℕ × Round). HasHighBits e.0) fireworks
unfolding high_bits
list-has = all_next refl (all_next refl (all_next refl (all_next refl (all_next refl (all_next refl (all_next refl (all_next refl all_empty)))))))

other-opens-none : {es : List (ℕ × Round)} → All (λ (e : ℕ × Round). HasHighBits e.0) es → (byte : ℕ) → (HasHighBits byte → ⊥) → no_round ≡ round_in es byte
unfolding round_in
other-opens-none all_empty byte other = refl
other-opens-none (all_next {a = e} has rest) byte other =
    rw (ne_eqb byte e.0 (λ same. other (rw same has))) (other-opens-none rest byte other)

-- the agreement, for each of the 256 bytes and for every other number
pub by_bits : (byte : ℕ) → round_by_bits byte ≡ round_of byte
unfolding round_by_bits round_of
by_bits byte =
    by_case (eqb (byte / 8) (high_bits (byte % 8)))
    (λ yes. rw yes (firework-opens byte (eqb-true _ _ yes)))
    (λ no. rw no (other-opens-none list-has byte (eqb-false _ _ no)))

-- The four ways in which the code ends. The high bits that it compares are a value of its own, with their equation.
module _ (byte : ℕ) {high : ℕ} (made : high ≡ high_bits (byte % 8)) where
  pub opens-none : (byte / 8 ≡ high → ⊥) → no_round ≡ round_of byte
  unfolding round_by_bits
  opens-none other = simp (← made, ne_eqb (byte / 8) high other) at (by_bits byte)

  module _ (same : byte / 8 ≡ high) where
    opens_numbered : round_numbered (byte % 8) ≡ round_of byte
    unfolding round_by_bits
    opens_numbered = simp (← made, eq-eqb (byte / 8) high same) at (by_bits byte)

    pub opens-data : byte % 8 ≡ 1 → msd ≡ round_of byte
    unfolding round_numbered
    opens-data n = rw n at opens_numbered

    pub opens-address : byte % 8 ≡ 5 → msa ≡ round_of byte
    unfolding round_numbered
    opens-address n = rw n at opens_numbered

    pub opens-multipartner : (byte % 8 ≡ 1 → ⊥) → (byte % 8 ≡ 5 → ⊥) → multipartner (byte % 8) ≡ round_of byte
    unfolding round_numbered
    opens-multipartner a b = simp (ne_eqb (byte % 8) 1 a, ne_eqb (byte % 8) 5 b) at opens_numbered
