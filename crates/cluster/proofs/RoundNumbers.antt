-- The numbers of multipartner rounds: below 0x10, so that no receive stores in a round file.
-- Assumes nothing.
use Prim.Native.Nat.{ℕ, ◌<◌}
use native.Mathlib.Omega.{arith}
use mathlib.Core.Path.{◌≡◌}
use mathlib.Core.List.{List}
use lib.Dec.{eqb}
use Rattle.file.specs.Rules.Bytes.{All, all_empty, all_next}
use Rattle.file.proofs.Order.{by_case}
use Rattle.frame.specs.Rules.Fireworks.{Round, multipartner, msd, msa, fireworks, round_in, round_of}

data Low : Round → Type 0 where
  numbered : {n : ℕ} → n < 0x10 → Low (multipartner n)
  data-part : Low msd
  address-part : Low msa
  no-round : Low Round.no_round

round-low : (b : ℕ) {l : List (ℕ × Round)} → All (λ (e : ℕ × Round). Low e.1) l → Low (round_in l b)
unfolding round_in
round-low b all_empty = no-round
round-low b (all_next {a = e} p r) = by_case (eqb b e.0) (λ t. rw t p) (λ t. rw t (round-low b r))

all-low : All (λ (e : ℕ × Round). Low e.1) fireworks
all-low =
    all_next (numbered {n = 0} (omega arith)) (all_next data-part (all_next (numbered {n = 2} (omega arith)) (all_next (numbered {n = 3} (omega arith))
    (all_next (numbered {n = 4} (omega arith)) (all_next address-part (all_next (numbered {n = 6} (omega arith)) (all_next (numbered {n = 7} (omega arith)) all_empty)))))))

low-number : {n : ℕ} → Low (multipartner n) → n < 0x10
low-number (numbered h) = h

pub multipartner-low : (b : ℕ) {n : ℕ} → round_of b ≡ multipartner n → n < 0x10
unfolding round_of
multipartner-low b is = low-number (rw is at (round-low b all-low))
