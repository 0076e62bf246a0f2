-- One test of every number below a bound, which antt computes, and what it says of each.
-- Assumes nothing.
use Rattle.std.proofs.Common.{ℕ, zero, suc, ◌<◌, ◌≡◌, Bool, true, ⊎_elim, eq-or-lt_of_le, le_of_suc-le-suc, not-suc-le-zero}
use Rattle.file.specs.Rules.Order.{both}
use Rattle.file.proofs.Order.{both_left, both_right}

unfoldable pub all_below : ℕ → (ℕ → Bool) → Bool
all_below zero test = true
all_below (suc n) test = both (test n) (all_below n test)

pub at : (n : ℕ) (test : ℕ → Bool) → all_below n test ≡ true → (k : ℕ) → k < n → test k ≡ true
unfolding all_below
at zero test t k h = absurd (not-suc-le-zero h)
at (suc n) test t k h =
    ⊎_elim
    (λ e. rw e (both_left (test n) (all_below n test) t))
    (λ l. at n test (both_right (test n) (all_below n test) t) k l)
    (eq-or-lt_of_le (le_of_suc-le-suc h))
