-- A list written out is one of bytes, by a test.
-- Assumes nothing.
use Rattle.std.proofs.Common.{ℕ, ◌≡◌, List, [], ◌∷◌, Bool, true, ltb, ltb-true}
use Rattle.file.specs.Rules.Order.{both}
use Rattle.file.specs.Rules.Bytes.{Bytes, All.all_empty, All.all_next as also}
use Rattle.file.proofs.Order.{both_left, both_right}

unfoldable pub all_below : List ℕ → Bool
all_below [] = true
all_below (b ∷ bs) = both (ltb b 256) (all_below bs)

pub bytes_below : (l : List ℕ) → all_below l ≡ true → Bytes l
unfolding all_below
bytes_below [] e = all_empty
bytes_below (b ∷ bs) e = also {a = b} (ltb-true b 256 (both_left _ _ e)) (bytes_below bs (both_right _ _ e))
