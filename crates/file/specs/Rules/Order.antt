-- Grounds in their order (document 01, "Grounds for turning something away": "Checked in this order"), and the two ways of joining
-- tests.
use Rattle.std.specs.Prelude.{ℕ, List, [], ◌∷◌, Bool, true, false, cond}

-- a ground: its number, and whether it holds
abbrev pub Ground : Type 0
Ground = ℕ × Bool

-- "Checked in this order, each only by calls that take the thing it mentions.": each call has its own list, and its answer is the
-- number of the first ground that holds, 0 where none does. So of a refusal: "it occurs on its stated ground and on no other".
-- "A tester that turns every file away breaks this section, since each ground is stated both ways."
unfoldable pub first_of : List Ground → ℕ
first_of [] = 0
first_of (g ∷ gs) = cond g.1 g.0 (first_of gs)

-- both tests pass; one of the two passes. (The library's `&&` and `||` open wherever they stand; these stay shut, so that a proof
-- reads a test by its laws.)
unfoldable pub both : Bool → Bool → Bool
both a b = cond a b false

unfoldable pub either : Bool → Bool → Bool
either a b = cond a true b
