-- "No firework pattern with one to three of its nine bits flipped is read as a firework." (document 02, job 14)
use Rattle.std.specs.Prelude.{ℕ, ◌+◌, ◌%◌, ◌≤◌, ◌<◌, ◌≡◌, ◌≢◌}
use Rattle.std.specs.Int.Bits.{bit_xor}
use Rattle.file.specs.Rules.Results.{done}
use Rattle.line.specs.Rules.Patterns.{firework, pattern_on}
use Rattle.line.specs.Claims.Classes.{bit, all_ones}

-- the bits to be flipped as a number of nine bits, one to three of them 1
abbrev pub FlippedIsNone : Type 0
FlippedIsNone =
    (pattern flips : ℕ) → pattern_on pattern ≡ done firework → flips < 512 → 1 ≤ all_ones flips → all_ones flips ≤ 3 →
    pattern_on (bit_xor pattern flips) ≢ done firework

-- the same with the bits alone: how many of the nine are not those of another pattern, and two firework patterns differ in four or more
abbrev pub differing : ℕ → ℕ → ℕ
differing p q =
    (bit p 0 + bit q 0) % 2 + (bit p 1 + bit q 1) % 2 + (bit p 2 + bit q 2) % 2 + (bit p 3 + bit q 3) % 2 + (bit p 4 + bit q 4) % 2 +
    (bit p 5 + bit q 5) % 2 + (bit p 6 + bit q 6) % 2 + (bit p 7 + bit q 7) % 2 + (bit p 8 + bit q 8) % 2

abbrev pub FireworksApart : Type 0
FireworksApart = (p q : ℕ) → pattern_on p ≡ done firework → pattern_on q ≡ done firework → p ≢ q → 4 ≤ differing p q
