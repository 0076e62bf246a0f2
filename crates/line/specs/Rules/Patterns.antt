-- Nine-bit patterns of the line (document 02, job 14: "Nine-bit line patterns").
use Rattle.std.specs.Prelude.{ℕ, ◌%◌, [], ◌∷◌, map, Bool, cond, eqb, ltb}
use Rattle.std.specs.Int.Count.{ones_in}
use Rattle.file.specs.Rules.Order.{first_of}
use Rattle.file.specs.Rules.Results.{Result, result_of}
use Rattle.file.specs.Rules.FileGrounds.{is_among}
use Rattle.frame.specs.Rules.Fireworks.{Round, fireworks}

-- "data byte (even count of ones), a firework (odd count and in the list), or broken"
pub data PatternClass : Type 0 where
  data_byte firework broken : PatternClass

-- the ones of a pattern, the parity bit among them: "The line monitor hands over nine bits, the byte in bits 7 to 0 and the parity bit in
-- bit 8."
unfoldable pub ones : ℕ → ℕ
ones pattern = ones_in 9 pattern

-- "in the list": that of document 01
unfoldable pub is_listed : ℕ → Bool
is_listed byte = is_among byte (map (λ (e : ℕ × Round). e.0) fireworks)

-- "Each of the 512 patterns has an entry: data byte (even count of ones), a firework (odd count and in the list), or broken."
unfoldable pub class_of : ℕ → PatternClass
class_of pattern = cond (eqb (ones pattern % 2) 0) data_byte (cond (is_listed (pattern % 256)) firework broken)

-- "New numbers: 31, a pattern above 511, checked first."
unfoldable pub pattern_ground : ℕ → ℕ
pattern_ground pattern = first_of ((31, ltb 511 pattern) ∷ [])

unfoldable pub pattern_on : ℕ → Result PatternClass
pattern_on pattern = result_of (pattern_ground pattern) (class_of pattern)
