-- A row of the code's table: the entries of 32 patterns, two bits each, the first in the lowest.
use Rattle.std.specs.Prelude.{ℕ, ◌*◌, ◌/◌, ◌%◌, ◌^◌, ◌≡◌}
use Rattle.line.specs.Rules.Patterns.{PatternClass, data_byte, firework, broken, class_of}

-- a class as an entry; no two are the same
unfoldable pub entry_of : PatternClass → ℕ
entry_of data_byte = 0
entry_of firework = 1
entry_of broken = 2

-- the entry of a pattern in its row
abbrev pub entry_in : ℕ → ℕ → ℕ
entry_in word pattern = word / 2 ^ (2 * (pattern % 32)) % 4

-- each pattern of a row has the entry of its class
pub record RowByRule (row word : ℕ) : Type 0 where
  pub entries : (pattern : ℕ) → pattern / 32 ≡ row → entry_in word pattern ≡ entry_of (class_of pattern)
