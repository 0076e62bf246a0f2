-- Marks for what was seen, a test for each mark.
use Rattle.std.specs.Prelude.{ℕ, ◌%◌, ◌<◌, ◌≡◌, List, Bool, false, length, get_or}
use Rattle.file.specs.Rules.FileGrounds.{is_among}

-- a mark is seen exactly where it is among the marks
pub record Marked (seen : List Bool) (marks : List ℕ) : Type 0 where
  pub are : (m : ℕ) → m < length seen → get_or seen m false ≡ is_among m marks

-- the mark of a physical name: equal names have equal remainders
abbrev pub remainder : ℕ → ℕ
remainder n = n % 256
