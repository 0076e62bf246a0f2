-- The mark of a slave's physical name, and marks in an array.
use Rattle.std.specs.Prelude.{ℕ, ◌≡◌, List, Bool, length}
use Rattle.file.specs.Rules.Cluster.{Slave, physical_name}
use Rattle.file.specs.Inner.Marked.{Marked, remainder}

unfoldable pub remainder_of : Slave → ℕ
remainder_of s = remainder (physical_name s)

-- an array with room for so many marks has these
pub record MarksOf (room : ℕ) (seen : List Bool) (marks : List ℕ) : Type 0 where
  pub long : length seen ≡ room
  pub are : Marked seen marks
