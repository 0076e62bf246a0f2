-- What the checker promises to the layers above beside its answer.
use Rattle.std.specs.Prelude.{◌≡◌, ℕ, List}
use Rattle.file.specs.Rules.Results.{Result, done, result_of}
use Rattle.file.specs.Rules.FileGrounds.{file_ground}
use Rattle.file.specs.Inner.Accepted.{Placed}

-- The answer is that of the file's ground. Where the file is accepted, the places are those of its slaves. Free are the places of a
-- file that is refused, and what the list holds after those of the last slave: no caller reads them.
pub record Surveyed (f : List ℕ) (answer : Result (Unit {0})) (places : List ℕ) : Type 0 where
  pub is : answer ≡ result_of (file_ground f) tt
  pub placed : answer ≡ done tt → Placed f places
