-- What the inner functions of the keeping calls promise: the call without its summary, and the slice behind it.
use Rattle.std.specs.Prelude.{ℕ, ◌≡◌, List, ◌++◌, Bool, true, false, drop}
use Rattle.file.specs.Rules.Results.{Result, refused, done}
use Rattle.file.specs.Rules.Cluster.{logical_names}
use Rattle.file.specs.Rules.Decode.{decode}
use Rattle.file.specs.Inner.Accepted.{slave_count}
use Rattle.cluster.specs.Rules.Round.{Answer, round_on}
use Rattle.naming.specs.Rules.Position.{Position}
use Rattle.naming.specs.Rules.Step.{StepDone, step_on}

-- a file's names in front of whatever else a slice holds
unfoldable pub names_put : List ℕ → List ℕ → List ℕ
names_put file slice = logical_names (decode file) ++ drop (slave_count file) slice

-- the slice after a call, by its answer and the file it left
unfoldable pub slice_after : {A : Type 0} → Result A → List ℕ → List ℕ → List ℕ
slice_after (refused n) file slice = slice
slice_after (done a) file slice = names_put file slice

unfoldable pub is_refused : {A : Type 0} → Result A → Bool
is_refused (refused n) = true
is_refused (done a) = false

pub record RoundKept (file frame buffer slice : List ℕ) (answer : Answer) (buffer' file' slice' : List ℕ) : Type 0 where
  pub round : (answer, buffer', file') ≡ round_on file frame buffer
  pub names : slice' ≡ slice_after answer file' slice

pub record StepKept (file : List ℕ) (p : Position) (names buffer slice : List ℕ) (answer : Result StepDone) (p' : Position) (buffer' file' slice' : List ℕ) : Type 0 where
  pub step : (answer, p', buffer', file') ≡ step_on file p names buffer
  pub put : slice' ≡ slice_after answer file' slice
