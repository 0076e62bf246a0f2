-- A naming step on a file of an unknown edition, also one given a summary: as in the file's own claim, no offset of it is followed.
use Rattle.std.specs.Prelude.{ℕ, ◌≡◌, List, length, take}
use Rattle.file.specs.Rules.Results.{Result}
use Rattle.file.specs.Claims.Edition.{NoEdition}
use Rattle.naming.specs.Rules.Position.{Position}
use Rattle.cluster.specs.Rules.Summary.{Summary}
use Rattle.naming.specs.Rules.Step.{StepDone, step_on, step_keeping}

-- answer, position and buffer are the same
pub record Alike (x y : Result StepDone × Position × List ℕ × List ℕ) : Type 0 where
  pub answer : x.0 ≡ y.0
  pub position : x.1 ≡ y.1
  pub buffer : x.2 ≡ y.2

-- for two files of one length and the same first three bytes, the last of them no edition
abbrev pub UnknownEditionStep : Type 0
UnknownEditionStep =
    (f g : List ℕ) (p : Position) (names buffer : List ℕ) → length f ≡ length g → take 3 f ≡ take 3 g → NoEdition f →
    Alike (step_on f p names buffer) (step_on g p names buffer)

-- of a step given a summary, the summary too
pub record KeepingAlike (x y : Result StepDone × Position × List ℕ × List ℕ × Summary) : Type 0 where
  pub answer : x.0 ≡ y.0
  pub position : x.1 ≡ y.1
  pub buffer : x.2 ≡ y.2
  pub summary : x.4 ≡ y.4

abbrev pub UnknownEditionStepKeeping : Type 0
UnknownEditionStepKeeping =
    (f g : List ℕ) (p : Position) (names : List ℕ) (summary : Summary) (buffer : List ℕ) → length f ≡ length g → take 3 f ≡ take 3 g →
    NoEdition f → KeepingAlike (step_keeping f p names summary buffer) (step_keeping g p names summary buffer)
