-- Up to k steps after one check are k steps one after another, each with a check of its own: what they leave, how many made their round, and
-- why they stop early. A step that is refused and one of an ended run alter nothing (document 01), so k steps one after another may be
-- taken whole.
use Rattle.std.specs.Prelude.{ℕ, zero, suc, ◌^◌, ◌≤◌, ◌<◌, ◌≡◌, ◌≢◌, ◌⊎◌, List, true}
use Rattle.file.specs.Rules.Bytes.{Bytes}
use Rattle.file.specs.Rules.Results.{Result, refused, done}
use Rattle.naming.specs.Rules.Position.{Position}
use Rattle.naming.specs.Rules.Pass.{bits}
use Rattle.naming.specs.Rules.Step.{StepDone, ended, made, step_ground, step_on}
use Rattle.naming.specs.Rules.Steps.{is_made_lem, steps, steps_on}

-- k steps one after another, refused or not: position, buffer and file
unfoldable pub each_step : List ℕ → ℕ → List ℕ → Position → List ℕ → Position × List ℕ × List ℕ
each_step names zero file p buffer = (p, buffer, file)
each_step names (suc k) file p buffer = let s = step_on file p names buffer in each_step names k s.3 s.1 s.2

-- the answer of the one after i of them
unfoldable pub answer_after : List ℕ → ℕ → List ℕ → Position → List ℕ → Result StepDone
answer_after names i file p buffer = let t = each_step names i file p buffer in (step_on t.2 t.0 names t.1).0

-- up to k steps are k steps one after another: what they leave, refused or not
abbrev pub StepsInARow : Type 0
StepsInARow =
    (k : ℕ) (file : List ℕ) (p : Position) (names buffer : List ℕ) →
    ((steps_on k file p names buffer).1, (steps_on k file p names buffer).2, (steps_on k file p names buffer).3) ≡ each_step names k file p buffer

-- refused by the number that a step is refused by, whatever k
abbrev pub StepsRefused : Type 0
StepsRefused =
    (k : ℕ) (file : List ℕ) (p : Position) (names buffer : List ℕ) → step_ground file p names buffer ≢ 0 →
    steps_on k file p names buffer ≡ (refused (step_ground file p names buffer), p, buffer, file)

-- a number of steps is answered
pub record NumberAnswered (k : ℕ) (file : List ℕ) (p : Position) (names buffer : List ℕ) : Type 0 where
  pub n : ℕ
  pub mask : ℕ
  pub is : (steps_on k file p names buffer).0 ≡ done (steps n mask)

-- that is where no ground of a step holds, whatever k, and nowhere else
abbrev pub StepsAnswered : Type 0
StepsAnswered =
    (k : ℕ) (file : List ℕ) (p : Position) (names buffer : List ℕ) →
    (step_ground file p names buffer ≡ 0 → NumberAnswered k file p names buffer) × (NumberAnswered k file p names buffer → step_ground file p names buffer ≡ 0)

-- the number in the answer: that many of the steps one after another made their round, the last with that mask, and no other
pub record Told (k : ℕ) (file : List ℕ) (p : Position) (names buffer : List ℕ) (n mask : ℕ) : Type 0 where
  pub most : n ≤ k
  pub each : (i : ℕ) → i < n → is_made_lem (answer_after names i file p buffer) ≡ true
  pub last : (i : ℕ) → suc i ≡ n → answer_after names i file p buffer ≡ done (made mask)
  pub none : n ≡ 0 → mask ≡ 0
  pub stops : n < k → is_made_lem (answer_after names n file p buffer) ≡ true → ⊥

abbrev pub StepsTold : Type 0
StepsTold =
    (k : ℕ) (file : List ℕ) (p : Position) (names buffer : List ℕ) (n mask : ℕ) → (steps_on k file p names buffer).0 ≡ done (steps n mask) →
    Told k file p names buffer n mask

-- this leaves one number and one mask
abbrev pub NoOtherTold : Type 0
NoOtherTold =
    (k : ℕ) (file : List ℕ) (p : Position) (names buffer : List ℕ) (n mask : ℕ) → step_ground file p names buffer ≡ 0 →
    Told k file p names buffer n mask → (steps_on k file p names buffer).0 ≡ done (steps n mask)

-- where they are fewer, the next step is refused by 17, in mid-run too, or the run has ended
abbrev pub StopsBy17 : Type 0
StopsBy17 =
    (k : ℕ) (file : List ℕ) (p : Position) (names buffer : List ℕ) (n mask : ℕ) → Bytes file → Bytes names → p.place.value < 2 ^ bits →
    (steps_on k file p names buffer).0 ≡ done (steps n mask) → n < k →
    (answer_after names n file p buffer ≡ refused 17) ⊎ (answer_after names n file p buffer ≡ done ended)

-- and the first step of which that is so is where they stop, if not before
abbrev pub StopsAtFirst : Type 0
StopsAtFirst =
    (k : ℕ) (file : List ℕ) (p : Position) (names buffer : List ℕ) (n mask i : ℕ) → (steps_on k file p names buffer).0 ≡ done (steps n mask) →
    (answer_after names i file p buffer ≡ refused 17) ⊎ (answer_after names i file p buffer ≡ done ended) → n ≤ i
