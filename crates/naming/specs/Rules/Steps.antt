-- Up to so many steps of a naming run on a file, one after another, after one check (document 01, "The naming run": it "moves one complete
-- master-slave round a step").
use Rattle.std.specs.Prelude.{ℕ, zero, suc, List, Bool, true, false, cond, not, eqb}
use Rattle.file.specs.Rules.Order.{both}
use Rattle.file.specs.Rules.Results.{Result, refused, done}
use Rattle.naming.specs.Rules.Position.{Position}
use Rattle.naming.specs.Rules.Step.{StepDone, ended, made, step_ground, step_on}

-- whether a step made its round, and the mask of its data frame
unfoldable pub is_made_lem : Result StepDone → Bool
is_made_lem (refused n) = false
is_made_lem (done ended) = false
is_made_lem (done (made mask)) = true

unfoldable pub mask_in : Result StepDone → ℕ
mask_in (refused n) = 0
mask_in (done ended) = 0
mask_in (done (made mask)) = mask

-- steps under way: how many made their round, the mask of the last one's data frame, 0 where none did, and what they left
pub record Progress : Type 0 where
  pub made : ℕ
  pub senders : ℕ
  pub run : Position
  pub buffer : List ℕ
  pub file : List ℕ

unfoldable pub begun : List ℕ → Position → List ℕ → Progress
begun file p buffer = record { made = 0; senders = 0; run = p; buffer = buffer; file = file }

-- the step that is next, and the steps with it
unfoldable pub next_step : List ℕ → Progress → Result StepDone × Position × List ℕ × List ℕ
next_step names t = step_on t.file t.run names t.buffer

unfoldable pub with_step : Progress → Result StepDone × Position × List ℕ × List ℕ → Progress
with_step t s = record { made = suc t.made; senders = mask_in s.0; run = s.1; buffer = s.2; file = s.3 }

-- up to k more: they stop before one that is refused, at the end of the run, and where a position is to be stopped at
unfoldable pub steps_from : (Position → Bool) → List ℕ → ℕ → Progress → Progress
steps_from stops_at names zero t = t
steps_from stops_at names (suc k) t =
    let rest = steps_from stops_at names k (with_step t (next_step names t)) in
    cond (both (not (stops_at t.run)) (is_made_lem (next_step names t).0)) rest t

-- no position is
abbrev pub nowhere : Position → Bool
nowhere p = false

-- how many steps made their round, and the mask of the last one's data frame
pub data StepsDone : Type 0 where
  steps : ℕ → ℕ → StepsDone

-- the whole: the grounds of a step, asked once; answer, position, buffer and file
unfoldable pub steps_on : ℕ → List ℕ → Position → List ℕ → List ℕ → Result StepsDone × Position × List ℕ × List ℕ
steps_on k file p names buffer =
    let reason = step_ground file p names buffer in
    let t = steps_from nowhere names k (begun file p buffer) in
    cond (eqb reason 0) (done (steps t.made t.senders), t.run, t.buffer, t.file) (refused reason, p, buffer, file)
