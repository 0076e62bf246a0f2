-- The returns of a step's code: what its tests on the way say, and what the step then is.
-- Assumes nothing.
use Prim.Native.Nat.{ℕ, ◌≤◌, ◌<◌}
use mathlib.Core.Path.{◌≡◌, sym, ◌∙◌}
use mathlib.Core.List.{List}
use borrow.Author.Tests.{eq-eqb, ne_eqb}
use lib.ListN.{length}
use Rattle.file.specs.Rules.Order.{first_of}
use Rattle.file.specs.Rules.Results.{Result, refused, done}
use Rattle.file.specs.Inner.Accepted.{Placed}
use Rattle.file.specs.Inner.Surveyed.{Surveyed}
use Rattle.file.specs.declared.types.Refusal.{Refusal}
use Rattle.file.proofs.Surveyed.{survey-refused}
use Rattle.master_slave.specs.Rules.Bus.{slots}
use Rattle.cluster.proofs.Rounds.{file_decides, buffer_decides, others_decide}
use Rattle.naming.specs.Rules.Position.{Position, running}
use Rattle.naming.specs.Rules.RunGrounds.{run_grounds}
use Rattle.naming.specs.Rules.Step.{StepDone, ended, step_ground, step_made, step_on}
use Rattle.naming.specs.Inner.StepAnswers.{StepGoes}
use Rattle.naming.proofs.StepLaws.{step-refused}
use Rattle.file.specs.Inner.Refusals.{Answered, refusal_number, outcome_of}
use Rattle.std.specs.Prelude.{Err}

-- what no ground but the file's refuses, of a running position
pub step_ready : {names buffer : List ℕ} {p : Position} {g : ℕ} → slots ≤ length buffer → g ≡ first_of (run_grounds names p) → g ≡ 0 → p.end ≡ running → StepGoes names p buffer
step_ready long is fits runs = record { long = long; accepted = sym is ∙ fits; runs = runs }

module _ (f : List ℕ) (p : Position) (names buffer : List ℕ) {a : Answered (Unit {0})} {places : List ℕ} (s : Surveyed f (outcome_of a) places) where
  pub step-turned : {w : Refusal} → a ≡ Err w → (refused (refusal_number w), p, buffer, f) ≡ step_on f p names buffer
  unfolding step_ground
  step-turned {w} e =
      let by = survey-refused s e in
      let here = file_decides f buffer (run_grounds names p) (λ z. by.1 (by.0 ∙ z)) in
      sym (step-refused f p names buffer (λ z. by.1 (by.0 ∙ sym here ∙ z)) ∙ rw (here, by.0))

module _ (f : List ℕ) (p : Position) (names buffer : List ℕ) {places : List ℕ} (placed : Placed f places) where
  pub step-short : length buffer < slots → (refused 9, p, buffer, f) ≡ step_on f p names buffer
  unfolding step_on step_ground
  step-short h = rw (buffer_decides f buffer (run_grounds names p) placed.file.accepted h)

  module _ (long : slots ≤ length buffer) {g : ℕ} (is : g ≡ first_of (run_grounds names p)) where
    ground_is : step_ground f p names buffer ≡ g
    unfolding step_ground
    ground_is = others_decide f buffer (run_grounds names p) placed.file.accepted long ∙ sym is

    pub step_unfit : (g ≡ 0 → ⊥) → (refused g, p, buffer, f) ≡ step_on f p names buffer
    unfolding step_on
    step_unfit n = rw (ground_is, ne_eqb g 0 n)

    module _ (fits : g ≡ 0) where
      pub step_over : (p.end ≡ running → ⊥) → (done ended, p, buffer, f) ≡ step_on f p names buffer
      unfolding step_on
      step_over n = rw (ground_is, eq-eqb g 0 fits, ne_eqb p.end running n)

      pub step_goes : {r : Result StepDone × Position × List ℕ × List ℕ} → p.end ≡ running → r ≡ step_made f p names buffer → r ≡ step_on f p names buffer
      unfolding step_on
      step_goes runs h = h ∙ rw (ground_is, eq-eqb g 0 fits, eq-eqb p.end running runs)
