-- A naming step given a summary: one law for each way. Given one that matches, it is the step without it, and the summary behind it.
-- Assumes nothing.
use Prim.Native.Nat.{ℕ}
use native.Mathlib.Omega.{arith}
use mathlib.Core.Path.{◌≡◌, refl, sym, ap, ◌∙◌}
use mathlib.Core.Logic.{◌≢◌}
use mathlib.Core.List.{List}
use mathlib.Core.Bool.{Bool, true, false}
use lib.Dec.{eqb}
use borrow.Author.Tests.{eqb-true, eqb-false}
use Rattle.file.specs.Rules.Results.{Result, refused, done}
use Rattle.file.specs.Rules.Cluster.{logical_names}
use Rattle.file.specs.Rules.Decode.{decode}
use Rattle.file.specs.Inner.Surveyed.{Surveyed}
use Rattle.file.specs.declared.types.Refusal.{Refusal}
use Rattle.file.proofs.Order.{by_case}
use Rattle.file.proofs.Surveyed.{survey-accepted, survey-refused}
use Rattle.cluster.specs.Rules.Summary.{kept, wrong_summary, kept_for}
use Rattle.cluster.specs.Claims.Renaming.{names_of}
use Rattle.cluster.specs.Claims.Summary.{Matches}
use Rattle.cluster.proofs.SummaryLaws.{right_matches, given_wrong}
use Rattle.naming.specs.Rules.Position.{Position, running}
use Rattle.naming.specs.Rules.Step.{StepDone, step_ground, step_on, step_keeping_ground, step_keeping}
use Rattle.naming.proofs.StepLaws.{step-refused, step-ended, step-made}
use Rattle.naming.proofs.StepKeeping.{file-step, matched_step, step-keeping-refused, step-keeping-accepted}
use Rattle.summary.specs.Inner.Kept.{names_put, slice_after, is_refused, StepKept}
use Rattle.summary.proofs.RoundLaws.{slice_carried, slice-refused}
use Rattle.file.specs.Inner.Refusals.{Answered, refusal_number, outcome_of}
use Rattle.std.specs.Prelude.{Ok, Err, Option, Some, None}
use Rattle.naming.specs.Inner.StepAnswers.{stepped_of}
use Rattle.naming.specs.declared.run.MadeStep.{MadeStep}

abbrev StepTold : Type 0
StepTold = Result StepDone × Position × List ℕ × List ℕ

-- the slice behind a step, by its answer
slice-same : {A : Type 0} (answer : Result A) (file slice : List ℕ) → is_refused answer ≡ true → slice ≡ slice_after answer file slice
unfolding is_refused slice_after
slice-same (refused n) file slice e = refl
slice-same (done a) file slice e = cc

slice-new : {A : Type 0} (answer : Result A) (file slice : List ℕ) → is_refused answer ≡ false → names_put file slice ≡ slice_after answer file slice
unfolding is_refused slice_after
slice-new (refused n) file slice e = cc
slice-new (done a) file slice e = refl

-- which of the code's answers are refused: its errors, and none of its steps
module _ {a : Answered (Option MadeStep)} where
  pub answer_refused : {why : Refusal} → a ≡ Err why → is_refused (stepped_of a) ≡ true
  unfolding stepped_of is_refused
  answer_refused e = rw e

  pub answer_done : {step : Option MadeStep} → a ≡ Ok step → is_refused (stepped_of a) ≡ false
  unfolding stepped_of is_refused
  answer_done {step = None} e = rw e
  answer_done {step = Some made} e = rw e

module _
    (file : List ℕ) (p : Position) (names buffer slice : List ℕ) {answer : Result StepDone} {p' : Position} {buffer' file' : List ℕ}
    (is : (answer, p', buffer', file') ≡ step_on file p names buffer) {t : Bool} (test : t ≡ is_refused answer) where
  pub slice-turned : t ≡ true → StepKept file p names buffer slice answer p' buffer' file' slice
  slice-turned e = record { step = is; put = slice-same answer file' slice (sym test ∙ e) }

  pub slice-put : t ≡ false → {slice' : List ℕ} → slice' ≡ names_put file' slice → StepKept file p names buffer slice answer p' buffer' file' slice'
  slice-put e put = record { step = is; put = put ∙ slice-new answer file' slice (sym test ∙ e) }

module _ (file : List ℕ) (p : Position) (names buffer slice : List ℕ) (count : ℕ) where
  turned : {n : ℕ} → step_keeping_ground file p names (kept count slice) buffer ≡ n → n ≢ 0 → (refused n, p, buffer, file, kept count slice) ≡ step_keeping file p names (kept count slice) buffer
  turned here some = sym (step-keeping-refused file p names (kept count slice) buffer (λ z. some (sym here ∙ z)) ∙ rw here)

  -- the slice of a step that no ground refuses, made or ended
  slice-stepped :
      {answer : Result StepDone} (file' : List ℕ) → answer ≡ (step_on file p names buffer).0 → step_ground file p names buffer ≡ 0 →
      kept count (slice_after answer file' slice) ≡ kept_for (kept count slice) (names_of file')
  slice-stepped file' is none =
      by_case (eqb p.end running)
      (λ t. slice_carried count file' slice (is ∙ ap (λ (r : StepTold). r.0) (step-made file p names buffer none (eqb-true _ _ t))))
      (λ f. slice_carried count file' slice (is ∙ ap (λ (r : StepTold). r.0) (step-ended file p names buffer none (eqb-false _ _ f))))

  module _ {a : Answered (Unit {0})} {places : List ℕ} (s : Surveyed file (outcome_of a) places) where
    pub stepping_refused : {why : Refusal} → a ≡ Err why → (refused (refusal_number why), p, buffer, file, kept count slice) ≡ step_keeping file p names (kept count slice) buffer
    stepping_refused {why} e =
        let (is, some) = survey-refused s e in
        turned (file-step file p names (kept count slice) buffer (λ z. some (is ∙ z)) ∙ sym is) some

    module _ {u : Unit {0}} (accepted : a ≡ Ok u) {t : Bool} (test : t ≡ wrong_summary (kept count slice) (logical_names (decode file))) where
      pub stepping_wrong : t ≡ true → (refused 24, p, buffer, file, kept count slice) ≡ step_keeping file p names (kept count slice) buffer
      unfolding step_keeping_ground
      stepping_wrong e = turned (given_wrong file _ _ (survey-accepted s accepted) (sym test ∙ e)) (λ z. omega arith)

      module _ (right : t ≡ false) where
        matched : Matches file (kept count slice)
        matched = right_matches file (kept count slice) (sym test ∙ right)

        ground_same : step_keeping_ground file p names (kept count slice) buffer ≡ step_ground file p names buffer
        ground_same = matched_step file p names (kept count slice) buffer matched

        -- the step without the summary, and the slice behind it
        same_step : {answer : Result StepDone} {p' : Position} {buffer' file' : List ℕ} → (answer, p', buffer', file') ≡ step_on file p names buffer →
            (answer, p', buffer', file', kept count (slice_after answer file' slice)) ≡ step_keeping file p names (kept count slice) buffer
        same_step {answer} {p'} {buffer'} {file'} is =
            by_case (eqb (step_ground file p names buffer) 0)
            (λ e.
            let none : step_ground file p names buffer ≡ 0 = eqb-true _ _ e in
            rw (slice-stepped file' (ap (λ (r : StepTold). r.0) is) none, step-keeping-accepted file p names (kept count slice) buffer (ground_same ∙ none), ← is))
            (λ e.
            let some : step_ground file p names buffer ≢ 0 = eqb-false _ _ e in
            let told : ◌≡◌ {A = StepTold} (answer, p', buffer', file') (refused (step_ground file p names buffer), p, buffer, file) = is ∙ step-refused file p names buffer some in
            rw (slice-refused file' slice (ap (λ (r : StepTold). r.0) told))
            (ap (λ (r : StepTold). (r.0, r.1, r.2, r.3, kept count slice)) told ∙ turned ground_same some))

        pub stepping-kept :
            {answer : Result StepDone} {p' : Position} {buffer' file' slice' : List ℕ} → StepKept file p names buffer slice answer p' buffer' file' slice' →
            (answer, p', buffer', file', kept count slice') ≡ step_keeping file p names (kept count slice) buffer
        stepping-kept k = rw k.put (same_step k.step)
