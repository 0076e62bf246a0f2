-- Several steps after one check: where they stop, one more, and that no step of a pass is stopped at where none is named.
-- Assumes nothing.
use Prim.Native.Nat.{ℕ, zero, suc, ◌+◌, ◌-◌, ◌^◌, ◌≤◌, ◌<◌}
use mathlib.Core.Path.{◌≡◌, refl, sym, ap, ◌∙◌}
use mathlib.Core.List.{List}
use mathlib.Core.Bool.{Bool, true, false, not}
use native.Mathlib.Omega.{arith}
use native.Mathlib.Numerals.{add-one}
use borrow.Author.Tests.{eq-eqb, ne_eqb, eqb-true, eqb-false}
use lib.ListN.{length}
use lib.Dec.{eqb}
use Rattle.file.specs.Rules.Bytes.{Bytes}
use Rattle.file.specs.Rules.Order.{first_of, both, either}
use Rattle.file.specs.Rules.Results.{Result, refused, done}
use Rattle.file.specs.Rules.FileGrounds.{file_ground}
use Rattle.file.specs.Inner.Accepted.{Placed}
use Rattle.file.specs.Inner.Surveyed.{Surveyed}
use Rattle.file.specs.declared.types.Refusal.{Refusal}
use Rattle.file.proofs.Surveyed.{survey-accepted, survey-refused}
use Rattle.file.proofs.Order.{by_case, clash, both_false_left, both_false_right, either_false, either_false_left, either_false_right}
use Rattle.master_slave.specs.Rules.Bus.{slots}
use Rattle.cluster.proofs.Rounds.{file_decides, buffer_decides, others_decide, none-holds}
use Rattle.naming.specs.Rules.Position.{Position, running}
use Rattle.naming.specs.Rules.Pass.{bits, last_step}
use Rattle.naming.specs.Rules.RunGrounds.{unfit_position, start_ground, run_grounds}
use Rattle.naming.specs.Rules.Step.{StepDone, made, step_ground, step_made, step_on}
use Rattle.naming.specs.Rules.Steps.{is_made_lem, mask_in, Progress, begun, next_step, with_step, steps_from, nowhere, StepsDone, steps, steps_on}
use Rattle.naming.specs.Inner.StepAnswers.{position_of, StepGoes}
use Rattle.naming.specs.Inner.Steps.{stands_at_lem, steps_end, StepsMade}
use Rattle.naming.specs.declared.steps.MadeSteps.{MadeSteps}
use Rattle.naming.proofs.RunLaws.{runs, run-names, run_unfit, run_fits}
use Rattle.naming.proofs.StepLaws.{step-refused, step-ended}
use Rattle.naming.proofs.StepCode.{step_goes}
use Rattle.naming.proofs.Moves.{step-moved}
use Rattle.file.specs.Inner.Refusals.{Answered, refusal_number, outcome_of}
use Rattle.std.specs.Prelude.{Ok, Err}

-- ---- whether no other step is made

module _ (names : List ℕ) (until : ℕ) (p : Position) where
  pub end-here : p.place.step ≡ until → true ≡ steps_end names until p
  unfolding steps_end either
  end-here e = rw (eq-eqb p.place.step until e)

  pub end_over : (p.place.step ≡ until → ⊥) → (p.end ≡ running → ⊥) → true ≡ steps_end names until p
  unfolding steps_end either
  end_over n m = rw (ne_eqb p.place.step until n, ne_eqb p.end running m)

  pub end_unfit : (p.place.step ≡ until → ⊥) → p.end ≡ running → {t : Bool} → t ≡ unfit_position names p → t ≡ steps_end names until p
  unfolding steps_end either
  end_unfit n e is = is ∙ rw (ne_eqb p.place.step until n, eq-eqb p.end running e)

not-false : (b : Bool) → not b ≡ false → b ≡ true
not-false true e = refl
not-false false e = cc

-- a step that is made has no ground, and its run goes on
module _ (names : List ℕ) (t : Progress) where
  pub record Makes : Type 0 where
    pub none : step_ground t.file t.run names t.buffer ≡ 0
    pub runs : t.run.end ≡ running

  pub made_makes : is_made_lem (next_step names t).0 ≡ true → Makes
  unfolding next_step
  made_makes e =
      by_case (eqb (step_ground t.file t.run names t.buffer) 0)
      (λ g.
      let none = eqb-true _ _ g in
      by_case (eqb t.run.end running)
      (λ r. record { none = none; runs = eqb-true _ _ r })
      (λ r. clash e (ap (λ (s : Result StepDone × Position × List ℕ × List ℕ). is_made_lem s.0) (step-ended t.file t.run names t.buffer none (eqb-false _ _ r)) ∙ unfold is_made_lem in refl)))
      (λ g. clash e (ap (λ (s : Result StepDone × Position × List ℕ × List ℕ). is_made_lem s.0) (step-refused t.file t.run names t.buffer (eqb-false _ _ g)) ∙ unfold is_made_lem in refl))

-- ---- on an accepted file, with a buffer that is long enough and an accepted list

module _ (names : List ℕ) (until : ℕ) (t : Progress) (good : file_ground t.file ≡ 0) (long : slots ≤ length t.buffer) (list : start_ground names ≡ 0) where
  fits : unfit_position names t.run ≡ false → 0 ≡ first_of (run_grounds names t.run)
  fits f = run_fits names t.run (sym list) refl refl f

  pub end_goes : steps_end names until t.run ≡ false → StepGoes names t.run t.buffer
  unfolding steps_end
  end_goes e =
      let rest = either_false_right (eqb t.run.place.step until) _ e in
      record {
        long = long;
        accepted = sym (fits (either_false_right (not (eqb t.run.end running)) _ rest));
        runs = eqb-true _ _ (not-false _ (either_false_left _ (unfit_position names t.run) rest));
      }

  -- where no other is made
  stopped : steps_end names until t.run ≡ true → both (not (eqb t.run.place.step until)) (is_made_lem (next_step names t).0) ≡ false
  unfolding steps_end
  stopped e =
      by_case (is_made_lem (next_step names t).0)
      (λ m.
      let makes = made_makes names t m in
      let none : first_of (run_grounds names t.run) ≡ 0 = sym (others_decide t.file t.buffer (run_grounds names t.run) good long) ∙ unfold step_ground in makes.none in
      both_false_left _
      (by_case (eqb t.run.place.step until)
      (λ here. rw here)
      (λ other.
      by_case (unfit_position names t.run)
      (λ u. absurd (let z : 17 ≡ 0 = run_unfit names t.run (sym list) refl refl u ∙ none in omega arith))
      (λ u. clash e (either_false other (either_false (ap not (eq-eqb t.run.end running makes.runs)) u))))))
      (λ m. both_false_right _ m)

  pub until_stops : steps_end names until t.run ≡ true → (k : ℕ) → t ≡ steps_from (stands_at_lem until) names k t
  unfolding steps_from
  until_stops e zero = refl
  until_stops e (suc k) = sym (rw (stopped e))

-- one more
until-next :
    (names : List ℕ) (until k : ℕ) (t : Progress) {s : Result StepDone × Position × List ℕ × List ℕ} → s ≡ next_step names t → is_made_lem s.0 ≡ true →
    (t.run.place.step ≡ until → ⊥) → steps_from (stands_at_lem until) names (suc k) t ≡ steps_from (stands_at_lem until) names k (with_step t s)
unfolding steps_from both
until-next names until k t is m n = rw (ne_eqb t.run.place.step until n, ← is, m)

-- ---- what the loop keeps: those that are left, of the steps so far, are all of them from the start

pub record Stepping (names : List ℕ) (until most : ℕ) (places : List ℕ) (start now : Progress) : Type 0 where
  pub placed : Placed now.file places
  pub long : slots ≤ length now.buffer
  pub list : start_ground names ≡ 0
  pub few : now.made ≤ most
  pub left : steps_from (stands_at_lem until) names (most - now.made) now ≡ steps_from (stands_at_lem until) names most start

pub stepping-start :
    (names : List ℕ) (until most : ℕ) {places : List ℕ} (file : List ℕ) (p : Position) (buffer : List ℕ) → Placed file places → slots ≤ length buffer →
    start_ground names ≡ 0 → Stepping names until most places (begun file p buffer) (begun file p buffer)
unfolding begun
stepping-start names until most file p buffer placed long list =
    let all : most - 0 ≡ most = omega arith in
    record { placed = placed; long = long; list = list; few = omega arith; left = rw all }

module _ {names : List ℕ} {until most : ℕ} {places : List ℕ} {start now : Progress} (h : Stepping names until most places start now) {t : Bool} (test : t ≡ steps_end names until now.run) where
  pub stepping_goes : t ≡ false → StepGoes names now.run now.buffer
  stepping_goes e = end_goes names until now h.placed.file.accepted h.long h.list (sym test ∙ e)

  pub stepping_stop : t ≡ true → now ≡ steps_from (stands_at_lem until) names most start
  stepping_stop e = until_stops names until now h.placed.file.accepted h.long h.list (sym test ∙ e) (most - now.made) ∙ h.left

  module _
      (e : t ≡ false) (more : now.made < most) {mask : ℕ} {q : Position} {buffer file : List ℕ}
      (is : (done (made mask), q, buffer, file) ≡ step_made now.file now.run names now.buffer) where
    comes : (done (made mask), q, buffer, file) ≡ step_on now.file now.run names now.buffer
    comes = let goes = stepping_goes e in step_goes now.file now.run names now.buffer h.placed h.long (sym goes.accepted) refl goes.runs is

    other : now.run.place.step ≡ until → ⊥
    other here = clash (test ∙ sym (end-here names until now.run here)) e

    left-next :
        {m : ℕ} → m ≡ suc now.made →
        steps_from (stands_at_lem until) names (most - m) (record { made = m; senders = mask; run = q; buffer = buffer; file = file }) ≡ steps_from (stands_at_lem until) names most start
    unfolding with_step next_step mask_in is_made_lem
    left-next e =
        let one : most - now.made ≡ suc (most - suc now.made) = omega arith in
        rw e (sym (until-next names until (most - suc now.made) now comes refl other) ∙ rw one at h.left)

    pub stepping-next :
        Bytes names → now.run.place.value < 2 ^ bits → slots ≤ length buffer →
        Stepping names until most places start (record { made = now.made + 1; senders = mask; run = q; buffer = buffer; file = file })
    stepping-next bytes small long =
        record {
          placed = (step-moved now.run now.buffer h.placed bytes small comes).placed;
          long = long;
          list = h.list;
          few = omega arith;
          left = left-next (add-one now.made);
        }

pub stepping-done :
    {names : List ℕ} {until most : ℕ} {places : List ℕ} {start now : Progress} → Stepping names until most places start now → most ≤ now.made →
    now ≡ steps_from (stands_at_lem until) names most start
unfolding steps_from
stepping-done {most = most} {now = now} h over =
    let none : most - now.made ≡ 0 = omega arith in
    rw none at h.left

-- ---- with no step of a pass to stop at, they are the steps of the rules

pub until_none : (names : List ℕ) (until k : ℕ) (t : Progress) → last_step < until → steps_from (stands_at_lem until) names k t ≡ steps_from nowhere names k t
unfolding steps_from both
until_none names until zero t h = refl
until_none names until (suc k) t h =
    by_case (is_made_lem (next_step names t).0)
    (λ m.
    let makes = made_makes names t m in
    let none = none-holds t.file t.buffer (run_grounds names t.run) (unfold step_ground in makes.none) in
    let place = (runs none.rest makes.runs).goes.counts.place in
    rw (m, ne_eqb t.run.place.step until (λ z. omega arith)) (until_none names until k (with_step t (next_step names t)) h))
    (λ m. rw (m, both_false_right (not (eqb t.run.place.step until)) {b = false} refl))

-- ---- the returns of the code

module _ (k : ℕ) (file : List ℕ) (p : Position) (names buffer : List ℕ) where
  pub steps-refused : {n : ℕ} → step_ground file p names buffer ≡ n → (n ≡ 0 → ⊥) → (refused n, p, buffer, file) ≡ steps_on k file p names buffer
  unfolding steps_on
  steps-refused {n} is some = rw (is, ne_eqb n 0 some)

  pub steps-made : step_ground file p names buffer ≡ 0 → steps_on k file p names buffer ≡ (
    done (steps (steps_from nowhere names k (begun file p buffer)).made (steps_from nowhere names k (begun file p buffer)).senders),
    (steps_from nowhere names k (begun file p buffer)).run,
    (steps_from nowhere names k (begun file p buffer)).buffer,
    (steps_from nowhere names k (begun file p buffer)).file,
  )
  unfolding steps_on
  steps-made none = rw none

pub names-accepted : (names : List ℕ) (p : Position) {g : ℕ} → g ≡ first_of (run_grounds names p) → g ≡ 0 → start_ground names ≡ 0
names-accepted names p is none =
    by_case (eqb (start_ground names) 0)
    (λ e. eqb-true _ _ e)
    (λ e. run-names names p refl (eqb-false _ _ e) ∙ sym is ∙ none)

told : Progress → Result StepsDone × Position × List ℕ × List ℕ
told t = (done (steps t.made t.senders), t.run, t.buffer, t.file)

module _ (k : ℕ) (f : List ℕ) (p : Position) (names buffer : List ℕ) {a : Answered (Unit {0})} {places : List ℕ} (s : Surveyed f (outcome_of a) places) where
  pub steps-turned : {w : Refusal} → a ≡ Err w → (refused (refusal_number w), p, buffer, f) ≡ steps_on k f p names buffer
  unfolding step_ground
  steps-turned e =
      let by = survey-refused s e in
      steps-refused k f p names buffer (file_decides f buffer (run_grounds names p) (λ z. by.1 (by.0 ∙ z)) ∙ sym by.0) by.1

  module _ {u : Unit {0}} (accepted : a ≡ Ok u) where
    pub steps-short : length buffer < slots → (refused 9, p, buffer, f) ≡ steps_on k f p names buffer
    unfolding step_ground
    steps-short h = steps-refused k f p names buffer (buffer_decides f buffer (run_grounds names p) (survey-accepted s accepted) h) (λ z. omega arith)

    module _ (long : slots ≤ length buffer) {g : ℕ} (is : g ≡ first_of (run_grounds names p)) where
      steps_ground : step_ground f p names buffer ≡ g
      unfolding step_ground
      steps_ground = others_decide f buffer (run_grounds names p) (survey-accepted s accepted) long ∙ sym is

      pub steps_unfit : (g ≡ 0 → ⊥) → (refused g, p, buffer, f) ≡ steps_on k f p names buffer
      steps_unfit n = steps-refused k f p names buffer steps_ground n

      pub steps-end :
          g ≡ 0 → {m : MadeSteps} {buffer' file' : List ℕ} → StepsMade names (last_step + 1) k f places p buffer m buffer' file' →
          (done (steps m.steps m.senders), position_of m.run, buffer', file') ≡ steps_on k f p names buffer
      unfolding told
      steps-end none m =
          let t = begun f p buffer in
          let all : steps_from (stands_at_lem (last_step + 1)) names k t ≡ steps_from nowhere names k t = until_none names (last_step + 1) k t (omega arith) in
          ap told (m.is ∙ all) ∙ sym (steps-made k f p names buffer (steps_ground ∙ none))
