-- Steps made at once, none of them at the last step of a pass: they give no name, so that the listing goes on behind them with the same lines.
-- Assumes nothing.
use Prim.Native.Nat.{ℕ, zero, suc, ◌+◌, ◌-◌, ◌^◌, ◌≤◌, ◌<◌}
use mathlib.Core.Path.{◌≡◌, refl, sym, ap, ◌∙◌, subst}
use mathlib.Core.Logic.{◌≢◌}
use mathlib.Core.List.{List}
use mathlib.Core.Bool.{Bool, true, false, not}
use native.Mathlib.Omega.{arith}
use borrow.Author.Tests.{eq-eqb, ne_eqb, eqb-true, eqb-false}
use lib.Dec.{eqb}
use Rattle.file.specs.Rules.Bytes.{Bytes}
use Rattle.file.specs.Inner.Accepted.{Placed}
use Rattle.file.proofs.BytesBelow.{all_below, bytes_below}
use Rattle.file.specs.Rules.Order.{first_of, both, either}
use Rattle.file.specs.Rules.Results.{Result, refused, done, result_of}
use Rattle.file.specs.Rules.FileGrounds.{is_among, has_repeat, load_ground, load_verdict}
use Rattle.file.specs.Inner.Surveyed.{Surveyed}
use Rattle.file.proofs.Results.{load_file, no_ground}
use Rattle.file.proofs.Order.{by_case, clash, both_left, both_right, both_false_right, both_false_next, either_false_left}
use Rattle.naming.specs.Rules.Position.{Position}
use Rattle.naming.specs.Rules.Pass.{bits, last_step}
use Rattle.naming.specs.Rules.RunGrounds.{unfit_name, names_grounds, start_ground}
use Rattle.naming.specs.Rules.Step.{StepDone, ended, made, step_on}
use Rattle.naming.specs.Rules.Steps.{is_made_lem as is_step_made, mask_in, Progress, begun, next_step, with_step, steps_from}
use Rattle.naming.specs.Inner.StepAnswers.{position_of}
use Rattle.naming.specs.Inner.Steps.{progress_of, stands_at_lem, StepsMade}
use Rattle.naming.specs.declared.steps.MadeSteps.{MadeSteps}
use Rattle.naming.proofs.Moves.{step-moved}
use Rattle.listing_text.specs.Rules.Listing.{all_names, names_from, ListState, is_made_lem, gives_name, without_name, with_name, list_step, list_steps}
use Rattle.listing_text.specs.Inner.ListRuns.{state_of, StateIs, Moves, moved_to, none_given}
use Rattle.listing_text.specs.declared.run.ListProgress.{ListProgress}
use Rattle.listing_text.proofs.ListLaws.{moves, list-next, Going, going_done, going_stuck}
use Rattle.file.specs.Inner.Refusals.{Answered, outcome_of}
use Rattle.file.proofs.Surveyed.{survey-refused}
use Rattle.std.specs.Prelude.{Ok, Err, IsOk}

made-mask : (r : Result StepDone) → is_step_made r ≡ true → r ≡ done (made (mask_in r))
unfolding is_step_made mask_in
made-mask (refused n) e = cc
made-mask (done ended) e = cc
made-mask (done (made mask)) e = refl

-- ---- several steps that give no name

-- the listing's state with steps under way
unfoldable pub under : ListState → Progress → ListState
under t g = record { file = g.file; run = g.run; buffer = g.buffer; begun = t.begun; given = t.given; lines = t.lines }

step_under : (t : ListState) (g : Progress) → (g.run.place.step ≡ last_step → ⊥) → list_step (under t g) ≡ under t (with_step g (next_step all_names g))
unfolding list_step gives_name without_name under with_step next_step
step_under t g n = rw (both_false_right (is_made_lem (step_on g.file g.run all_names g.buffer).0) (ne_eqb g.run.place.step last_step n))

-- what they leave of a position
pub record Onward (p q : Position) : Type 0 where
  pub compared : p.counts.comparisons ≤ q.counts.comparisons
  pub further : p.place.index ≤ q.place.index
  pub begins : (p.counts.rounds ≡ 0 → p.place.step ≡ 0) → q.counts.rounds ≡ 0 → q.place.step ≡ 0

onward-same : (p : Position) → Onward p p
onward-same p = record { compared = omega arith; further = omega arith; begins = λ b z. b z }

-- a step that made its round
one-onward : (g : Progress) → (g.run.counts.rounds ≡ 0 → g.run.place.step ≡ 0) → is_step_made (next_step all_names g).0 ≡ true → Moves g.run (with_step g (next_step all_names g)).run
unfolding next_step with_step
one-onward g begins m =
    let s = step_on g.file g.run all_names g.buffer in
    moves g.file g.buffer g.run begins (ap (λ (r : Result StepDone). (r, s.1, s.2, s.3)) (sym (made-mask s.0 m)))

pub record Batch (k : ℕ) (t : ListState) (g end : Progress) : Type 0 where
  pub n : ℕ
  pub count : end.made ≡ g.made + n
  pub most : n ≤ k
  pub same : list_steps k (under t g) ≡ list_steps (k - n) (under t end)
  pub onward : Onward g.run end.run
  pub stops : n < k → end.run.place.step ≢ last_step → is_step_made (next_step all_names end).0 ≡ false

none_made : (k : ℕ) (t : ListState) (g : Progress) → (0 < k → g.run.place.step ≢ last_step → is_step_made (next_step all_names g).0 ≡ false) → Batch k t g g
none_made k t g stops =
    let all : k - 0 ≡ k = omega arith in
    record { n = 0; count = omega arith; most = omega arith; same = rw all; onward = onward-same g.run; stops = stops }

one_more :
    (k : ℕ) (t : ListState) (g end : Progress) → (g.run.counts.rounds ≡ 0 → g.run.place.step ≡ 0) → (g.run.place.step ≡ last_step → ⊥) → is_step_made (next_step all_names g).0 ≡ true →
    Batch k t (with_step g (next_step all_names g)) end → Batch (suc k) t g end
one_more k t g end begins other m b =
    let first = one-onward g begins m in
    let later = b.onward in
    let up : (with_step g (next_step all_names g)).made ≡ suc g.made = unfold with_step in refl in
    let left : suc k - suc b.n ≡ k - b.n = omega arith in
    record {
      n = suc b.n;
      count = omega (arith, b.count, up);
      most = omega (arith, b.most);
      same = list-next k (under t g) ∙ ap (list_steps k) (step_under t g other) ∙ b.same ∙ rw left;
      onward = record {
        compared = omega (arith, first.compared, later.compared);
        further = omega (arith, first.further, later.further);
        begins = λ _ z. later.begins (λ y. absurd (omega (arith, first.made, y))) z;
      };
      stops = λ h. b.stops (omega arith);
    }

module _ (k : ℕ) (g : Progress) where
  until-on :
      both (not (eqb g.run.place.step last_step)) (is_step_made (next_step all_names g).0) ≡ true →
      steps_from (stands_at_lem last_step) all_names (suc k) g ≡ steps_from (stands_at_lem last_step) all_names k (with_step g (next_step all_names g))
  unfolding steps_from
  until-on y = rw y

  until_over : both (not (eqb g.run.place.step last_step)) (is_step_made (next_step all_names g).0) ≡ false → steps_from (stands_at_lem last_step) all_names (suc k) g ≡ g
  unfolding steps_from
  until_over y = rw y

pub batch : (k : ℕ) (t : ListState) (g : Progress) → (g.run.counts.rounds ≡ 0 → g.run.place.step ≡ 0) → Batch k t g (steps_from (stands_at_lem last_step) all_names k g)
batch zero t g begins = unfold steps_from in none_made 0 t g (λ h. absurd (omega arith))
batch (suc k) t g begins = on (λ c. batch k t (with_step g (next_step all_names g)) c)
  where
    on :
        (((with_step g (next_step all_names g)).run.counts.rounds ≡ 0 → (with_step g (next_step all_names g)).run.place.step ≡ 0) →
        Batch k t (with_step g (next_step all_names g)) (steps_from (stands_at_lem last_step) all_names k (with_step g (next_step all_names g)))) →
        Batch (suc k) t g (steps_from (stands_at_lem last_step) all_names (suc k) g)
    on rest =
        by_case (both (not (eqb g.run.place.step last_step)) (is_step_made (next_step all_names g).0))
        (λ y.
        let m = both_right (not (eqb g.run.place.step last_step)) _ y in
        let other : g.run.place.step ≡ last_step → ⊥ = λ z. clash (both_left _ _ y) (ap not (eq-eqb g.run.place.step last_step z)) in
        let first = one-onward g begins m in
        subst (λ (e : Progress). Batch (suc k) t g e) (sym (until-on k g y))
        (one_more k t g _ begins other m (rest (λ z. absurd (omega (arith, first.made, z))))))
        (λ y.
        subst (λ (e : Progress). Batch (suc k) t g e) (sym (until_over k g y))
        (none_made (suc k) t g (λ h n. both_false_next _ (ap not (ne_eqb g.run.place.step last_step n)) y)))

-- ---- in the code's terms

module _
    {wanted : ListState} {old : List ℕ} {at : ℕ} {state : ListProgress} {left : ℕ} {file answer text : List ℕ} (h : Going wanted old at state left file answer text)
    {names : List ℕ} (all : names ≡ all_names) {places : List ℕ} {m : MadeSteps} {answer' file' : List ℕ}
    (s : StepsMade names last_step left file places (position_of state.run) answer m answer' file') where
  start : Progress
  start = begun file (position_of state.run) answer

  came : Batch left (state_of state file answer text) (begun file (position_of state.run) answer) (progress_of m answer' file')
  unfolding begun
  came =
      subst (λ (e : Progress). Batch left (state_of state file answer text) (begun file (position_of state.run) answer) e)
      (sym (rw all at s.is))
      (batch left (state_of state file answer text) (begun file (position_of state.run) answer) h.room.begins)

  counted : m.steps ≡ came.n
  unfolding begun
  counted = came.count ∙ omega arith

  pub batch_few : m.steps ≤ left
  batch_few = omega (arith, counted, came.most)

  pub batch_going : {r : ListProgress} → r ≡ moved_to state m.run → Going wanted old at r (left - m.steps) file' answer' text
  unfolding moved_to under begun
  batch_going is =
      let up = came.onward in
      let room = h.room in
      rw is
      (record {
        is = rw counted (sym came.same ∙ h.is);
        rest = h.rest;
        onward = h.onward;
        same = h.same;
        room = record {
          counted = omega (arith, room.counted, up.compared);
          few = omega (arith, room.few, up.further);
          most = room.most;
          within = room.within;
          long = room.long;
          begins = up.begins room.begins;
        };
      })

  pub batch_stops : m.steps < left → m.run.place.step ≢ last_step → is_step_made (step_on file' (position_of m.run) all_names answer').0 ≡ false
  unfolding next_step
  batch_stops fewer n = came.stops (omega (arith, fewer, counted)) n

  -- none is left, or the next one is not made
  pub batch-over :
      {r : ListProgress} → r ≡ moved_to state m.run → {over : Bool} → over ≡ none_given (left - m.steps) r.run.place.step → over ≡ true →
      StateIs wanted old at r file' answer' text
  unfolding none_given either
  batch-over {r} is test e =
      let on = batch_going is in
      let run : r.run ≡ m.run = ap (λ (s : ListProgress). s.run) is ∙ unfold moved_to in refl in
      by_case (eqb (left - m.steps) 0)
      (λ z. let none : left - m.steps ≡ 0 = eqb-true _ _ z in going_done on (omega arith))
      (λ z.
      let other : r.run.place.step ≢ last_step = λ y. clash (sym test ∙ e) (rw (z, eq-eqb r.run.place.step last_step y)) in
      let some : left - m.steps ≡ 0 → ⊥ = eqb-false _ _ z in
      let more : m.steps < left = omega arith in
      going_stuck on (rw run (batch_stops more (rw run at other))))

pub none_left : {left : ℕ} (step : ℕ) → left ≡ 0 → true ≡ none_given left step
unfolding none_given either
none_left step e = rw e

pub none_named : (left step : ℕ) → (left ≡ 0 → ⊥) → not (eqb step last_step) ≡ none_given left step
unfolding none_given either
none_named left step n = rw (ne_eqb left 0 n)

pub some_left : (left step : ℕ) {over : Bool} → over ≡ none_given left step → over ≡ false → 0 < left
unfolding none_given
some_left left step test e = let n = eqb-false left 0 (either_false_left _ _ (sym test ∙ e)) in omega arith

-- the list of the run is accepted
pub all-accepted : {names : List ℕ} → names ≡ all_names → start_ground names ≡ 0
unfolding start_ground names_grounds first_of unfit_name has_repeat is_among either all_names names_from
all-accepted e = rw e

-- ---- no step of the listing moves the slaves' files

list-file : (t : ListState) → (list_step t).file ≡ (step_on t.file t.run all_names t.buffer).3
unfolding list_step with_name without_name
list-file t =
    by_case {P = (list_step t).file ≡ (step_on t.file t.run all_names t.buffer).3} (gives_name (step_on t.file t.run all_names t.buffer).0 t.run)
    (λ y. rw y)
    (λ y. rw y)

all-bytes : Bytes all_names
all-bytes = bytes_below all_names (unfold all_names names_from all_below both in refl)

pub step-placed :
    (state : ListProgress) (file answer text : List ℕ) {after : ListProgress} {places file' answer' text' : List ℕ} {at : ℕ} → Placed file places → state.run.place.value < 2 ^ bits →
    StateIs (list_step (state_of state file answer text)) text at after file' answer' text' → Placed file' places
step-placed state file answer text {places = places} placed small s =
    let left = ap (λ (t : ListState). t.file) s.is ∙ list-file (state_of state file answer text) in
    subst (λ (f : List ℕ). Placed f places) (sym left)
    (step-moved {names = all_names} (position_of state.run) answer placed all-bytes small refl).placed

-- what loading accepts the survey accepts, with the places
pub load_accepted : (f : List ℕ) {a : Answered (Unit {0})} → outcome_of a ≡ load_verdict f → {u : Unit {0}} → a ≡ Ok u → load_ground f ≡ 0
unfolding outcome_of load_verdict
load_accepted f is e = no_ground tt (load_ground f) (rw e at is)

pub load_answered : (f : List ℕ) (a : Answered (Unit {0})) {places : List ℕ} → load_ground f ≡ 0 → Surveyed f (outcome_of a) places → IsOk a
load_answered f (Ok u) none s = refl
load_answered f (Err why) none s = let by = survey-refused s refl in absurd (by.1 (by.0 ∙ load_file f none))

pub load_placed : (f : List ℕ) {r : Result (Unit {0})} {places : List ℕ} → load_ground f ≡ 0 → Surveyed f r places → Placed f places
unfolding result_of
load_placed f none s = s.placed (s.is ∙ rw (load_file f none))
