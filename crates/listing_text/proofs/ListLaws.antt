-- The listing, step by step.
-- Assumes nothing.
use Prim.Native.Nat.{ℕ, zero, suc, ◌+◌, ◌-◌, ◌≤◌, ◌<◌}
use mathlib.Core.Path.{◌≡◌, refl, sym, ap, ◌∙◌}
use mathlib.Core.Logic.{◌≢◌}
use mathlib.Core.List.{List, [], ◌∷◌, ◌++◌}
use mathlib.Core.Bool.{Bool, true, false}
use native.Mathlib.Omega.{arith}
use native.Mathlib.Numerals.{add-one}
use borrow.Author.Tests.{eq-eqb, ne_eqb, eqb-true, eqb-false}
use lib.ListN.{length, get_or, take, drop, set, replicate, length-set, length-append, length-replicate}
use lib.Seq.{sets-eq, take_all, take-suc-set, take_at, drop_at, drop-drop, length-take-le}
use lib.Dec.{eqb}
use Rattle.file.specs.Rules.Order.{both}
use Rattle.file.proofs.Order.{by_case}
use Rattle.file.specs.Rules.Results.{Result, refused, done}
use Rattle.master_slave.specs.Rules.Bus.{slots}
use Rattle.cluster.proofs.Rounds.{none-holds}
use Rattle.naming.specs.Rules.Position.{Position, running, fresh}
use Rattle.naming.specs.Rules.Pass.{PassPlace, PassPlace.poll, ask, give_name, give_high, give_low, PassPlace.baptize}
use Rattle.naming.specs.Rules.RunGrounds.{run_grounds}
use Rattle.naming.specs.Rules.Pass.{least, bit, high, low, reply, place_of}
use Rattle.naming.specs.Rules.Run.{round_here, onto, wrote, move_on, onward, next_name, end_all_named, pass_advance, is_extra}
use Rattle.naming.specs.Rules.Pass.{last_step}
use Rattle.naming.specs.Rules.Run.{count_raised, advance}
use Rattle.naming.specs.Rules.RunRounds.{RunRound, RunRound.poll as poll_of, write_name, write_high, write_low, compare, RunRound.baptize as baptize_all}
use Rattle.naming.specs.Rules.Step.{StepDone, ended, made, step_ground, step_made, step_on}
use Rattle.naming.specs.Rules.Steps.{is_made_lem as is_step_made, begun, next_step}
use Rattle.naming.specs.Inner.StepAnswers.{position_of, stepped_of, run_after}
use Rattle.file.specs.declared.types.Refusal.{Refusal}
use Rattle.file.specs.Rules.FileGrounds.{load_ground, load_verdict}
use Rattle.file.proofs.Results.{that_ground}
use Rattle.naming.specs.declared.position.RunPosition.{RunPosition}
use Rattle.naming.proofs.RunLaws.{Runs, runs}
use Rattle.naming.proofs.StepsLaws.{made_makes}
use Rattle.naming.proofs.StepsInARow.{still}
use Rattle.naming.proofs.PositionLaws.{last-place, last_real, onto_same, stays}
use Rattle.naming.proofs.RoundsMade.{some-counted, moved-counts}
use Rattle.naming.proofs.PassRounds.{onto-counts}
use Rattle.listing_text.specs.Rules.Text.{name_line, totals_line, refused_line}
use Rattle.listing_text.specs.Inner.Puts.{Puts, PutsAtMost}
use Rattle.listing_text.specs.Rules.Text.{line_size}
use Rattle.listing_text.specs.Rules.Listing.{all_names, names_from, name_count, ListState, is_made_lem, gives_name, without_name, with_name, list_step, list_steps}
use Rattle.listing_text.specs.Rules.Listing.{most_steps, start_state, end_state, with_totals, listing, file_listed, listed}
use Rattle.listing_text.specs.Inner.ListRuns.{state_of, Room, StateIs, Moves, StepListed}
use Rattle.listing_text.specs.Rules.Listing.{text_size}
use Rattle.listing_text.specs.declared.run.ListProgress.{ListProgress}
use Rattle.file.specs.Inner.Refusals.{Answered, refusal_number, outcome_of}
use Rattle.std.specs.Prelude.{Ok, Err, Option, None}
use Rattle.naming.specs.declared.run.MadeStep.{MadeStep}
use Rattle.std.specs.Prelude.{Some}

-- ---- what a step that made its round leaves of a position

pub record Rises (p q : Position) : Type 0 where
  pub compared : p.counts.comparisons ≤ q.counts.comparisons
  pub slowly : q.counts.comparisons ≤ suc p.counts.comparisons
  pub further : p.place.index ≤ q.place.index

rises : (l : PassPlace) (count : ℕ) (p : Position) (b : Bool) → Rises p (move_on l count p b)
unfolding move_on onward next_name end_all_named
rises poll count p true = record { compared = omega arith; slowly = omega arith; further = omega arith }
rises poll count p false = record { compared = omega arith; slowly = omega arith; further = omega arith }
rises (ask q high) count p b = record { compared = omega arith; slowly = omega arith; further = omega arith }
rises (ask q low) count p b = record { compared = omega arith; slowly = omega arith; further = omega arith }
rises (ask least reply) count p true = record { compared = omega arith; slowly = omega arith; further = omega arith }
rises (ask least reply) count p false = record { compared = omega arith; slowly = omega arith; further = omega arith }
rises (ask (bit x) reply) count p b = record { compared = omega arith; slowly = omega arith; further = omega arith }
rises give_name count p b = record { compared = omega arith; slowly = omega arith; further = omega arith }
rises give_high count p b = record { compared = omega arith; slowly = omega arith; further = omega arith }
rises give_low count p b = record { compared = omega arith; slowly = omega arith; further = omega arith }
rises baptize count p b = record { compared = omega arith; slowly = omega arith; further = omega arith }

-- what a round writes leaves index and comparisons
wrote-same : (o : RunRound) (p : Position) → ((wrote o p).counts.comparisons ≡ p.counts.comparisons) × ((wrote o p).place.index ≡ p.place.index)
unfolding wrote
wrote-same (poll_of n) p = (refl, refl)
wrote-same (write_name n) p = (refl, refl)
wrote-same (write_high h) p = (refl, refl)
wrote-same (write_low l) p = (refl, refl)
wrote-same compare p = (refl, refl)
wrote-same baptize_all p = (refl, refl)

pass_rises : (names : List ℕ) (p : Position) (b : Bool) → Rises p (pass_advance names p b)
unfolding pass_advance
pass_rises names p b =
    let first = onto_same names p in
    let same = wrote-same (round_here names (onto names p)) (onto names p) in
    let up = rises (place_of (onto names p).place.step) (length names) (wrote (round_here names (onto names p)) (onto names p)) b in
    let last = onto_same names (move_on (place_of (onto names p).place.step) (length names) (wrote (round_here names (onto names p)) (onto names p)) b) in
    let c₁ = first.0 in
    let i₁ = first.1 in
    let c₂ = same.0 in
    let i₂ = same.1 in
    let c₃ = last.0 in
    let i₃ = last.1 in
    let x = up.compared in
    let y = up.slowly in
    let z = up.further in
    record { compared = omega arith; slowly = omega arith; further = omega arith }

advance_rises : (names : List ℕ) (p : Position) (b : Bool) → Rises p (advance names p b)
unfolding advance
advance_rises names p b = by_case (is_extra p) (λ e. rw e extra_rises) (λ e. rw e (pass_rises names p b))
  where
    extra_rises : Rises p (count_raised p)
    extra_rises = unfold count_raised in record { compared = omega arith; slowly = omega arith; further = omega arith }

-- a round made is counted
advance-counts : (names : List ℕ) (p : Position) (b : Bool) → 0 < (advance names p b).counts.rounds
unfolding advance pass_advance
advance-counts names p b =
    by_case {P = 0 < (advance names p b).counts.rounds} (is_extra p) (λ e. rw e (unfold count_raised in omega arith))
    (λ e. rw e (rw (onto-counts names _).0 (moved-counts _ _ _ b)))

-- the last round of a pass raises the index
baptized : {l : PassPlace} (count : ℕ) (p : Position) (b : Bool) → l ≡ baptize → (move_on l count p b).place.index ≡ suc p.place.index
unfolding move_on next_name
baptized count p b e = rw e

last-names : (names : List ℕ) (p : Position) (b : Bool) → 0 < p.counts.rounds → p.place.step ≡ last_step → (advance names p b).place.index ≡ suc p.place.index
unfolding advance pass_advance
last-names names p b c e =
    let here : onto names p ≡ p = stays names p (last_real names p e) in
    rw (some-counted p c, here)
    ((onto_same names (move_on (place_of p.place.step) (length names) (wrote (round_here names p) p) b)).1
    ∙ baptized (length names) (wrote (round_here names p) p) b (last-place e) ∙ ap suc (wrote-same (round_here names p) p).1)

pub length-names : length all_names ≡ name_count
unfolding all_names names_from
length-names = refl

-- a step's answer `made` is that of a running position that fits
record Moved (names : List ℕ) (p q : Position) : Type 0 where
  runs_on : Runs names p
  heard : Bool
  moved : q ≡ advance names p heard

made-moved :
    (f buffer names : List ℕ) (p : Position) {mask : ℕ} {q : Position} {new file : List ℕ} → (done (made mask), q, new, file) ≡ step_on f p names buffer → Moved names p q
unfolding step_on step_made step_ground
made-moved f buffer names p {mask} {q} {new} {file} e =
    by_case (eqb (step_ground f p names buffer) 0)
    (λ t.
    by_case (eqb p.end running)
    (λ m.
    let reason : step_ground f p names buffer ≡ 0 = eqb-true _ _ t in
    let is : (done (made mask), q, new, file) ≡ step_made f p names buffer = rw (t, m) at e in
    record {
      runs_on = runs (none-holds f buffer (run_grounds names p) reason).rest (eqb-true _ _ m);
      heard = _;
      moved = ap (λ (x : Result StepDone × Position × List ℕ × List ℕ). x.1) is;
    })
    (λ m.
    let is : (done (made mask), q, new, file) ≡ (done ended, p, buffer, f) = rw (t, m) at e in
    let same : ◌≡◌ {A = Result StepDone} (done (made mask)) (done ended) = ap (λ (x : Result StepDone × Position × List ℕ × List ℕ). x.0) is in
    let z : ◌≡◌ {A = ℕ} 0 1 = cc in absurd (omega arith)))
    (λ t.
    let is : (done (made mask), q, new, file) ≡ (refused (step_ground f p names buffer), p, buffer, f) = rw t at e in
    let same : done (made mask) ≡ refused (step_ground f p names buffer) = ap (λ (x : Result StepDone × Position × List ℕ × List ℕ). x.0) is in
    let z : ◌≡◌ {A = ℕ} 0 1 = cc in absurd (omega arith))

pub moves :
    (f buffer : List ℕ) (p : Position) {mask : ℕ} {q : Position} {new file : List ℕ} → (p.counts.rounds ≡ 0 → p.place.step ≡ 0) →
    (done (made mask), q, new, file) ≡ step_on f p all_names buffer → Moves p q
moves f buffer p {mask} {q} begins e =
    let m = made-moved f buffer all_names p e in
    let up : Rises p q = rw m.moved (advance_rises all_names p m.heard) in
    record {
      inside = rw length-names at m.runs_on.goes.within;
      compared = up.compared;
      small = let few = m.runs_on.goes.counts.fewer in let slow = up.slowly in omega arith;
      further = up.further;
      named = λ l.
          let later : p.counts.rounds ≡ 0 → ⊥ = λ z. omega (arith, begins z, l) in
          ap (λ (x : Position). x.place.index) m.moved ∙ last-names all_names p m.heard (omega arith) l;
      made = rw m.moved (advance-counts all_names p m.heard);
    }

-- ---- the text after what was put

module _ {bytes old new : List ℕ} {at next : ℕ} (h : Puts bytes old at new next) where
  pub front_length : length (take at old ++ bytes) ≡ next
  front_length = rw (length-append, length-take-le at old (let f = h.fits in omega arith)) (sym h.place)

  pub apart : new ≡ (take at old ++ bytes) ++ drop next old
  apart = rw h.place (h.text ∙ sets-eq bytes old at h.fits)

  pub puts-take : take next new ≡ take at old ++ bytes
  puts-take = rw apart (take_at (take at old ++ bytes) (drop next old) next front_length)

  pub puts-drop : drop next new ≡ drop next old
  puts-drop = rw apart (drop_at (take at old ++ bytes) (drop next old) next front_length)

-- ---- one round

module _ {state : ListProgress} {next : RunPosition} {old : List ℕ} (room : Room state (length old)) (m : Moves (position_of state.run) (position_of next)) where
  pub after-step_silent : (state.run.place.step ≡ last_step → ⊥) →
      StepListed state (position_of next) old (record { run = next; begun = state.begun; given = state.given; at = state.at }) old
  unfolding without_name
  after-step_silent n =
      let c = room.counted in
      let f = room.few in
      let x = m.compared in
      let y = m.further in
      record {
        reached = λ s file answer file' answer'.
            rw (ne_eqb state.run.place.step last_step n)
            (record {
              is = refl;
              rest = refl;
              onward = omega arith;
              same = refl;
              room = record {
                counted = omega arith;
                few = omega arith;
                most = room.most;
                within = room.within;
                long = room.long;
                begins = λ z. absurd (omega (arith, m.made, z));
              };
            });
      }

  pub after-step-named :
      {names new : List ℕ} {at : ℕ} → names ≡ all_names → state.run.place.step ≡ last_step →
      PutsAtMost line_size (name_line (get_or names state.run.place.index 0) state.run.place.value (next.counts.comparisons - state.begun)) old state.at new at →
      StepListed state (position_of next) old (record { run = next; begun = next.counts.comparisons; given = state.given + 1; at = at }) new
  unfolding with_name
  after-step-named {names} {new} {at} is l h =
      let short = h.most in
      let c = room.counted in
      let f = room.few in
      let w = room.within in
      let g = room.long in
      let i = m.inside in
      let up = m.named l in
      record {
        reached = λ s file answer file' answer'.
            rw (eq-eqb state.run.place.step last_step l)
            (record {
              is = rw (puts-take h.puts, is, add-one);
              rest = puts-drop h.puts;
              onward = let p = h.puts.place in omega arith;
              same = h.puts.room;
              room = record {
                counted = omega arith;
                few = omega arith;
                most = omega arith;
                within = omega arith;
                long = rw h.puts.room g;
                begins = λ z. absurd (omega (arith, m.made, z));
              };
            });
      }

-- ---- one step

idle-refused : (n : ℕ) → is_made_lem (refused n) ≡ false
unfolding is_made_lem
idle-refused n = refl

idle_ended : is_made_lem (done ended) ≡ false
unfolding is_made_lem
idle_ended = refl

one-step-idle :
    {state : ListProgress} (f answer text : List ℕ) {s : Result StepDone} {file new : List ℕ} → is_made_lem s ≡ false →
    (s, position_of state.run, new, file) ≡ step_on f (position_of state.run) all_names answer → Room state (length text) →
    StateIs (list_step (state_of state f answer text)) text state.at state file new text
unfolding list_step gives_name both without_name
one-step-idle f answer text n e r =
    record { is = rw (← e, n); rest = refl; onward = omega arith; same = refl; room = r }

-- by what the code's step answers
module _
    (f answer : List ℕ) (p : Position) {names new file : List ℕ} {r : Answered (Option MadeStep)} (all : names ≡ all_names)
    (e : (stepped_of r, run_after p r, new, file) ≡ step_on f p names answer) {next : MadeStep} (is : r ≡ Ok (Some next)) where
  made_by : (done (made next.senders), position_of next.run, new, file) ≡ step_on f p all_names answer
  unfolding stepped_of run_after
  made_by = rw (is, all) at e

  pub made_moves : (p.counts.rounds ≡ 0 → p.place.step ≡ 0) → Moves p (position_of next.run)
  made_moves begins = moves f answer p begins made_by

module _
    {state : ListProgress} (f answer text : List ℕ) {names new file : List ℕ} {r : Answered (Option MadeStep)} (all : names ≡ all_names)
    (e : (stepped_of r, run_after (position_of state.run) r, new, file) ≡ step_on f (position_of state.run) names answer) where
  pub one-step-refused : {w : Refusal} → r ≡ Err w → Room state (length text) →
      StateIs (list_step (state_of state f answer text)) text state.at state file new text
  unfolding stepped_of run_after
  one-step-refused {w} is room = one-step-idle f answer text (idle-refused (refusal_number w)) (rw (is, all) at e) room

  pub one-step-ended : r ≡ Ok None → Room state (length text) →
      StateIs (list_step (state_of state f answer text)) text state.at state file new text
  unfolding stepped_of run_after
  one-step-ended is room = one-step-idle f answer text idle_ended (rw (is, all) at e) room

  pub one-step-made : {next : MadeStep} {after : ListProgress} {text' : List ℕ} → r ≡ Ok (Some next) →
      StepListed state (position_of next.run) text after text' →
      StateIs (list_step (state_of state f answer text)) text state.at after file new text'
  unfolding list_step gives_name is_made_lem both
  one-step-made {next} is t = rw (← made_by f answer (position_of state.run) all e is) (t.reached (done (made next.senders)) f answer file new)

-- ---- the names

pub record Naming (names : List ℕ) (i : ℕ) : Type 0 where
  pub room : length names ≡ name_count
  pub within : i ≤ name_count
  pub first : take i names ≡ names_from i 0x01

from_snoc : (n a : ℕ) → names_from (suc n) a ≡ names_from n a ++ ((a + n) ∷ [])
unfolding names_from
from_snoc zero a = let z : a + 0 ≡ a = omega arith in rw z
from_snoc (suc n) a =
    let e : a + suc n ≡ suc a + n = omega arith in
    rw e (ap (λ (l : List ℕ). a ∷ l) (from_snoc n (suc a)))

pub naming_start : Naming (replicate name_count 0) 0
unfolding names_from
naming_start = record { room = length-replicate {A = ℕ} name_count 0; within = omega arith; first = refl }

module _ {names : List ℕ} {i : ℕ} (h : Naming names i) where
  pub naming_next : i < name_count → Naming (set names i (0x01 + i)) (i + 1)
  naming_next more =
      let one : i + 1 ≡ suc i = omega arith in
      record {
        room = length-set names i (0x01 + i) ∙ h.room;
        within = omega arith;
        first = rw (one, take-suc-set names i (0x01 + i) (rw h.room more), h.first, from_snoc i 0x01);
      }

  pub naming_end : name_count ≤ i → names ≡ all_names
  unfolding all_names
  naming_end past =
      let w = h.within in
      let e : i ≡ name_count = omega arith in
      sym (take_all i names (rw h.room past)) ∙ h.first ∙ rw e

-- both texts of the rules mean the same by a step that made its round
made-same : (r : Result StepDone) → is_made_lem r ≡ is_step_made r
unfolding is_made_lem is_step_made
made-same (refused n) = refl
made-same (done ended) = refl
made-same (done (made mask)) = refl

-- ---- a step that makes no round leaves the listing as it is

module _ (t : ListState) (e : is_step_made (step_on t.file t.run all_names t.buffer).0 ≡ false) where
  list-idle : list_step t ≡ t
  unfolding list_step gives_name both without_name
  list-idle =
      let same = still t.file t.run all_names t.buffer e in
      rw (made-same (step_on t.file t.run all_names t.buffer).0 ∙ e)
      (ap (λ (s : Position × List ℕ × List ℕ). record { file = s.2; run = s.0; buffer = s.1; begun = t.begun; given = t.given; lines = t.lines }) same)

pub list_stuck : (n : ℕ) (t : ListState) → is_step_made (step_on t.file t.run all_names t.buffer).0 ≡ false → list_steps n t ≡ t
unfolding list_steps
list_stuck zero t e = refl
list_stuck (suc n) t e =
    by_case (eqb t.run.end running)
    (λ r. rw (r, list-idle t e) (list_stuck n t e))
    (λ r. rw r)

-- one step more, ended or not
pub list-next : (n : ℕ) (t : ListState) → list_steps (suc n) t ≡ list_steps n (list_step t)
unfolding list_steps begun
list-next n t =
    by_case (eqb t.run.end running)
    (λ r. rw r)
    (λ r. rw r (over (eqb-false _ _ r)))
  where
    over : t.run.end ≢ running → t ≡ list_steps n (list_step t)
    over n' =
        let idle : is_step_made (step_on t.file t.run all_names t.buffer).0 ≡ false =
        by_case (is_step_made (step_on t.file t.run all_names t.buffer).0) (λ m. absurd (n' (made_makes all_names (begun t.file t.run t.buffer) (unfold next_step in m)).runs)) (λ m. m) in
        sym (rw (list-idle t idle) (list_stuck n t idle))

-- ---- all steps

pub record Going (wanted : ListState) (old : List ℕ) (at : ℕ) (state : ListProgress) (left : ℕ) (file answer text : List ℕ) : Type 0 where
  pub is : list_steps left (state_of state file answer text) ≡ wanted
  pub rest : drop state.at text ≡ drop state.at old
  pub onward : at ≤ state.at
  pub same : length text ≡ length old
  pub room : Room state (length text)

pub going_start :
    (state : ListProgress) (left : ℕ) (file answer text : List ℕ) → Room state (length text) →
    Going (list_steps left (state_of state file answer text)) text state.at state left file answer text
going_start state left file answer text r = record { is = refl; rest = refl; onward = omega arith; same = refl; room = r }

module _ {wanted : ListState} {old : List ℕ} {at : ℕ} {state : ListProgress} {left : ℕ} {file answer text : List ℕ} (h : Going wanted old at state left file answer text) where
  reached : state_of state file answer text ≡ wanted → StateIs wanted old at state file answer text
  reached e = record { is = e; rest = h.rest; onward = h.onward; same = h.same; room = h.room }

  pub going_stuck : is_step_made (step_on file (position_of state.run) all_names answer).0 ≡ false → StateIs wanted old at state file answer text
  going_stuck e = reached (sym (list_stuck left (state_of state file answer text) e) ∙ h.is)

  pub going_done : left ≤ 0 → StateIs wanted old at state file answer text
  going_done past =
      let z : left ≡ 0 = omega arith in
      reached (none (rw z at h.is))
    where
      none : list_steps 0 (state_of state file answer text) ≡ wanted → state_of state file answer text ≡ wanted
      none e = unfold list_steps in e

  pub going_next :
      {after : ListProgress} {file' answer' text' : List ℕ} → 0 < left →
      StateIs (list_step (state_of state file answer text)) text state.at after file' answer' text' → Going wanted old at after (left - 1) file' answer' text'
  going_next {after} {file'} {answer'} {text'} some t =
      let back : left ≡ suc (left - 1) = omega arith in
      let x = h.onward in
      let y = t.onward in
      record {
        is = rw t.is (went (left - 1) (rw back at h.is));
        rest = t.rest ∙ further;
        onward = omega arith;
        same = t.same ∙ h.same;
        room = t.room;
      }
    where
      went : (k : ℕ) → list_steps (suc k) (state_of state file answer text) ≡ wanted → list_steps k (list_step (state_of state file answer text)) ≡ wanted
      went k e = sym (list-next k (state_of state file answer text)) ∙ e

      further : drop after.at text ≡ drop after.at old
      further =
          let y = t.onward in
          let e : after.at ≡ state.at + (after.at - state.at) = omega arith in
          rw (e, ← drop-drop (after.at - state.at) state.at text, ← drop-drop (after.at - state.at) state.at old, h.rest)

-- ---- the whole listing

pub start-room :
    (run : RunPosition) (names text : List ℕ) → position_of run ≡ fresh names → text_size ≤ length text →
    Room (record { run = run; begun = 0; given = 0; at = 0 }) (length text)
unfolding fresh
start-room run names text e h =
    record {
      counted = omega arith;
      few = omega arith;
      most = omega arith;
      within = omega arith;
      long = h;
      begins = λ z. ap (λ (p : Position). p.place.step) e;
    }

-- a text, its length, and the text that holds it in front
in_front : (front old : List ℕ) {new : List ℕ} {r : ℕ} (f : List ℕ) → length front ≡ r → new ≡ front ++ drop r old →
    ◌≡◌ {A = ℕ × List ℕ × List ℕ} (r, new, f) (length front, front ++ drop (length front) old, f)
in_front front old f e h = rw (e, h)

pub listed-refused :
    (f : List ℕ) {old new : List ℕ} {a : Answered (Unit {0})} {w : Refusal} {r : ℕ} → outcome_of a ≡ load_verdict f → a ≡ Err w →
    Puts (refused_line (refusal_number w)) old 0 new r → (r, new, f) ≡ listed f old
unfolding outcome_of load_verdict listed listing file_listed
listed-refused f {old = old} {w = w} is e h =
    let by = that_ground tt (refusal_number w) (load_ground f) (rw e at is) in
    rw (← by.0, ne_eqb (refusal_number w) 0 by.1) (in_front (refused_line (refusal_number w)) old f (front_length h) (apart h))

module _ (f : List ℕ) {old mid new answer file : List ℕ} {run : RunPosition} {done : ListProgress} {r : ℕ} (accepted : load_ground f ≡ 0)
    {names : List ℕ} (all : names ≡ all_names) (fresh-run : position_of run ≡ fresh names)
    (t : StateIs (list_steps most_steps (state_of (record { run = run; begun = 0; given = 0; at = 0 }) f (replicate slots 0) old)) old 0 done file answer mid)
    (h : Puts (totals_line done.given done.run.counts.comparisons done.run.counts.rounds) mid done.at new r) where
  begins : state_of (record { run = run; begun = 0; given = 0; at = 0 }) f (replicate slots 0) old ≡ start_state f
  unfolding start_state
  begins = rw (fresh-run, all)

  whole : end_state f ≡ state_of done file answer mid
  unfolding end_state
  whole = rw (← begins) (sym t.is)

  rest-kept : drop r mid ≡ drop r old
  rest-kept =
      let p = h.place in
      let further : r ≡ done.at + (r - done.at) = omega arith in
      rw (further, ← drop-drop (r - done.at) done.at mid, ← drop-drop (r - done.at) done.at old, t.rest)

  pub listed-accepted : (r, new, file) ≡ listed f old
  unfolding listed listing file_listed with_totals
  listed-accepted =
      rw (eq-eqb (load_ground f) 0 accepted, whole)
      (in_front (take done.at mid ++ totals_line done.given done.run.counts.comparisons done.run.counts.rounds) old file (front_length h)
      (rw rest-kept at (apart h)))

-- the text holds the listing
pub listed-fits : (f old : List ℕ) {r : ℕ} {new file : List ℕ} → (r, new, file) ≡ listed f old → r ≤ length new
unfolding listed
listed-fits f old e =
    let is = ap (λ (x : ℕ × List ℕ × List ℕ). x.0) e in
    let text = ap (λ (x : ℕ × List ℕ × List ℕ). x.1) e in
    rw (is, text, length-append) (omega arith)
