-- The summary over the C calls: from the laws of rounds and steps that are given it, over files and positions.
-- Assumes nothing.
use Prim.Native.Nat.{ℕ, ◌^◌, ◌≤◌, ◌<◌}
use native.Mathlib.Omega.{arith}
use mathlib.Core.Path.{◌≡◌, refl, sym, ap, ◌∙◌, subst}
use mathlib.Core.Logic.{◌≢◌, ◌↔◌}
use mathlib.Core.List.{List, [], ◌∷◌}
use mathlib.Core.Bool.{Bool, true, cond}
use lib.ListN.{length, replicate, length-map}
use lib.Seq.{length-take-le}
use lib.Dec.{eqb, ltb}
use borrow.Author.Tests.{eqb-true, eqb-false, ltb-true, ltb-false}
use Rattle.file.specs.Rules.Bytes.{Bytes, All, All.all_empty, All.all_next as also}
use Rattle.file.specs.Rules.Order.{both}
use Rattle.file.specs.Rules.Results.{number_in}
use Rattle.file.specs.Rules.Cluster.{Cluster, logical_name, logical_names}
use Rattle.file.specs.Rules.Decode.{decode}
use Rattle.file.specs.Rules.FileGrounds.{file_ground}
use Rattle.file.proofs.Width.{few-slaves}
use Rattle.file.proofs.Accepted.{accepted-legal}
use Rattle.file.proofs.Order.{by_case, clash}
use Rattle.file.proofs.Results.{file-most}
use Rattle.master_slave.specs.Rules.Bus.{slots}
use Rattle.cluster.specs.Rules.Round.{round_ground, round_on}
use Rattle.cluster.specs.Rules.Summary.{Summary, without, kept, wrong_summary, round_keeping_ground, round_keeping, Held, nobody, at, first_holder}
use Rattle.cluster.specs.Claims.Renaming.{names_of}
use Rattle.cluster.specs.Claims.Summary.{Matches, given_names, LeavesRest, of_names}
use Rattle.cluster.proofs.Rounds.{round-refused, round-bytes}
use Rattle.cluster.proofs.SummaryLaws.{matches_exactly, matches_right, rest-same, rest_trans}
use Rattle.cluster.proofs.Keeping.{rounds_in_order, round-refused_by_24, keeping_refused, keeping-accepted, round_keeps_summary, same_names}
use Rattle.cluster.proofs.Holders.{filling_matches, fillings_refused, question_is-reading, full_readings}
use Rattle.trace.specs.Rules.Trace.{frame_count, frames_of}
use Rattle.trace.specs.Rules.TraceRun.{sent, after_frames, trace_ground, trace_on}
use Rattle.trace.proofs.Runs.{frames-bytes}
use Rattle.trace.proofs.Calls.{trace-run, trace-refused}
use Rattle.naming.specs.Rules.Position.{Position}
use Rattle.naming.specs.Rules.Pass.{bits}
use Rattle.naming.specs.Rules.Step.{step_ground, step_keeping_ground, step_keeping}
use Rattle.naming.proofs.StepLaws.{step-refused}
use Rattle.naming.proofs.StepKeeping.{step-keeping-refused, step-keeping-accepted}
use Rattle.naming.proofs.Renaming.{step-bytes}
use Rattle.naming.proofs.Unasked.{step_unasked, frame_unasked}
use Rattle.naming.proofs.Summaries.{steps_in_order, step-refused_by_24, step_keeps_summary, keeping-step-bytes, keeping_round-bytes}
use Rattle.ttpa.specs.Rules.Calls.{lent_after, position_in, round_call, step_senders, step_words_lem, step_call, trace_call, turn_call, fill_call}
use Rattle.ttpa.specs.Rules.Calls.{nobody_place, place_of, holder_call, slice_of, round_keeping_call, step_keeping_call}
use Rattle.demand.specs.Claims.DemandCalls.{CCall, GivenBytes, given-step, given-step_keeping, given-frame, given-frame-keeping}
use Rattle.demand.specs.Claims.DemandCalls.{given-trace, given-turn, Memory, returned, memory_after, after_calls, permitted_call, halfway_on}
use Rattle.demand.specs.Claims.DemandCalls.{permitted, TakenByRounds}
use Rattle.demand.specs.Claims.Summary.{Made, other_file, made_on, all_made_lem, Keeps, in_round, in_step_lem, in_other, in_turn, none_made_lem, next_made}
use Rattle.demand.specs.Claims.Summary.{KeptByCalls, AnswersAsRead, FilledAndAsked, slice_aside, step_slice_aside, RoundsWithSummary}
use Rattle.demand.specs.Claims.Summary.{StepsWithSummary}
use Rattle.demand.specs.Claims.Summary.{GivenRight, step_without, round_without, trace_without, turn_without, step_matching, round_matching}
use Rattle.demand.specs.Claims.Summary.{no_calls, one_more_lem, without_summary, numbers, NoDifference, GivenMakesNoDifferenceInCalls}
use Rattle.screens.specs.Rules.Turn.{turn_on}
use Rattle.screens.proofs.Names.{turn_keeps_summary}
use Rattle.demand.proofs.TurnFrames.{turn-left, turn-frames-bytes}
use Rattle.demand.proofs.DemandCalls.{keeping-step-number, keeping-round-number, runs-accepted, accepted-runs}

-- ---- the ground of a call given a summary, and its own without

record Behind (file : List ℕ) (summary : Summary) (reason own : ℕ) : Type 0 where
  pub of_file : file_ground file ≢ 0 → reason ≡ file_ground file
  pub own_of_file : file_ground file ≢ 0 → own ≡ file_ground file
  pub of_summary : file_ground file ≡ 0 → (reason ≡ 24) ↔ (Matches file summary → ⊥)
  pub of_call_lem : Matches file summary → reason ≡ own

-- it is its own, or 24
other_ground : (file : List ℕ) (summary : Summary) (reason own : ℕ) → Behind file summary reason own → reason ≢ 24 → reason ≡ own
other_ground file summary reason own b other =
    by_case (eqb (file_ground file) 0)
    (λ z.
    by_case (wrong_summary summary (names_of file))
    (λ t. absurd (other ((b.of_summary (eqb-true _ _ z)).1 (λ m. clash t (matches_right file m)))))
    (λ f. b.of_call_lem ((matches_exactly file summary).0 f)))
    (λ z. let some : file_ground file ≢ 0 = eqb-false _ _ z in b.of_file some ∙ sym (b.own_of_file some))

only-24 :
    (file : List ℕ) (summary : Summary) (reason own : ℕ) → Behind file summary reason own →
    (reason ≡ 24) ↔ (TakenByRounds file × (Matches file summary → ⊥))
only-24 file summary reason own b = (
  λ e.
      let none : file_ground file ≡ 0 =
      by_case (eqb (file_ground file) 0)
      (λ z. eqb-true _ _ z)
      (λ z. let is : file_ground file ≡ 24 = sym (b.of_file (eqb-false _ _ z)) ∙ e in absurd (omega (arith, file-most file))) in
      (accepted-runs none, (b.of_summary none).0 e),
  λ taken. (b.of_summary (runs-accepted taken.0)).1 taken.1,
)

round-behind :
    (file : List ℕ) (summary : Summary) (bytes buffer : List ℕ) →
    Behind file summary (round_keeping_ground file summary bytes buffer) (round_ground file bytes buffer)
round-behind file summary bytes buffer =
    record {
      of_file = (rounds_in_order file summary bytes buffer).of_file;
      own_of_file = λ some. sym (frame_unasked file bytes buffer) ∙ (rounds_in_order file without bytes buffer).of_file some;
      of_summary = round-refused_by_24 file summary bytes buffer;
      of_call_lem = (rounds_in_order file summary bytes buffer).of_round;
    }

step-behind :
    (file : List ℕ) (p : Position) (names : List ℕ) (summary : Summary) (buffer : List ℕ) →
    Behind file summary (step_keeping_ground file p names summary buffer) (step_ground file p names buffer)
step-behind file p names summary buffer =
    record {
      of_file = (steps_in_order file p names summary buffer).of_file;
      own_of_file = λ some. sym (step_unasked file p names buffer) ∙ (steps_in_order file p names without buffer).of_file some;
      of_summary = step-refused_by_24 file p names summary buffer;
      of_call_lem = (steps_in_order file p names summary buffer).of_step_lem;
    }

-- ---- ttpa_round_keeping and ttpa_round

module _ (file bytes buffer : List ℕ) (senders : ℕ) (held : List ℕ) (count : ℕ) where
  abbrev ground_round : ℕ
  ground_round = round_keeping_ground file (kept count held) bytes buffer

  round_returns : (round_keeping_call file bytes buffer senders held count).0 ≡ ground_round
  unfolding round_keeping_call
  round_returns = keeping-round-number file (kept count held) bytes buffer

  round-lent : ground_round ≢ 0 → round_keeping_call file bytes buffer senders held count ≡ (ground_round, senders, buffer, file, held)
  unfolding round_keeping_call number_in lent_after slice_of
  round-lent some = rw (keeping_refused file (kept count held) bytes buffer some)

  plain_round-lent : round_ground file bytes buffer ≢ 0 → round_call file bytes buffer senders ≡ (round_ground file bytes buffer, senders, buffer, file)
  unfolding round_call number_in lent_after
  plain_round-lent some = rw (round-refused file bytes buffer some)

  round_carried : ground_round ≡ 0 → slice_aside (round_keeping_call file bytes buffer senders held count) ≡ round_call file bytes buffer senders
  unfolding round_keeping_call round_call
  round_carried none = rw (keeping-accepted file (kept count held) bytes buffer none)

  round_same : ground_round ≢ 24 → slice_aside (round_keeping_call file bytes buffer senders held count) ≡ round_call file bytes buffer senders
  round_same other =
      let own = other_ground file (kept count held) ground_round (round_ground file bytes buffer) (round-behind file (kept count held) bytes buffer) other in
      by_case (eqb ground_round 0)
      (λ z. round_carried (eqb-true ground_round 0 z))
      (λ z.
      let some : ground_round ≢ 0 = eqb-false _ _ z in
      rw (round-lent some, plain_round-lent (λ e. some (own ∙ e)), own))

pub rounds_with_summary : RoundsWithSummary
rounds_with_summary file bytes buffer senders held count =
    let returns = round_returns file bytes buffer senders held count in
    let (there, back) = only-24 file (kept count held) _ _ (round-behind file (kept count held) bytes buffer) in
    record {
      by24 = (λ e. there (sym returns ∙ e), λ t. returns ∙ back t);
      lent = λ e.
          let is : round_keeping_ground file (kept count held) bytes buffer ≡ 24 = sym returns ∙ e in
          round-lent file bytes buffer senders held count (λ z. omega (arith, sym is ∙ z)) ∙ rw is;
      same = λ other. round_same file bytes buffer senders held count (λ z. other (returns ∙ z));
    }

-- ---- ttpa_step_keeping and ttpa_step

module _ (file run names buffer : List ℕ) (senders : ℕ) (held : List ℕ) (count : ℕ) where
  abbrev ground_step : ℕ
  ground_step = step_keeping_ground file (position_in run) names (kept count held) buffer

  step_returns : (step_keeping_call file run names buffer senders held count).0 ≡ ground_step
  unfolding step_keeping_call
  step_returns = keeping-step-number file (position_in run) names (kept count held) buffer

  step-lent : ground_step ≢ 0 → step_keeping_call file run names buffer senders held count ≡ (ground_step, senders, run, buffer, file, held)
  unfolding step_keeping_call number_in step_senders step_words_lem slice_of
  step-lent some = rw (step-keeping-refused file (position_in run) names (kept count held) buffer some)

  plain-step-lent :
      step_ground file (position_in run) names buffer ≢ 0 →
      step_call file run names buffer senders ≡ (step_ground file (position_in run) names buffer, senders, run, buffer, file)
  unfolding step_call number_in step_senders step_words_lem
  plain-step-lent some = rw (step-refused file (position_in run) names buffer some)

  step_carried : ground_step ≡ 0 → step_slice_aside (step_keeping_call file run names buffer senders held count) ≡ step_call file run names buffer senders
  unfolding step_keeping_call step_call
  step_carried none = rw (step-keeping-accepted file (position_in run) names (kept count held) buffer none)

  step_same : ground_step ≢ 24 → step_slice_aside (step_keeping_call file run names buffer senders held count) ≡ step_call file run names buffer senders
  step_same other =
      let own = other_ground file (kept count held) ground_step (step_ground file (position_in run) names buffer) (step-behind file (position_in run) names (kept count held) buffer) other in
      by_case (eqb ground_step 0)
      (λ z. step_carried (eqb-true ground_step 0 z))
      (λ z.
      let some : ground_step ≢ 0 = eqb-false _ _ z in
      rw (step-lent some, plain-step-lent (λ e. some (own ∙ e)), own))

pub steps_with_summary : StepsWithSummary
steps_with_summary file run names buffer senders held count =
    let returns = step_returns file run names buffer senders held count in
    let (there, back) = only-24 file (kept count held) _ _ (step-behind file (position_in run) names (kept count held) buffer) in
    record {
      by24 = (λ e. there (sym returns ∙ e), λ t. returns ∙ back t);
      lent = λ e.
          let is : step_keeping_ground file (position_in run) names (kept count held) buffer ≡ 24 = sym returns ∙ e in
          step-lent file run names buffer senders held count (λ z. omega (arith, sym is ∙ z)) ∙ rw is;
      same = λ other. step_same file run names buffer senders held count (λ z. other (returns ∙ z));
    }

-- ---- calls that are given the slice as the last one left it

-- a summary that has its count is its slice with it
slice_back : {count : ℕ} {held : List ℕ} {summary : Summary} → LeavesRest (kept count held) summary → summary ≡ kept count (slice_of summary)
unfolding slice_of
slice_back (of_names size same) = refl

in-slice :
    (file : List ℕ) {count : ℕ} {held : List ℕ} {summary : Summary} → Matches file summary × LeavesRest (kept count held) summary →
    Matches file (kept count (slice_of summary)) × LeavesRest (kept count held) (kept count (slice_of summary))
in-slice file {count} {held} {summary} (m, rest) =
    let e = slice_back rest in
    (subst (λ (s : Summary). Matches file s) e m, subst (λ (s : Summary). LeavesRest (kept count held) s) e rest)

-- the file that another call leaves is of bytes
frames-bytes-kept : (file : List ℕ) {xs : List (List ℕ)} → Bytes file → All Bytes xs → Bytes (after_frames file xs)
unfolding after_frames sent
frames-bytes-kept file fb all_empty = fb
frames-bytes-kept file fb (also {a = x} b bs) = frames-bytes-kept (round_on file x (replicate slots 0)).2 (round-bytes file x (replicate slots 0) fb b) bs

pub trace-bytes : (file t : List ℕ) → Bytes file → Bytes t → Bytes (trace_on file t).1
unfolding frames_of
trace-bytes file t fb tb =
    by_case (eqb (trace_ground file t) 0)
    (λ z. rw (trace-run file t (eqb-true _ _ z)) (frames-bytes-kept file fb (frames-bytes tb 4 (frame_count t))))
    (λ z. rw (trace-refused file t (eqb-false _ _ z)) fb)

turn-bytes : (file state buffer : List ℕ) → Bytes file → Bytes state → Bytes (turn_on state file buffer).3
turn-bytes file state buffer fb sb =
    rw (turn-left file state buffer) (frames-bytes-kept file fb (turn-frames-bytes file state buffer sb))

other-bytes :
    (file run names : List ℕ) {c : CCall} → Bytes file → Bytes names → (position_in run).place.value < 2 ^ bits → GivenBytes c → Bytes (other_file file run names c)
unfolding memory_after step_call step_keeping_call round_call round_keeping_call trace_call turn_call
other-bytes file run names fb nb small (given-step {buffer}) = step-bytes file (position_in run) names buffer fb nb small
other-bytes file run names fb nb small (given-step_keeping {buffer} {held = held} {count = count}) =
    keeping-step-bytes file (position_in run) names (kept count held) buffer fb nb small
other-bytes file run names fb nb small (given-frame {bytes} {buffer} rb) = round-bytes file bytes buffer fb rb
other-bytes file run names fb nb small (given-frame-keeping {bytes} {buffer} {held = held} {count = count} rb) =
    keeping_round-bytes file (kept count held) bytes buffer fb rb
other-bytes file run names fb nb small (given-trace {t} tb) = trace-bytes file t fb tb
other-bytes file run names fb nb small (given-turn {state} {buffer} sb) = turn-bytes file state buffer fb sb

one_kept :
    (file held : List ℕ) (count : ℕ) {c : Made} → Bytes file → Keeps file c → Matches file (kept count held) →
    Matches (made_on count file held c).0 (kept count (made_on count file held c).1) ×
    LeavesRest (kept count held) (kept count (made_on count file held c).1)
unfolding made_on round_keeping_call step_keeping_call
one_kept file held count fb (in_round {bytes} {buffer} rb) m =
    in-slice (round_keeping file (kept count held) bytes buffer).2 (round_keeps_summary file (kept count held) bytes buffer fb rb m)
one_kept file held count fb (in_step_lem {run} {names} {buffer} nb small) m =
    in-slice (step_keeping file (position_in run) names (kept count held) buffer).3
    (step_keeps_summary file (position_in run) names (kept count held) buffer fb nb small m)
one_kept file held count fb (in_other {run} {names} {c} nb small given stay) m =
    (same_names file (other_file file run names c) stay m, rest-same (kept count held))
one_kept file held count fb (in_turn {state = state} {buffer = buffer} sb) m =
    (unfold memory_after turn_call in turn_keeps_summary state file buffer (kept count held) sb fb m, rest-same (kept count held))

one-bytes : (file held : List ℕ) (count : ℕ) {c : Made} → Bytes file → Keeps file c → Bytes (made_on count file held c).0
unfolding made_on round_keeping_call step_keeping_call
one-bytes file held count fb (in_round {bytes} {buffer} rb) = keeping_round-bytes file (kept count held) bytes buffer fb rb
one-bytes file held count fb (in_step_lem {run} {names} {buffer} nb small) =
    keeping-step-bytes file (position_in run) names (kept count held) buffer fb nb small
one-bytes file held count fb (in_other {run} {names} nb small given stay) = other-bytes file run names fb nb small given
one-bytes file held count fb (in_turn {state = state} {buffer = buffer} sb) =
    unfold memory_after turn_call in turn-bytes file state buffer fb sb

pub kept_by_calls : KeptByCalls
unfolding all_made_lem
kept_by_calls file held count [] fb none_made_lem m = (m, rest-same (kept count held))
kept_by_calls file held count (c ∷ cs) fb (next_made k ks) m =
    let (matches, rest) = one_kept file held count fb k m in
    let (after, later) = kept_by_calls (made_on count file held c).0 (made_on count file held c).1 count cs (one-bytes file held count fb k) ks matches in
    (after, rest_trans rest later)

-- ---- the question

-- a place that is told
at_told : (h : Held) (told : ℕ) → told ≢ nobody_place → (place_of h ≡ told) ↔ (h ≡ at told)
unfolding place_of
at_told nobody told other = (λ e. absurd (other (sym e)), λ e. let z : ◌≡◌ {A = ℕ} 0 1 = cc in absurd (omega arith))
at_told (at place) told other = (λ e. ap (λ (k : ℕ). at k) e, λ e. let is : place ≡ told = cc in is)

-- nobody, where no place of the table is TTPA_NOBODY
nobody-told : (c : Cluster) (name : ℕ) → length c.slaves ≤ nobody_place → (h : Held) → first_holder c name ≡ h → place_of h ≡ nobody_place → h ≡ nobody
unfolding place_of
nobody-told c name few nobody e z = refl
nobody-told c name few (at place) e z =
    let there = (((full_readings c name).place place).0 e).there in absurd (omega (arith, there, few, z, length-map c.slaves logical_name))

asked :
    (file held : List ℕ) (count name place : ℕ) → Matches file (kept count held) → length (decode file).slaves ≤ nobody_place →
    AnswersAsRead file held count name place
asked file held count name place m few =
    let c = decode file in
    let h = first_holder c name in
    let readings = full_readings c name in
    let reading : holder_call held count name place ≡ (0, place_of h) =
    unfold holder_call number_in lent_after in rw (question_is-reading file name count held m) in
    let told : (holder_call held count name place).1 ≡ place_of h = ap (λ (r : ℕ × ℕ). r.1) reading in
    record {
      reading = reading;
      found = λ n less.
          let at_n = at_told h n (λ e. omega (arith, less, few, e)) in
          (λ e. (readings.place n).0 (at_n.0 (sym told ∙ e)), λ f. told ∙ at_n.1 ((readings.place n).1 f));
      none = (
        λ e. readings.none.0 (nobody-told c name few h refl (sym told ∙ e)),
        λ a. told ∙ ap (λ (g : Held). place_of g) (readings.none.1 a) ∙ unfold place_of in refl,
      );
    }

-- a summary that matches has as many names as the file has slaves
matched_size : (file : List ℕ) {count : ℕ} {held : List ℕ} → Matches file (kept count held) → length (decode file).slaves ≡ count
unfolding logical_names
matched_size file {count} {held} (given_names few same) =
    sym (length-map (decode file).slaves logical_name) ∙ sym (ap (λ (l : List ℕ). length l) same) ∙ length-take-le count held few

-- ---- the filling

-- what a ttpa_fill that returns 0 leaves
record FilledBy (file held : List ℕ) (count : ℕ) : Type 0 where
  pub accepted : file_ground file ≡ 0
  pub matches : Matches file (kept (fill_call file held count).1 (fill_call file held count).2)

filled_by : (file held : List ℕ) (count : ℕ) → (fill_call file held count).0 ≡ 0 → FilledBy file held count
unfolding fill_call number_in lent_after
filled_by file held count e =
    by_case (eqb (file_ground file) 0)
    (λ z.
    let none : file_ground file ≡ 0 = eqb-true _ _ z in
    by_case (ltb (length held) (length (decode file).slaves))
    (λ t. absurd (let is : ◌≡◌ {A = ℕ} 24 0 = rw ((fillings_refused file held).of_room none (ltb-true _ _ t)) at e in omega (arith, is)))
    (λ f.
    let (answer, filled) = filling_matches file held none (ltb-false _ _ f) in
    record { accepted = none; matches = rw answer filled.matches }))
    (λ z.
    let some : file_ground file ≢ 0 = eqb-false _ _ z in
    absurd (let is : file_ground file ≡ 0 = rw ((fillings_refused file held).of_file some) at e in some is))

pub filled_and_asked : FilledAndAsked
filled_and_asked file held count fb returns calls ks name place =
    let filled = filled_by file held count returns in
    let n = (fill_call file held count).1 in
    let m = (kept_by_calls file (fill_call file held count).2 n calls fb ks filled.matches).0 in
    let after = all_made_lem n file (fill_call file held count).2 calls in
    let most = few-slaves (decode file) (accepted-legal file fb filled.accepted) in
    let few : length (decode after.0).slaves ≤ nobody_place =
    unfold nobody_place in omega (arith, most, matched_size file filled.matches, matched_size after.0 m) in
    asked after.0 after.1 n name place m few

-- ---- demand 3's calls

pub record SameCall (names : List ℕ) (m : Memory) (c : CCall) : Type 0 where
  pub number : returned names m c ≡ returned names m (without_summary c)
  pub memory : memory_after names m c ≡ memory_after names m (without_summary c)
  pub may : (h : Bool) → permitted_call h m c ≡ permitted_call h m (without_summary c)
  pub halfway : (h : Bool) → halfway_on h m c ≡ halfway_on h m (without_summary c)

pub given-same : (names : List ℕ) (m : Memory) {c : CCall} → GivenRight m.file c → SameCall names m c
unfolding without_summary
given-same names m step_without = record { number = refl; memory = refl; may = λ h. refl; halfway = λ h. refl }
given-same names m round_without = record { number = refl; memory = refl; may = λ h. refl; halfway = λ h. refl }
given-same names m trace_without = record { number = refl; memory = refl; may = λ h. refl; halfway = λ h. refl }
given-same names m turn_without = record { number = refl; memory = refl; may = λ h. refl; halfway = λ h. refl }
given-same names m (step_matching {buffer} {senders} {held} {count} right) =
    let given = steps_with_summary m.file m.run names buffer senders held count in
    let same = given.same (λ e. (given.by24.0 e).1 right) in
    record {
      number = unfold returned in ap (λ (r : ℕ × ℕ × List ℕ × List ℕ × List ℕ). r.0) same;
      memory = unfold memory_after in ap (λ (r : ℕ × ℕ × List ℕ × List ℕ × List ℕ). record { file = r.4; run = r.2 }) same;
      may = λ h. unfold permitted_call in refl;
      halfway = λ h. unfold halfway_on in refl;
    }
given-same names m (round_matching {bytes} {buffer} {senders} {held} {count} right) =
    let given = rounds_with_summary m.file bytes buffer senders held count in
    let same = given.same (λ e. (given.by24.0 e).1 right) in
    record {
      number = unfold returned in ap (λ (r : ℕ × ℕ × List ℕ × List ℕ). r.0) same;
      memory = unfold memory_after in ap (λ (r : ℕ × ℕ × List ℕ × List ℕ). record { file = r.3; run = m.run }) same;
      may = λ h. unfold permitted_call in refl;
      halfway = λ h. unfold halfway_on in refl;
    }

pub given_makes_no_difference_in_calls : GivenMakesNoDifferenceInCalls
unfolding numbers after_calls permitted
given_makes_no_difference_in_calls names m [] no_calls = record { number = refl; memory = refl; may = λ h. refl }
given_makes_no_difference_in_calls names m (c ∷ cs) (one_more_lem right rights) =
    let same = given-same names m right in
    let rest : NoDifference names (memory_after names m (without_summary c)) cs =
    subst (λ (q : Memory). NoDifference names q cs) same.memory (given_makes_no_difference_in_calls names (memory_after names m c) cs rights) in
    record {
      number = rw (same.number, same.memory, rest.number);
      memory = rw same.memory rest.memory;
      may = λ h.
          let carried = eqb (returned names m (without_summary c)) 0 in
          rw (same.number, same.may h, same.halfway h, same.memory)
          (ap (λ (b : Bool). both (cond carried (permitted_call h m (without_summary c)) true) b)
          (rest.may (cond carried (halfway_on h m (without_summary c)) h)));
    }
