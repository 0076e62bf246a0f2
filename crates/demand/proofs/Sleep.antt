-- Who is awake over lists of C calls. In the lists of demand 3, what wakes there wakes over files and positions, the frames of a trace sent
-- singly. In every list, one call after the other.
-- Assumes nothing.
use Prim.Native.Nat.{ℕ, ◌^◌, ◌<◌}
use mathlib.Core.Path.{◌≡◌, refl, sym, ap, ◌∙◌, subst}
use mathlib.Core.Logic.{◌≢◌}
use mathlib.Core.List.{List, [], ◌∷◌, ◌++◌, map, append-nil}
use mathlib.Core.Bool.{true, false}
use lib.ListN.{replicate}
use lib.Dec.{eqb}
use borrow.Author.Tests.{eqb-true, eqb-false}
use Rattle.file.specs.Rules.Bytes.{Bytes, All, all_next}
use Rattle.file.proofs.Order.{by_case}
use Rattle.master_slave.specs.Rules.Bus.{slots}
use Rattle.cluster.specs.Rules.Round.{round_on}
use Rattle.cluster.specs.Rules.Summary.{round_keeping_ground}
use Rattle.cluster.specs.Claims.Sleep.{AllAwake}
use Rattle.cluster.proofs.Keeping.{keeping-round, keeping-accepted, keeping_refused}
use Rattle.trace.specs.Rules.Trace.{frames_of}
use Rattle.trace.specs.Rules.TraceRun.{sent}
use Rattle.trace.specs.Claims.Sleep.{sent_ground}
use Rattle.trace.proofs.Calls.{run-whole}
use Rattle.trace.proofs.Sleep.{frame-wakes, frame_stays}
use Rattle.naming.specs.Rules.Position.{Position, running, fresh}
use Rattle.naming.specs.Rules.Pass.{bits}
use Rattle.naming.specs.Rules.RunGrounds.{start_ground}
use Rattle.naming.specs.Rules.Step.{step_keeping_ground}
use Rattle.naming.specs.Rules.Account.{Call, step, frame}
use Rattle.naming.specs.Claims.Demand.{State, start_on, call_on, after_calls as after_rules, permitted as permitted_by_rules, OfBytes, of_step, of_frame}
use Rattle.naming.specs.Claims.Sleep.{Wakes, wakes_by_step, wakes_by_frame, Woken, Woken.from_start as at_start, Woken.by_first_lem as at_first, Woken.later as after_first_lem}
use Rattle.naming.proofs.Sleep.{step-wakes, no_round-wakes-nobody, stays_awake, counted-awake}
use Rattle.naming.proofs.Summaries.{keeping-step-bytes, keeping-step-value, keeping_round-bytes}
use Rattle.naming.proofs.Unasked.{step_unasked, frame_unasked, frame-plain}
use Rattle.ttpa.specs.Rules.Calls.{position_in}
use Rattle.demand.specs.Claims.DemandCalls.{CCall, ttpa_step, ttpa_step_keeping, ttpa_round, ttpa_round_keeping, ttpa_trace_lem, turn_frames, Memory}
use Rattle.demand.specs.Claims.DemandCalls.{returned, memory_after, after_calls, permitted, started, is-step, is-step_keeping, memory_of}
use Rattle.demand.specs.Claims.DemandCalls.{arguments_of, arguments_of_all}
use Rattle.demand.specs.Claims.Traces.{CallOrTrace, after_all, frame_call, frames_singly, singly}
use Rattle.demand.specs.Claims.Sleep.{SomeWakes, this_one, later_one, MayWake, by_step, by_round, by_round_keeping, by_trace, by_turn}
use Rattle.demand.specs.Claims.Sleep.{WokenByCalls, from_start, by_first_lem, later, CallsStayAwake, CallsCountedAwake}
use Rattle.demand.specs.Claims.Sleep.{NoSleepBy, in_step, in_frame, NoneSleeps, no_calls, one_more_lem, AwakeToEnd, awake_before, woken_by, woken_after, CCallsWake}
use Rattle.demand.proofs.Traces.{singly-append, singly_of_bytes, all-sent-singly}
use Rattle.demand.proofs.DemandCalls.{frames_alone, ground_of, call-number, call-memory, calls-memory, all-given, runs-accepted}
use Rattle.demand.proofs.DemandCalls.{start-number, start-memory, start-same, by_rules, after-by-rules, position-back}
use Rattle.demand.proofs.Permitted.{calls-apart}

-- ---- what wakes

-- calls in front of those that wake
woken_behind : (names : List ℕ) (s : State) (p : Position) (cs : List Call) {ds : List Call} →
    Woken names (after_rules names s p cs).0 (after_rules names s p cs).1 ds → Woken names s p (cs ++ ds)
unfolding after_rules
woken_behind names s p [] w = w
woken_behind names s p (c ∷ cs) w = after_first_lem (woken_behind names (call_on names s p c).0 (call_on names s p c).1 cs w)

-- a frame of a trace, sent singly
frames_wake : (names : List ℕ) (s : State) (p : Position) {file : List ℕ} {xs : List (List ℕ)} (ds : List Call) → s.file ≡ file →
    SomeWakes file xs → Woken names s p (map frame_call xs ++ ds)
unfolding frame_call sent
frames_wake names s p ds here (this_one {x = x} accepted other) =
    at_first (wakes_by_frame (frame_unasked s.file x (replicate slots 0) ∙ ap (λ (f : List ℕ). sent_ground f x) here ∙ accepted) other)
frames_wake names s p ds here (later_one {x = x} rest) =
    let next = call_on names s p (frame_call x) in
    let same : next.0.file ≡ (round_on s.file x (replicate slots 0)).2 = ap (λ (w : State × Position). w.0.file) (frame-plain names s p x (replicate slots 0)) in
    after_first_lem (frames_wake names next.0 next.1 ds (same ∙ ap (λ (f : List ℕ). (round_on f x (replicate slots 0)).2) here) rest)

module _ (names : List ℕ) (s : State) (p : Position) where
  none_of : (c : CCall) → returned names (memory_of s p) c ≡ 0 → ground_of names s p c ≡ 0
  none_of c e = sym (call-number names s p c) ∙ e

  running-there : (position_in (memory_of s p).run).end ≡ running → p.end ≡ running
  running-there e = sym (ap (λ (q : Position). q.end) (position-back p)) ∙ e

  one-wakes : {c : CCall} (ds : List Call) → returned names (memory_of s p) c ≡ 0 → MayWake (memory_of s p) c →
      Woken names s p (singly (arguments_of s.file c) ++ ds)
  unfolding singly arguments_of ground_of
  one-wakes ds e (by_step (is-step {buffer} {senders}) going) =
      at_first (wakes_by_step (step_unasked s.file p names buffer ∙ none_of (ttpa_step buffer senders) e) (running-there going))
  one-wakes ds e (by_step (is-step_keeping {buffer} {senders} {held} {count}) going) =
      at_first (wakes_by_step (none_of (ttpa_step_keeping buffer senders held count) e) (running-there going))
  one-wakes ds e (by_round {bytes} {buffer} {senders} other) =
      at_first (wakes_by_frame (frame_unasked s.file bytes buffer ∙ none_of (ttpa_round bytes buffer senders) e) other)
  one-wakes ds e (by_round_keeping {bytes} {buffer} {senders} {held} {count} other) =
      at_first (wakes_by_frame (none_of (ttpa_round_keeping bytes buffer senders held count) e) other)
  one-wakes ds e (by_trace {t} {report} some) =
      unfold frames_singly in
      rw (run-whole s.file t (none_of (ttpa_trace_lem t report) e), append-nil (map frame_call (frames_of t)))
      (frames_wake names s p ds refl some)
  one-wakes ds e (by_turn {state} {buffer} some) = rw (frames_alone (turn_frames s.file state buffer)) (frames_wake names s p ds refl some)

  -- what wakes behind calls and traces
  wakes-behind : (cs : List CallOrTrace) {ds : List Call} → Woken names (after_all names s p cs).0 (after_all names s p cs).1 ds →
      Woken names s p (singly cs ++ ds)
  wakes-behind cs {ds} w =
      woken_behind names s p (singly cs)
      (subst (λ (after : State × Position). Woken names after.0 after.1 ds) (sym (all-sent-singly names s p cs)) w)

calls_wake : (names : List ℕ) (s : State) (p : Position) {m : Memory} {cs : List CCall} → m ≡ memory_of s p → WokenByCalls names m cs →
    Woken names s p (singly (arguments_of_all names m cs))
unfolding arguments_of_all
calls_wake names s p here (from_start up) = at_start (subst (λ (m : Memory). AllAwake m.file) here up)
calls_wake names s p {m} here (by_first_lem {c = c} {cs = cs} e wakes) =
    rw (singly-append (arguments_of m.file c) _, here)
    (one-wakes names s p _ (ap (λ (k : Memory). returned names k c) (sym here) ∙ e) (subst (λ (k : Memory). MayWake k c) here wakes))
calls_wake names s p {m} here (later {c = c} {cs = cs} rest) =
    let after = after_all names s p (arguments_of s.file c) in
    let next = ap (λ (k : Memory). memory_after names k c) here ∙ call-memory names s p c in
    rw (singly-append (arguments_of m.file c) _)
    (subst (λ (f : List ℕ). Woken names s p (singly (arguments_of f c) ++ singly (arguments_of_all names (memory_after names m c) cs)))
    (sym (ap (λ (k : Memory). k.file) here))
    (wakes-behind names s p (arguments_of s.file c) (calls_wake names after.0 after.1 next rest)))

-- ---- from ttpa_start

-- what is said of the file after the frames sent singly, said of the memory after the calls
module _ (file names run : List ℕ) (none : start_ground names ≡ 0) where
  abbrev begun : Memory
  begun = started file names run

  front-may : (calls more : List CCall) → permitted false names begun (calls ++ more) ≡ true →
      permitted_by_rules names (start_on file) (fresh names)
      (by_rules names begun calls ++ by_rules names (after_calls names begun calls) more) ≡ true
  front-may calls more may =
      ap (permitted_by_rules names (start_on file) (fresh names)) (sym (calls-apart names begun calls more))
      ∙ sym (start-same file names run none (calls ++ more))
      ∙ may

pub calls_stay_awake : CallsStayAwake
calls_stay_awake file b taken names n run fresh-run calls more given may woken =
    let begun = started file names run in
    let none : start_ground names ≡ 0 = sym (start-number names run) ∙ fresh-run in
    subst (λ (m : Memory). AllAwake m.file) (sym (after-by-rules file names run none calls))
    (stays_awake file b (runs-accepted taken) names n none (by_rules names begun calls) (by_rules names (after_calls names begun calls) more)
    (singly_of_bytes (all-given names begun given))
    (front-may file names run none calls more may)
    (calls_wake names (start_on file) (fresh names) (start-memory file names run none) woken))

pub calls_counted-awake : CallsCountedAwake
calls_counted-awake file b taken names n run fresh-run calls more given may =
    let begun = started file names run in
    let none : start_ground names ≡ 0 = sym (start-number names run) ∙ fresh-run in
    subst (λ (m : Memory). (position_in m.run).counts.rounds ≢ 0 → AllAwake m.file) (sym (after-by-rules file names run none calls))
    (λ some.
    counted-awake file b (runs-accepted taken) names n none (by_rules names begun calls) (by_rules names (after_calls names begun calls) more)
    (singly_of_bytes (all-given names begun given))
    (front-may file names run none calls more may)
    (λ z. some (ap (λ (q : Position). q.counts.rounds) (position-back _) ∙ z)))

-- ---- every list

module _ (names : List ℕ) (nb : Bytes names) (s : State) (p : Position) where
  -- file and position stay what the laws of a call ask
  next-bytes : (c : Call) → OfBytes c → Bytes s.file → p.place.value < 2 ^ bits → Bytes (call_on names s p c).0.file
  unfolding call_on
  next-bytes (step arguments) of_step fb small =
      keeping-step-bytes s.file p names arguments.summary arguments.buffer fb nb small
  next-bytes (frame arguments) (of_frame rb) fb small =
      keeping_round-bytes s.file arguments.summary arguments.bytes arguments.buffer fb rb

  next-value : (c : Call) → p.place.value < 2 ^ bits → (call_on names s p c).1.place.value < 2 ^ bits
  unfolding call_on
  next-value (step arguments) small = keeping-step-value s.file p names arguments.summary arguments.buffer small
  next-value (frame arguments) small = small

  call-wakes : {c : Call} → OfBytes c → Bytes s.file → p.place.value < 2 ^ bits → Wakes names s p c → NoSleepBy s c →
      AllAwake (call_on names s p c).0.file
  unfolding call_on
  call-wakes of_step fb small (wakes_by_step {arguments} k going) none =
      step-wakes s.file p names arguments.summary arguments.buffer fb nb small k going
  call-wakes (of_frame rb) fb small (wakes_by_frame {arguments} k other) (in_frame none) =
      rw (keeping-accepted s.file arguments.summary arguments.bytes arguments.buffer k)
      (frame-wakes s.file arguments.bytes arguments.buffer fb rb
      (keeping-round s.file arguments.summary arguments.bytes arguments.buffer k) other (none k))

  call_stays : {c : Call} → OfBytes c → Bytes s.file → p.place.value < 2 ^ bits → NoSleepBy s c → AllAwake s.file →
      AllAwake (call_on names s p c).0.file
  unfolding call_on
  call_stays of_step fb small (in_step {arguments}) up =
      let same = no_round-wakes-nobody s.file p names arguments.summary arguments.buffer in
      by_case (eqb (step_keeping_ground s.file p names arguments.summary arguments.buffer) 0)
      (λ z.
      by_case (eqb p.end running)
      (λ e. step-wakes s.file p names arguments.summary arguments.buffer fb nb small (eqb-true _ _ z) (eqb-true _ _ e))
      (λ e. subst AllAwake (sym (same (λ k. eqb-false _ _ e))) up))
      (λ z. subst AllAwake (sym (same (λ k. absurd (eqb-false _ _ z k)))) up)
  call_stays (of_frame rb) fb small (in_frame {arguments} none) up =
      by_case (eqb (round_keeping_ground s.file arguments.summary arguments.bytes arguments.buffer) 0)
      (λ z.
      let k = eqb-true (round_keeping_ground s.file arguments.summary arguments.bytes arguments.buffer) 0 z in
      rw (keeping-accepted s.file arguments.summary arguments.bytes arguments.buffer k)
      (frame_stays s.file arguments.bytes arguments.buffer fb rb (none k) up))
      (λ z. rw (keeping_refused s.file arguments.summary arguments.bytes arguments.buffer (eqb-false _ _ z)) up)

module _ (names : List ℕ) (nb : Bytes names) where
  all_stay :
      (s : State) (p : Position) {cs : List Call} → Bytes s.file → p.place.value < 2 ^ bits → All OfBytes cs → NoneSleeps names s p cs →
      AllAwake s.file → AllAwake (after_rules names s p cs).0.file
  unfolding after_rules
  all_stay s p fb small os no_calls up = up
  all_stay s p fb small (all_next {a = c} o os) (one_more_lem none rest) up =
      all_stay (call_on names s p c).0 (call_on names s p c).1 (next-bytes names nb s p c o fb small) (next-value names nb s p c small) os
      rest
      (call_stays names nb s p o fb small none up)

  all-wake :
      (s : State) (p : Position) {cs : List Call} → Bytes s.file → p.place.value < 2 ^ bits → All OfBytes cs → AwakeToEnd names s p cs →
      AllAwake (after_rules names s p cs).0.file
  unfolding after_rules
  all-wake s p fb small os (awake_before up none) = all_stay s p fb small os none up
  all-wake s p fb small (all_next {a = c} o os) (woken_by wakes (one_more_lem none rest)) =
      all_stay (call_on names s p c).0 (call_on names s p c).1 (next-bytes names nb s p c o fb small) (next-value names nb s p c small) os
      rest
      (call-wakes names nb s p o fb small wakes none)
  all-wake s p fb small (all_next {a = c} o os) (woken_after rest) =
      all-wake (call_on names s p c).0 (call_on names s p c).1 (next-bytes names nb s p c o fb small) (next-value names nb s p c small) os
      rest

pub c_calls_wake : CCallsWake
c_calls_wake file names p calls fb nb small given wakes =
    let begun = memory_of (start_on file) p in
    rw (calls-memory names (start_on file) p calls)
    (subst (λ (w : State × Position). AllAwake w.0.file) (all-sent-singly names (start_on file) p (arguments_of_all names begun calls))
    (all-wake names nb (start_on file) p (unfold start_on in fb) small (singly_of_bytes (all-given names begun given)) wakes))
