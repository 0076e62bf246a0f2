-- Demand 3 over the C calls, from demand 3 over lists with traces: a C call leaves in file and words what the rules' call leaves in file
-- and position, and returns 0 exactly where no ground holds, so that the same lists are permitted.
-- Assumes nothing.
use Prim.Native.Nat.{ℕ}
use mathlib.Core.Path.{◌≡◌, refl, sym, ap, ◌∙◌}
use mathlib.Core.Logic.{◌≢◌}
use native.Mathlib.Omega.{arith}
use mathlib.Core.List.{List, [], ◌∷◌, ◌++◌, map, append-nil, append_assoc}
use mathlib.Core.Bool.{Bool, true, false, cond}
use lib.ListN.{replicate}
use lib.Dec.{eqb}
use borrow.Author.Tests.{eqb-true, eqb-false, ne_eqb}
use Rattle.file.specs.Rules.Bytes.{Bytes, All, All.all_empty, All.all_next as also}
use Rattle.file.specs.Rules.Order.{both}
use Rattle.file.specs.Rules.Results.{refused, done, result_of, number_in}
use Rattle.file.specs.Rules.Cluster.{logical_names}
use Rattle.file.specs.Rules.Decode.{decode}
use Rattle.file.specs.Rules.FileGrounds.{file_ground, has_repeat, held_names, load_ground, load_verdict}
use Rattle.file.proofs.Bytes.{all_append}
use Rattle.file.proofs.Order.{by_case, both_true, both-next}
use Rattle.file.proofs.Results.{file-most, load_first, load_file, load_twice, result_done}
use Rattle.master_slave.specs.Rules.Bus.{slots}
use Rattle.cluster.specs.Rules.RoundGrounds.{round_by_lem}
use Rattle.cluster.specs.Rules.Round.{Answer, round_ground, round_on}
use Rattle.cluster.specs.Rules.Summary.{Summary, without, kept, round_keeping_ground, round_keeping}
use Rattle.cluster.proofs.Keeping.{keeping-round, keeping-accepted, keeping_refused}
use Rattle.cluster.proofs.Rounds.{round-refused, round-accepted}
use Rattle.trace.specs.Rules.Trace.{broken_trace, frames_of}
use Rattle.trace.specs.Rules.TraceRun.{sent, after_frames, trace_ground, trace_on}
use Rattle.trace.proofs.Calls as call
use Rattle.naming.specs.Rules.Position.{Position, running, fresh}
use Rattle.naming.specs.Rules.RunGrounds.{start_ground, start_over}
use Rattle.naming.specs.Rules.Step.{made_by_lem, step_ground, step_on, step_keeping_ground, step_keeping}
use Rattle.screens.specs.Rules.Turn.{turn_on}
use Rattle.naming.specs.Rules.Account.{Call, step, frame, Account, names_in_lem, account_of, account_call, account_after}
use Rattle.naming.specs.Claims.Demand.{State, start_on, halfway_after, of_step, of_frame, Demand}
use Rattle.naming.specs.Claims.Demand as rules
use Rattle.naming.proofs.Lists.{accepted-halfway}
use Rattle.naming.proofs.HeldOnce.{demand-loadable}
use Rattle.naming.proofs.StepLaws.{step-refused, step-ended, step-made}
use Rattle.naming.proofs.StepKeeping.{keeping_step, step-keeping-accepted, step-keeping-refused}
use Rattle.naming.proofs.Unasked.{plain_step, plain_frame, step_unasked, step-plain, frame-plain, step_plain_may, frame-plain-may}
use Rattle.ttpa.specs.Rules.Calls.{lent_after, check_call, start_call, step_call, step_words_lem, step_keeping_call, round_call, round_keeping_call}
use Rattle.ttpa.specs.Rules.Calls.{trace_call, turn_call, words_of, position_in}
use Rattle.demand.specs.Claims.Traces.{CallOrTrace, AllBytes, in_call, in_trace, halfway_from, halfway_after_trace, after_trace}
use Rattle.demand.specs.Claims.Traces.{call_or_trace_on, after_all, frame_call, frames_singly, singly, traces_aside}
use Rattle.demand.specs.Claims.DemandCalls.{CCall, ttpa_step, ttpa_step_keeping, ttpa_round, ttpa_round_keeping, ttpa_trace_lem, ttpa_turn, GivenBytes}
use Rattle.demand.specs.Claims.DemandCalls.{given-step, given-step_keeping, given-frame, given-frame-keeping, given-trace, given-turn}
use Rattle.demand.specs.Claims.DemandCalls.{Memory, returned, memory_after, after_calls}
use Rattle.demand.specs.Claims.DemandCalls.{turn_frames, permitted_frames, permitted_call, halfway_on, permitted, calls_fed, TakenByRounds}
use Rattle.demand.specs.Claims.DemandCalls.{loads, equal_names, CallsDemand, started}
use Rattle.demand.specs.Claims.DemandCalls.{DemandOverCalls, ThroughoutCalls, IsStep, is-step, is-step_keeping, StepsPermitted, memory_of}
use Rattle.demand.specs.Claims.DemandCalls.{arguments_of, arguments_of_all, SamePermitted}
use Rattle.demand.proofs.Traces.{after_singly, frames-singly, frame_refused, trace-run, trace-refused, file-refused, singly-append}
use Rattle.demand.proofs.Traces.{all-sent-singly, throughout-with-traces}
use Rattle.demand.proofs.TurnFrames.{turn-left, none-sent, turn-frames-bytes}

-- ---- numbers and words

number_result : {A : Type 0} (reason : ℕ) (value : A) → number_in (result_of reason value) ≡ reason
unfolding number_in result_of
number_result reason value = by_case (eqb reason 0) (λ z. rw z (sym (eqb-true reason 0 z))) (λ z. rw z)

pub position-back : (p : Position) → position_in (words_of p) ≡ p
unfolding position_in words_of
position-back p = refl

pub step-number : (file : List ℕ) (p : Position) (names buffer : List ℕ) → number_in (step_on file p names buffer).0 ≡ step_ground file p names buffer
unfolding number_in
step-number file p names buffer =
    by_case (eqb (step_ground file p names buffer) 0)
    (λ z.
    let none = eqb-true _ _ z in
    by_case (eqb p.end running)
    (λ e. rw (step-made file p names buffer none (eqb-true _ _ e)) (sym none))
    (λ e. rw (step-ended file p names buffer none (eqb-false _ _ e)) (sym none)))
    (λ z. rw (step-refused file p names buffer (eqb-false _ _ z)))

made_words : (a : Answer) (p : Position) (run : List ℕ) → step_words_lem (done (made_by_lem a)) p run ≡ words_of p
unfolding step_words_lem made_by_lem
made_words (refused n) p run = refl
made_words (done mask) p run = refl

step_words :
    (file : List ℕ) (p : Position) (names buffer : List ℕ) →
    step_words_lem (step_on file p names buffer).0 (step_on file p names buffer).1 (words_of p) ≡ words_of (step_on file p names buffer).1
unfolding step_words_lem
step_words file p names buffer =
    by_case (eqb (step_ground file p names buffer) 0)
    (λ z.
    let none = eqb-true _ _ z in
    by_case (eqb p.end running)
    (λ e. rw (step-made file p names buffer none (eqb-true _ _ e)) (made_words _ _ (words_of p)))
    (λ e. rw (step-ended file p names buffer none (eqb-false _ _ e))))
    (λ z. rw (step-refused file p names buffer (eqb-false _ _ z)))

-- given a summary
pub keeping-step-number :
    (file : List ℕ) (p : Position) (names : List ℕ) (summary : Summary) (buffer : List ℕ) →
    number_in (step_keeping file p names summary buffer).0 ≡ step_keeping_ground file p names summary buffer
keeping-step-number file p names summary buffer =
    by_case (eqb (step_keeping_ground file p names summary buffer) 0)
    (λ z.
    let none = eqb-true (step_keeping_ground file p names summary buffer) 0 z in
    rw (step-keeping-accepted file p names summary buffer none)
    (step-number file p names buffer ∙ keeping_step file p names summary buffer none ∙ sym none))
    (λ z. rw (step-keeping-refused file p names summary buffer (eqb-false _ _ z)) (unfold number_in in refl))

keeping-step-words :
    (file : List ℕ) (p : Position) (names : List ℕ) (summary : Summary) (buffer : List ℕ) →
    step_words_lem (step_keeping file p names summary buffer).0 (step_keeping file p names summary buffer).1 (words_of p) ≡
    words_of (step_keeping file p names summary buffer).1
keeping-step-words file p names summary buffer =
    by_case (eqb (step_keeping_ground file p names summary buffer) 0)
    (λ z. rw (step-keeping-accepted file p names summary buffer (eqb-true _ _ z)) (step_words file p names buffer))
    (λ z. rw (step-keeping-refused file p names summary buffer (eqb-false _ _ z)) (unfold step_words_lem in refl))

pub round_number : (file bytes buffer : List ℕ) → number_in (round_on file bytes buffer).0 ≡ round_ground file bytes buffer
unfolding number_in
round_number file bytes buffer =
    by_case (eqb (round_ground file bytes buffer) 0)
    (λ z. let none = eqb-true _ _ z in rw (round-accepted file bytes buffer none) (sym none))
    (λ z. rw (round-refused file bytes buffer (eqb-false _ _ z)))

-- given a summary
pub keeping-round-number :
    (file : List ℕ) (summary : Summary) (bytes buffer : List ℕ) →
    number_in (round_keeping file summary bytes buffer).0 ≡ round_keeping_ground file summary bytes buffer
keeping-round-number file summary bytes buffer =
    by_case (eqb (round_keeping_ground file summary bytes buffer) 0)
    (λ z.
    let none = eqb-true (round_keeping_ground file summary bytes buffer) 0 z in
    rw (keeping-accepted file summary bytes buffer none)
    (round_number file bytes buffer ∙ keeping-round file summary bytes buffer none ∙ sym none))
    (λ z. rw (keeping_refused file summary bytes buffer (eqb-false _ _ z)) (unfold number_in in refl))

pub trace-number : (file t : List ℕ) → number_in (trace_on file t).0 ≡ trace_ground file t
unfolding number_in
trace-number file t =
    by_case (eqb (trace_ground file t) 0)
    (λ z. let none = eqb-true _ _ z in rw (call.trace-run file t none) (sym none))
    (λ z. rw (call.trace-refused file t (eqb-false _ _ z)))

-- ---- a call

-- frames as calls of a list
pub frames_alone : (xs : List (List ℕ)) → singly (map (λ (x : List ℕ). CallOrTrace.call (frame_call x)) xs) ≡ map frame_call xs
unfolding singly
frames_alone [] = refl
frames_alone (x ∷ xs) = ap (λ (l : List Call). frame_call x ∷ l) (frames_alone xs)

pub frames-left :
    (names : List ℕ) (s : State) (p : Position) (xs : List (List ℕ)) →
    after_all names s p (map (λ (x : List ℕ). CallOrTrace.call (frame_call x)) xs) ≡ (after_singly s xs, p)
frames-left names s p xs =
    sym (all-sent-singly names s p (map (λ (x : List ℕ). CallOrTrace.call (frame_call x)) xs))
    ∙ ap (λ (l : List Call). rules.after_calls names s p l) (frames_alone xs)
    ∙ frames-singly names s p xs

-- the ground of a call
unfoldable pub ground_of : List ℕ → State → Position → CCall → ℕ
ground_of names s p (ttpa_step buffer senders) = step_ground s.file p names buffer
ground_of names s p (ttpa_step_keeping buffer senders held count) = step_keeping_ground s.file p names (kept count held) buffer
ground_of names s p (ttpa_round bytes buffer senders) = round_ground s.file bytes buffer
ground_of names s p (ttpa_round_keeping bytes buffer senders held count) = round_keeping_ground s.file (kept count held) bytes buffer
ground_of names s p (ttpa_trace_lem t report) = trace_ground s.file t
ground_of names s p (ttpa_turn state buffer senders screen) = number_in (turn_on state s.file buffer).0

module _ (names : List ℕ) (s : State) (p : Position) where
  pub call-number : (c : CCall) → returned names (memory_of s p) c ≡ ground_of names s p c
  unfolding returned ground_of step_call step_keeping_call round_call round_keeping_call trace_call turn_call
  call-number (ttpa_step buffer senders) = rw (position-back p) (step-number s.file p names buffer)
  call-number (ttpa_step_keeping buffer senders held count) = rw (position-back p) (keeping-step-number s.file p names (kept count held) buffer)
  call-number (ttpa_round bytes buffer senders) = round_number s.file bytes buffer
  call-number (ttpa_round_keeping bytes buffer senders held count) = keeping-round-number s.file (kept count held) bytes buffer
  call-number (ttpa_trace_lem t report) = trace-number s.file t
  call-number (ttpa_turn state buffer senders screen) = refl

  pub call-memory : (c : CCall) → let after = after_all names s p (arguments_of s.file c) in
      memory_after names (memory_of s p) c ≡ memory_of after.0 after.1
  unfolding memory_after arguments_of after_all call_or_trace_on after_trace step_call step_keeping_call round_call round_keeping_call trace_call
  call-memory (ttpa_step buffer senders) = rw (step-plain names s p buffer, position-back p, step_words s.file p names buffer)
  call-memory (ttpa_step_keeping buffer senders held count) =
      unfold rules.call_on in rw (position-back p, keeping-step-words s.file p names (kept count held) buffer)
  call-memory (ttpa_round bytes buffer senders) = rw (frame-plain names s p bytes buffer)
  call-memory (ttpa_round_keeping bytes buffer senders held count) = unfold rules.call_on in refl
  call-memory (ttpa_trace_lem t report) = refl
  call-memory (ttpa_turn state buffer senders screen) =
      unfold turn_call after_singly in
      rw (frames-left names s p (turn_frames s.file state buffer), turn-left s.file state buffer)

  call-halfway :
      (c : CCall) → cond (eqb (ground_of names s p c) 0) (halfway_on s.halfway (memory_of s p) c) s.halfway ≡
      (after_all names s p (arguments_of s.file c)).0.halfway
  unfolding ground_of halfway_on arguments_of after_all call_or_trace_on after_trace
  call-halfway (ttpa_step buffer senders) =
      by_case (eqb (step_ground s.file p names buffer) 0)
      (λ z. rw (z, step-plain names s p buffer))
      (λ z. rw (z, step-plain names s p buffer))
  call-halfway (ttpa_step_keeping buffer senders held count) =
      unfold rules.call_on in
      by_case (eqb (step_keeping_ground s.file p names (kept count held) buffer) 0)
      (λ z. rw z)
      (λ z. rw z)
  call-halfway (ttpa_round bytes buffer senders) =
      by_case (eqb (round_ground s.file bytes buffer) 0)
      (λ z. rw (z, frame-plain names s p bytes buffer) (sym (accepted-halfway s.halfway s.file bytes buffer (round_by_lem bytes) (eqb-true _ _ z) refl)))
      (λ z. rw (z, frame-plain names s p bytes buffer, round-refused s.file bytes buffer (eqb-false _ _ z)) (unfold halfway_after in refl))
  call-halfway (ttpa_round_keeping bytes buffer senders held count) =
      unfold rules.call_on in
      by_case (eqb (round_keeping_ground s.file (kept count held) bytes buffer) 0)
      (λ z.
      let none = eqb-true (round_keeping_ground s.file (kept count held) bytes buffer) 0 z in
      rw (z, keeping-accepted s.file (kept count held) bytes buffer none)
      (sym (accepted-halfway s.halfway s.file bytes buffer (round_by_lem bytes) (keeping-round s.file (kept count held) bytes buffer none) refl)))
      (λ z. rw (z, keeping_refused s.file (kept count held) bytes buffer (eqb-false _ _ z)) (unfold halfway_after in refl))
  call-halfway (ttpa_trace_lem t report) =
      by_case (eqb (trace_ground s.file t) 0)
      (λ z. rw (z, call.trace-run s.file t (eqb-true _ _ z)) (unfold halfway_after_trace in refl))
      (λ z. rw (z, call.trace-refused s.file t (eqb-false _ _ z)) (unfold halfway_after_trace in refl))
  call-halfway (ttpa_turn state buffer senders screen) =
      unfold after_singly in
      by_case (eqb (number_in (turn_on state s.file buffer).0) 0)
      (λ z. rw (z, frames-left names s p (turn_frames s.file state buffer)))
      (λ z. rw (z, none-sent s.file state buffer (eqb-false _ _ z)))

-- ---- lists

after_both :
    (names : List ℕ) (s : State) (p : Position) (cs ds : List CallOrTrace) →
    after_all names s p (cs ++ ds) ≡ after_all names (after_all names s p cs).0 (after_all names s p cs).1 ds
unfolding after_all
after_both names s p [] ds = refl
after_both names s p (c ∷ cs) ds = after_both names (call_or_trace_on names s p c).0 (call_or_trace_on names s p c).1 cs ds

pub calls-memory :
    (names : List ℕ) (s : State) (p : Position) (cs : List CCall) →
    let after = after_all names s p (arguments_of_all names (memory_of s p) cs) in
    after_calls names (memory_of s p) cs ≡ memory_of after.0 after.1
unfolding after_calls arguments_of_all
calls-memory names s p [] = unfold after_all in refl
calls-memory names s p (c ∷ cs) =
    let after = after_all names s p (arguments_of s.file c) in
    rw (after_both names s p (arguments_of s.file c), call-memory names s p c) (calls-memory names after.0 after.1 cs)

-- ---- permitted

both-both : (a b c : Bool) → both a (both b c) ≡ both (both a b) c
unfolding both
both-both true b c = refl
both-both false b c = refl

-- a frame sent singly
abbrev after_one : State → List ℕ → State
after_one s x =
    record {
      file = (round_on s.file x (replicate slots 0)).2;
      halfway = halfway_after s.halfway (round_on s.file x (replicate slots 0)).0 (round_by_lem x);
    }

-- frames sent singly, in front of other calls
frames-front :
    (names : List ℕ) (s : State) (p : Position) (xs : List (List ℕ)) (ds : List Call) →
    rules.permitted names s p (map frame_call xs ++ ds) ≡ both (permitted_frames s.halfway s.file xs) (rules.permitted names (after_singly s xs) p ds)
unfolding permitted_frames after_singly after_frames halfway_from rules.permitted frame_call sent
frames-front names s p [] ds = sym (both-next _ refl)
frames-front names s p (x ∷ xs) ds =
    rw (
      frame-plain-may names s p x (replicate slots 0),
      frame-plain names s p x (replicate slots 0),
      round_number s.file x (replicate slots 0),
      frames-front names (after_one s x) p xs ds,
    )
    (both-both _ _ _)

-- those of a trace on a file that is refused
frames-refused : (file : List ℕ) → file_ground file ≢ 0 → (h : Bool) (xs : List (List ℕ)) → permitted_frames h file xs ≡ true
unfolding permitted_frames sent number_in halfway_after
frames-refused file some h [] = refl
frames-refused file some h (x ∷ xs) =
    let none = frame_refused file some x in
    rw (round-refused file x (replicate slots 0) none, ne_eqb _ _ none) (both_true refl (frames-refused file some h xs))

trace-front :
    (names : List ℕ) (s : State) (p : Position) (t : List ℕ) (ds : List Call) →
    rules.permitted names s p (frames_singly t ++ ds) ≡
    both (cond (eqb (trace_ground s.file t) 0) (permitted_frames s.halfway s.file (frames_of t)) true) (rules.permitted names (after_trace s t) p ds)
unfolding frames_singly
trace-front names s p t ds =
    by_case (eqb (trace_ground s.file t) 0)
    (λ z.
    let none = eqb-true _ _ z in
    rw (z, call.run-whole s.file t none, trace-run s t none) (frames-front names s p (frames_of t) ds))
    (λ z.
    let some = eqb-false _ _ z in
    by_case (broken_trace t)
    (λ broken. rw (z, broken, trace-refused s t some) (sym (both-next _ refl)))
    (λ whole.
    let bad : file_ground s.file ≢ 0 = λ g. some (call.none-holds s.file t g whole) in
    rw (z, whole, trace-refused s t some)
    (frames-front names s p (frames_of t) ds ∙ rw (frames-refused s.file bad s.halfway (frames_of t), file-refused s t some whole))))

-- those of a turn: none if it is refused
turn-front :
    (names : List ℕ) (s : State) (p : Position) (state buffer : List ℕ) (ds : List Call) → let xs = turn_frames s.file state buffer in
    rules.permitted names s p (map frame_call xs ++ ds) ≡
    both (cond (eqb (number_in (turn_on state s.file buffer).0) 0) (permitted_frames s.halfway s.file xs) true)
    (rules.permitted names (after_singly s xs) p ds)
turn-front names s p state buffer ds =
    frames-front names s p (turn_frames s.file state buffer) ds
    ∙ by_case (eqb (number_in (turn_on state s.file buffer).0) 0)
    (λ z. rw z)
    (λ z. unfold permitted_frames in rw (z, none-sent s.file state buffer (eqb-false _ _ z)))

-- a call in front of others
call-front :
    (names : List ℕ) (s : State) (p : Position) (c : CCall) (ds : List Call) → let after = after_all names s p (arguments_of s.file c) in
    rules.permitted names s p (singly (arguments_of s.file c) ++ ds) ≡
    both (cond (eqb (ground_of names s p c) 0) (permitted_call s.halfway (memory_of s p) c) true)
    (rules.permitted names after.0 after.1 ds)
unfolding ground_of permitted_call arguments_of after_all call_or_trace_on singly
call-front names s p (ttpa_step buffer senders) ds = unfold rules.permitted in rw (step_plain_may names s p buffer)
call-front names s p (ttpa_step_keeping buffer senders held count) ds = unfold rules.permitted rules.permitted_call in refl
call-front names s p (ttpa_round bytes buffer senders) ds = unfold rules.permitted in rw (frame-plain-may names s p bytes buffer)
call-front names s p (ttpa_round_keeping bytes buffer senders held count) ds = unfold rules.permitted rules.permitted_call in refl
call-front names s p (ttpa_trace_lem t report) ds = rw (append-nil (frames_singly t)) (trace-front names s p t ds)
call-front names s p (ttpa_turn state buffer senders screen) ds =
    let xs = turn_frames s.file state buffer in
    rw (frames_alone xs, frames-left names s p xs) (turn-front names s p state buffer ds)

-- the lists permitted here are those that the rules permit
pub same-permitted : SamePermitted
unfolding permitted arguments_of_all
same-permitted names s p [] = unfold rules.permitted singly in refl
same-permitted names s p (c ∷ cs) =
    let after = after_all names s p (arguments_of s.file c) in
    let rest = arguments_of_all names (memory_of after.0 after.1) cs in
    rw (
      call-number names s p c,
      call-halfway names s p c,
      call-memory names s p c,
      same-permitted names after.0 after.1 cs,
    )
    (sym (ap (rules.permitted names s p) (singly-append (arguments_of s.file c) rest) ∙ call-front names s p c (singly rest)))

-- ---- the theorem

frames-given : {xs : List (List ℕ)} → All Bytes xs → All AllBytes (map (λ (x : List ℕ). CallOrTrace.call (frame_call x)) xs)
unfolding frame_call
frames-given all_empty = all_empty
frames-given (also b bs) = also (in_call (of_frame b)) (frames-given bs)

one-given : (file : List ℕ) {c : CCall} → GivenBytes c → All AllBytes (arguments_of file c)
unfolding arguments_of
one-given file given-step = also (in_call of_step) all_empty
one-given file given-step_keeping = also (in_call of_step) all_empty
one-given file (given-frame b) = also (in_call (of_frame b)) all_empty
one-given file (given-frame-keeping b) = also (in_call (of_frame b)) all_empty
one-given file (given-trace b) = also (in_trace b) all_empty
one-given file (given-turn {state} {buffer} b) = frames-given (turn-frames-bytes file state buffer b)

pub all-given : (names : List ℕ) (m : Memory) {cs : List CCall} → All GivenBytes cs → All AllBytes (arguments_of_all names m cs)
unfolding arguments_of_all
all-given names m all_empty = all_empty
all-given names m (also {a = c} g gs) = all_append (one-given m.file g) (all-given names (memory_after names m c) gs)

-- the account takes no notice of a turn's frames
turn-unaccounted :
    (a : Account) (xs : List (List ℕ)) (ds : List CallOrTrace) →
    account_after a (traces_aside (map (λ (x : List ℕ). CallOrTrace.call (frame_call x)) xs ++ ds)) ≡ account_after a (traces_aside ds)
unfolding traces_aside account_after account_call frame_call
turn-unaccounted a [] ds = refl
turn-unaccounted a (x ∷ xs) ds = turn-unaccounted a xs ds

calls-fed :
    (names : List ℕ) (m : Memory) (a : Account) (cs : List CCall) →
    account_after a (traces_aside (arguments_of_all names m cs)) ≡ account_after a (calls_fed cs)
unfolding traces_aside calls_fed arguments_of_all arguments_of account_after
calls-fed names m a [] = refl
calls-fed names m a (ttpa_step buffer senders ∷ cs) = calls-fed names (memory_after names m (ttpa_step buffer senders)) (account_call a (plain_step buffer)) cs
calls-fed names m a (ttpa_step_keeping buffer senders held count ∷ cs) =
    calls-fed names (memory_after names m (ttpa_step_keeping buffer senders held count)) (account_call a (step (record { summary = kept count held; buffer = buffer }))) cs
calls-fed names m a (ttpa_round bytes buffer senders ∷ cs) = calls-fed names (memory_after names m (ttpa_round bytes buffer senders)) (account_call a (plain_frame bytes buffer)) cs
calls-fed names m a (ttpa_round_keeping bytes buffer senders held count ∷ cs) =
    calls-fed names (memory_after names m (ttpa_round_keeping bytes buffer senders held count)) (account_call a (frame (record { summary = kept count held; bytes = bytes; buffer = buffer }))) cs
calls-fed names m a (ttpa_trace_lem t report ∷ cs) = calls-fed names (memory_after names m (ttpa_trace_lem t report)) a cs
calls-fed names m a (ttpa_turn state buffer senders screen ∷ cs) =
    turn-unaccounted a (turn_frames m.file state buffer) _ ∙ calls-fed names (memory_after names m (ttpa_turn state buffer senders screen)) a cs

pub check-number : (file : List ℕ) → check_call file ≡ load_ground file
unfolding check_call load_verdict
check-number file = number_result (load_ground file) tt

-- ttpa_check returns 0 or 22 exactly for the files that none of grounds 1 to 8 refuses
pub runs-accepted : {file : List ℕ} → TakenByRounds file → file_ground file ≡ 0
runs-accepted {file} (loads e) = load_file file (sym (check-number file) ∙ e)
runs-accepted {file} (equal_names e) =
    by_case (eqb (file_ground file) 0)
    (λ z. eqb-true _ _ z)
    (λ z.
    let own : 22 ≡ file_ground file = sym e ∙ check-number file ∙ load_first file (eqb-false _ _ z) in
    absurd (omega (arith, file-most file)))

pub accepted-runs : {file : List ℕ} → file_ground file ≡ 0 → TakenByRounds file
accepted-runs {file} g =
    by_case (has_repeat (held_names (logical_names (decode file))))
    (λ t. equal_names (check-number file ∙ load_twice file g ∙ rw t))
    (λ t. loads (check-number file ∙ load_twice file g ∙ rw t))

pub start-number : (names run : List ℕ) → (start_call names run).0 ≡ start_ground names
unfolding start_call start_over
start-number names run = number_result (start_ground names) (fresh names)

pub start-memory : (file names run : List ℕ) → start_ground names ≡ 0 → started file names run ≡ memory_of (start_on file) (fresh names)
unfolding start_call start_over lent_after start_on
start-memory file names run none = rw (result_done {value = fresh names} none)

-- the lists permitted after ttpa_start are those that the rules permit from a fresh run on
pub start-same :
    (file names run : List ℕ) → start_ground names ≡ 0 → (calls : List CCall) →
    permitted false names (started file names run) calls ≡
    rules.permitted names (start_on file) (fresh names) (singly (arguments_of_all names (started file names run) calls))
unfolding start_on
start-same file names run none calls = rw (start-memory file names run none) (same-permitted names (start_on file) (fresh names) calls)

-- and the memory after the calls is that of file and position after them
pub start-calls :
    (file names run : List ℕ) → start_ground names ≡ 0 → (calls : List CCall) →
    let after = after_all names (start_on file) (fresh names) (arguments_of_all names (started file names run) calls) in
    after_calls names (started file names run) calls ≡ memory_of after.0 after.1
start-calls file names run none calls = rw (start-memory file names run none) (calls-memory names (start_on file) (fresh names) calls)

-- the calls of demand 3 that a list of C calls stands for, the frames of traces and turns sent singly
abbrev pub by_rules : List ℕ → Memory → List CCall → List Call
by_rules names m calls = singly (arguments_of_all names m calls)

pub after-by-rules :
    (file names run : List ℕ) → start_ground names ≡ 0 → (calls : List CCall) →
    let after = rules.after_calls names (start_on file) (fresh names) (by_rules names (started file names run) calls) in
    after_calls names (started file names run) calls ≡ memory_of after.0 after.1
after-by-rules file names run none calls =
    let same = all-sent-singly names (start_on file) (fresh names) (arguments_of_all names (started file names run) calls) in
    start-calls file names run none calls ∙ sym (ap (λ (after : State × Position). memory_of after.0 after.1) same)

-- calls in front of others
pub arguments-append :
    (names : List ℕ) (m : Memory) (cs ds : List CCall) →
    arguments_of_all names m (cs ++ ds) ≡ arguments_of_all names m cs ++ arguments_of_all names (after_calls names m cs) ds
unfolding arguments_of_all after_calls
arguments-append names m [] ds = refl
arguments-append names m (c ∷ cs) ds =
    rw (arguments-append names (memory_after names m c) cs ds) (sym (append_assoc (arguments_of m.file c) _ _))

-- what demand 3 says of file and position, said of file and words
in_words :
    {file names : List ℕ} → Bytes file → Bytes names → start_ground names ≡ 0 →
    (m : Memory) (calls : List CCall) (s : State) (p : Position) →
    Demand file names (traces_aside (arguments_of_all names m calls)) s.file p → CallsDemand file names calls (memory_of s p)
unfolding words_of position_in
in_words {file} {names} b n none m calls s p d =
    let fed = calls-fed names m (account_of (names_in_lem (decode file)) names) calls in
    record {
      logical = rw fed at d.logical;
      end = rw fed at d.end;
      rounds = rw fed at d.rounds;
      comparisons = rw fed at d.comparisons;
      accepted = accepted-runs d.accepted;
      loaded = λ e. check-number s.file ∙ demand-loadable b (sym (check-number file) ∙ e) n none d;
      next = λ buffer senders.
          call-number names s p (ttpa_step buffer senders)
          ∙ unfold ground_of in (sym (step_unasked s.file p names buffer) ∙ d.grounds (record { summary = without; buffer = buffer }));
      next_keeping = λ buffer senders held count.
          call-number names s p (ttpa_step_keeping buffer senders held count)
          ∙ unfold ground_of in d.grounds (record { summary = kept count held; buffer = buffer });
      outcome = d.outcome;
    }

pub throughout_calls : ThroughoutCalls
throughout_calls file b checked names n run fresh-run calls more given may =
    let none : start_ground names ≡ 0 = sym (start-number names run) ∙ fresh-run in
    let begun = started file names run in
    let front = arguments_of_all names begun calls in
    let behind = arguments_of_all names (after_calls names begun calls) more in
    let d = throughout-with-traces file b (runs-accepted checked) names n none front behind (all-given names begun given)
    (rw (arguments-append names begun calls more) at (sym (start-same file names run none (calls ++ more)) ∙ may)) in
    let after = after_all names (start_on file) (fresh names) front in
    rw (start-calls file names run none calls) (in_words b n none begun calls after.0 after.1 d)

-- and of the whole list
pub demand_over_calls : DemandOverCalls
demand_over_calls file b checked names n run fresh-run calls given may =
    throughout_calls file b checked names n run fresh-run calls [] given (rw (append-nil calls) may)

-- ---- there are such lists

steps-from : (names : List ℕ) (m : Memory) {calls : List CCall} → All IsStep calls → permitted false names m calls ≡ true
unfolding permitted permitted_call halfway_on
steps-from names m all_empty = refl
steps-from names m (also (is-step {buffer} {senders}) steps) =
    let rest = steps-from names (memory_after names m (ttpa_step buffer senders)) steps in
    by_case (eqb (returned names m (ttpa_step buffer senders)) 0) (λ z. rw z (both_true refl rest)) (λ z. rw z (both_true refl rest))
steps-from names m (also (is-step_keeping {buffer} {senders} {held} {count}) steps) =
    let rest = steps-from names (memory_after names m (ttpa_step_keeping buffer senders held count)) steps in
    by_case (eqb (returned names m (ttpa_step_keeping buffer senders held count)) 0) (λ z. rw z (both_true refl rest)) (λ z. rw z (both_true refl rest))

pub steps-permitted : StepsPermitted
steps-permitted names m calls steps = steps-from names m steps
