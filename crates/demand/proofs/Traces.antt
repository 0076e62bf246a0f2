-- Demand 3 over lists with traces, from demand 3: a trace leaves what its frames leave that are sent singly, so a list with traces
-- leaves what the list leaves in which its frames stand for each trace.
-- Assumes nothing.
use Prim.Native.Nat.{ℕ, ◌≤◌}
use native.Mathlib.Omega.{arith}
use mathlib.Core.Path.{◌≡◌, refl, sym, ap, ◌∙◌}
use mathlib.Core.Logic.{◌≢◌}
use mathlib.Core.List.{List, [], ◌∷◌, ◌++◌, map, append_assoc}
use mathlib.Core.Bool.{Bool, true, false}
use lib.ListN.{length, replicate, length-replicate}
use lib.Dec.{eqb}
use borrow.Author.Tests.{eqb-true, eqb-false}
use Rattle.file.specs.Rules.Bytes.{Bytes, All, All.all_empty, All.all_next as also}
use Rattle.file.specs.Rules.FileGrounds.{file_ground}
use Rattle.file.proofs.Order.{by_case}
use Rattle.master_slave.specs.Rules.Bus.{slots}
use Rattle.cluster.specs.Rules.Round.{round_ground}
use Rattle.cluster.proofs.Rounds.{round-refused, round_facts}
use Rattle.trace.specs.Rules.Trace.{frame_count, broken_trace, frames_of}
use Rattle.trace.specs.Rules.TraceRun.{sent, after_frames, trace_ground}
use Rattle.trace.proofs.Runs.{sent_any, frames-bytes}
use Rattle.trace.proofs.Calls as call
use Rattle.naming.specs.Rules.Position.{Position, fresh}
use Rattle.naming.specs.Rules.RunGrounds.{start_ground}
use Rattle.naming.specs.Rules.Account.{Call, Account, account_call, account_after}
use Rattle.naming.specs.Claims.Demand.{State, start_on, halfway_after, call_on, permitted, after_calls, OfBytes, of_frame, Demand}
use Rattle.naming.specs.Claims.PermittedRounds.{SentBy, no_frames, one_more_lem}
use Rattle.naming.proofs.OverBytes.{demand_3, throughout}
use Rattle.naming.proofs.Unasked.{plain_frame, frame-plain}
use Rattle.demand.specs.Claims.Traces.{CallOrTrace, AllBytes, in_call, in_trace, halfway_from, halfway_after_trace, after_trace, call_or_trace_on, after_all}
use Rattle.demand.specs.Claims.Traces.{frame_call, frames_singly, singly, traces_aside, TraceSentInOrder, TraceSentSingly, AllSentSingly, AccountTracesAside, DemandWithTraces}

-- ---- frames sent singly

-- what they leave
unfoldable pub after_singly : State → List (List ℕ) → State
after_singly s xs = record { file = after_frames s.file xs; halfway = halfway_from s.halfway s.file xs }

pub frames-singly :
    (names : List ℕ) (s : State) (p : Position) (xs : List (List ℕ)) → after_calls names s p (map frame_call xs) ≡ (after_singly s xs, p)
unfolding after_singly after_calls call_on frame_call after_frames halfway_from sent
frames-singly names s p [] = refl
frames-singly names s p (x ∷ xs) =
    frames-singly names (call_on names s p (frame_call x)).0 p xs
    ∙ ap (λ (w : State × Position). (after_singly w.0 xs, p)) (frame-plain names s p x (replicate slots 0))

-- with any buffers of 64 bytes or more
pub zeros-long : slots ≤ length {A = ℕ} (replicate slots 0)
zeros-long = omega (arith, length-replicate {A = ℕ} slots 0)

frames_in_order : (names : List ℕ) (s : State) (p : Position) {xs : List (List ℕ)} {cs : List Call} → SentBy xs cs → after_calls names s p cs ≡ (after_singly s xs, p)
unfolding after_singly after_calls call_on frame_call after_frames halfway_from sent
frames_in_order names s p no_frames = refl
frames_in_order names s p (one_more_lem {bytes = x} {buffer = buffer} {frames = xs} long rest) =
    frames_in_order names (call_on names s p (plain_frame x buffer)).0 p rest
    ∙ ap (λ (w : State × Position). (after_singly w.0 xs, p)) (frame-plain names s p x buffer)
    ∙ rw ((sent_any s.file x buffer long).answer, (sent_any s.file x buffer long).file)

-- on a file that is refused they leave all as it was
module _ (file : List ℕ) (some : file_ground file ≢ 0) where
  pub frame_refused : (x : List ℕ) → round_ground file x (replicate slots 0) ≢ 0
  frame_refused x z = some (round_facts file x (replicate slots 0) z).accepted

  file_stays : (xs : List (List ℕ)) → after_frames file xs ≡ file
  unfolding after_frames sent
  file_stays [] = refl
  file_stays (x ∷ xs) = rw (round-refused file x (replicate slots 0) (frame_refused x)) (file_stays xs)

  halfway_stays : (h : Bool) (xs : List (List ℕ)) → halfway_from h file xs ≡ h
  unfolding halfway_from sent halfway_after
  halfway_stays h [] = refl
  halfway_stays h (x ∷ xs) = rw (round-refused file x (replicate slots 0) (frame_refused x)) (halfway_stays h xs)

-- ---- a trace

module _ (s : State) (t : List ℕ) where
  pub trace-run : trace_ground s.file t ≡ 0 → after_trace s t ≡ after_singly s (frames_of t)
  unfolding after_trace after_singly halfway_after_trace
  trace-run none = rw (call.trace-run s.file t none)

  pub trace-refused : trace_ground s.file t ≢ 0 → after_trace s t ≡ s
  unfolding after_trace halfway_after_trace
  trace-refused some = rw (call.trace-refused s.file t some)

  -- a trace that breaks nothing, on a file that is refused
  pub file-refused : trace_ground s.file t ≢ 0 → broken_trace t ≡ false → after_singly s (frames_of t) ≡ s
  unfolding after_singly
  file-refused some whole =
      let bad : file_ground s.file ≢ 0 = λ z. some (call.none-holds s.file t z whole) in
      rw (file_stays s.file bad (frames_of t), halfway_stays s.file bad s.halfway (frames_of t))

pub trace-sent-singly : TraceSentSingly
unfolding frames_singly
trace-sent-singly names s p t =
    by_case (eqb (trace_ground s.file t) 0)
    (λ z.
    let none = eqb-true _ _ z in
    rw (call.run-whole s.file t none, trace-run s t none) (frames-singly names s p (frames_of t)))
    (λ z.
    let some = eqb-false _ _ z in
    by_case (broken_trace t)
    (λ broken. rw (broken, trace-refused s t some) (unfold after_calls in refl))
    (λ whole. rw (whole, trace-refused s t some) (frames-singly names s p (frames_of t) ∙ rw (file-refused s t some whole))))

pub trace-sent_in_order : TraceSentInOrder
trace-sent_in_order names s p t whole calls sends =
    frames_in_order names s p sends
    ∙ sym (frames-singly names s p (frames_of t))
    ∙ (let e = trace-sent-singly names s p t in unfold frames_singly in rw whole at e)

-- ---- lists

after-append :
    (names : List ℕ) (s : State) (p : Position) (cs ds : List Call) →
    after_calls names s p (cs ++ ds) ≡ after_calls names (after_calls names s p cs).0 (after_calls names s p cs).1 ds
unfolding after_calls
after-append names s p [] ds = refl
after-append names s p (c ∷ cs) ds = after-append names (call_on names s p c).0 (call_on names s p c).1 cs ds

pub singly-append : (cs ds : List CallOrTrace) → singly (cs ++ ds) ≡ singly cs ++ singly ds
unfolding singly
singly-append [] ds = refl
singly-append (CallOrTrace.call c ∷ cs) ds = ap (λ (l : List Call). c ∷ l) (singly-append cs ds)
singly-append (CallOrTrace.trace t ∷ cs) ds = rw (singly-append cs ds) (sym (append_assoc (frames_singly t) (singly cs) (singly ds)))

pub all-sent-singly : AllSentSingly
unfolding singly after_calls after_all call_or_trace_on
all-sent-singly names s p [] = refl
all-sent-singly names s p (CallOrTrace.call c ∷ cs) = all-sent-singly names (call_on names s p c).0 (call_on names s p c).1 cs
all-sent-singly names s p (CallOrTrace.trace t ∷ cs) =
    after-append names s p (frames_singly t) (singly cs) ∙ rw (trace-sent-singly names s p t) (all-sent-singly names (after_trace s t) p cs)

-- ---- the account

account_append : (a : Account) (cs ds : List Call) → account_after a (cs ++ ds) ≡ account_after (account_after a cs) ds
unfolding account_after
account_append a [] ds = refl
account_append a (c ∷ cs) ds = account_append (account_call a c) cs ds

frames_unaccounted : (a : Account) (xs : List (List ℕ)) → account_after a (map frame_call xs) ≡ a
unfolding account_after account_call frame_call
frames_unaccounted a [] = refl
frames_unaccounted a (x ∷ xs) = frames_unaccounted a xs

trace_unaccounted : (a : Account) (t : List ℕ) → account_after a (frames_singly t) ≡ a
unfolding frames_singly
trace_unaccounted a t =
    by_case (broken_trace t) (λ broken. rw broken (unfold account_after in refl)) (λ whole. rw whole (frames_unaccounted a (frames_of t)))

pub account_traces_aside : AccountTracesAside
unfolding singly traces_aside account_after
account_traces_aside a [] = refl
account_traces_aside a (CallOrTrace.call c ∷ cs) = account_traces_aside (account_call a c) cs
account_traces_aside a (CallOrTrace.trace t ∷ cs) =
    account_append a (frames_singly t) (singly cs) ∙ rw (trace_unaccounted a t) (account_traces_aside a cs)

-- ---- bytes

all_append : {cs ds : List Call} → All OfBytes cs → All OfBytes ds → All OfBytes (cs ++ ds)
all_append all_empty qs = qs
all_append (also p ps) qs = also p (all_append ps qs)

frames_of_bytes : {xs : List (List ℕ)} → All Bytes xs → All OfBytes (map frame_call xs)
unfolding frame_call
frames_of_bytes all_empty = all_empty
frames_of_bytes (also b bs) = also (of_frame b) (frames_of_bytes bs)

trace_of_bytes : {t : List ℕ} → Bytes t → All OfBytes (frames_singly t)
unfolding frames_singly frames_of
trace_of_bytes {t} b =
    by_case {P = All OfBytes (frames_singly t)} (broken_trace t) (λ broken. rw broken all_empty) (λ whole. rw whole (frames_of_bytes (frames-bytes b 4 (frame_count t))))

pub singly_of_bytes : {calls : List CallOrTrace} → All AllBytes calls → All OfBytes (singly calls)
unfolding singly
singly_of_bytes all_empty = all_empty
singly_of_bytes (also (in_call b) bs) = also b (singly_of_bytes bs)
singly_of_bytes (also (in_trace b) bs) = all_append (trace_of_bytes b) (singly_of_bytes bs)

-- ---- the theorem

-- what demand 3 says of two lists of calls that the account takes alike
same-account :
    {file names now : List ℕ} {p : Position} (cs ds : List Call) → ((a : Account) → account_after a cs ≡ account_after a ds) → Demand file names cs now p → Demand file names ds now p
same-account cs ds same d =
    record {
      accepted = d.accepted;
      logical = rw same at d.logical;
      end = rw same at d.end;
      rounds = rw same at d.rounds;
      comparisons = rw same at d.comparisons;
      fit = d.fit;
      grounds = d.grounds;
      outcome = d.outcome;
    }

-- what it says of the frames sent singly, said of the traces
of-traces :
    (file names : List ℕ) (calls : List CallOrTrace) →
    Demand file names (singly calls) (after_calls names (start_on file) (fresh names) (singly calls)).0.file (after_calls names (start_on file) (fresh names) (singly calls)).1 →
    Demand file names (traces_aside calls) (after_all names (start_on file) (fresh names) calls).0.file (after_all names (start_on file) (fresh names) calls).1
of-traces file names calls d =
    let e = same-account (singly calls) (traces_aside calls) (λ a. account_traces_aside a calls) d in
    rw (all-sent-singly names (start_on file) (fresh names) calls) at e

pub demand_with_traces : DemandWithTraces
demand_with_traces file b g names bytes accepted calls of-bytes may =
    of-traces file names calls (demand_3 file b g names bytes accepted (singly calls) (singly_of_bytes of-bytes) may)

-- Throughout: after the calls at the front of a permitted list, wherever it is cut.
pub throughout-with-traces :
    (file : List ℕ) → Bytes file → file_ground file ≡ 0 → (names : List ℕ) → Bytes names → start_ground names ≡ 0 → (cs ds : List CallOrTrace) →
    All AllBytes cs → permitted names (start_on file) (fresh names) (singly (cs ++ ds)) ≡ true →
    Demand file names (traces_aside cs) (after_all names (start_on file) (fresh names) cs).0.file (after_all names (start_on file) (fresh names) cs).1
throughout-with-traces file b g names bytes accepted cs ds of-bytes may =
    of-traces file names cs
    (throughout file b g names bytes accepted (singly cs) (singly ds) (singly_of_bytes of-bytes) (rw (singly-append cs ds) at may))
