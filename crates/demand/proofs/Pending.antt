-- What was pending before a list of calls without an accepted MSA is pending after it: steps leave the file, frames leave what is
-- pending, and a trace is its frames.
-- Assumes nothing.
use Prim.Native.Nat.{ℕ}
use mathlib.Core.Path.{◌≡◌, refl, sym, ◌∙◌, subst}
use mathlib.Core.List.{List, [], ◌∷◌}
use lib.Dec.{eqb}
use borrow.Author.Tests.{eqb-true, eqb-false}
use Rattle.file.specs.Rules.Bytes.{Bytes, All, All.all_empty, All.all_next as also}
use Rattle.file.specs.Rules.Decode.{decode}
use Rattle.file.proofs.Order.{by_case}
use Rattle.cluster.specs.Rules.Summary.{Summary, round_keeping_ground, round_keeping}
use Rattle.cluster.specs.Claims.Pending.{file_after, AcceptedMsa, Pending}
use Rattle.cluster.specs.Claims.Pending as frames
use Rattle.cluster.proofs.Keeping.{keeping-accepted, keeping_refused}
use Rattle.cluster.proofs.StaysPending.{stays_pending}
use Rattle.naming.specs.Rules.Position.{Position, running}
use Rattle.naming.specs.Rules.Step.{step_keeping_ground, step_keeping}
use Rattle.naming.specs.Rules.Account.{Call, step, frame}
use Rattle.naming.specs.Claims.Demand.{State, start_on, call_on, after_calls, OfBytes, of_frame, of_step}
use Rattle.naming.proofs.StepLaws.{step-ended}
use Rattle.naming.proofs.StepKeeping.{keeping_step, step-keeping-refused, step-keeping-accepted}
use Rattle.naming.proofs.Summaries.{keeping_round-bytes}
use Rattle.demand.specs.Claims.Traces.{singly}
use Rattle.demand.specs.Claims.Pending.{in_step, in_frame, NoMsaAmong, no_calls, one_more_lem, CallsStayPending, CCallsStayPending}
use Rattle.demand.specs.Claims.DemandCalls.{memory_of, arguments_of_all}
use Rattle.demand.proofs.Traces.{all-sent-singly, singly_of_bytes}
use Rattle.demand.proofs.DemandCalls.{calls-memory, all-given}

-- the same is pending in both files
abbrev Same : List ℕ → List ℕ → Type 0
Same f g = Pending (decode g) (decode f).flag (decode f).pending_name (decode f).pending_pb2 (decode f).pending_pb3

same_refl : (f : List ℕ) → Same f f
same_refl f = record { is_flag = refl; is_name = refl; is_pb2 = refl; is_pb3 = refl }

same_trans : (f g h : List ℕ) → Same f g → Same g h → Same f h
same_trans f g h p q =
    record {
      is_flag = q.is_flag ∙ p.is_flag;
      is_name = q.is_name ∙ p.is_name;
      is_pb2 = q.is_pb2 ∙ p.is_pb2;
      is_pb3 = q.is_pb3 ∙ p.is_pb3;
    }

-- a step that makes no round leaves the file
step_leaves :
    (file names : List ℕ) (p : Position) (summary : Summary) (buffer : List ℕ) → (step_keeping_ground file p names summary buffer ≡ 0 → p.end ≡ running → ⊥) →
    (step_keeping file p names summary buffer).3 ≡ file
step_leaves file names p summary buffer none =
    by_case (eqb (step_keeping_ground file p names summary buffer) 0)
    (λ e.
    let g = eqb-true (step_keeping_ground file p names summary buffer) 0 e in
    rw (step-keeping-accepted file p names summary buffer g, step-ended file p names buffer (keeping_step file p names summary buffer g) (none g)))
    (λ e. rw (step-keeping-refused file p names summary buffer (eqb-false _ _ e)))

-- a frame that is no accepted MSA leaves what is pending
frame-leaves :
    (file : List ℕ) (summary : Summary) (bytes buffer : List ℕ) → Bytes file → Bytes bytes →
    (round_keeping_ground file summary bytes buffer ≡ 0 → AcceptedMsa file bytes buffer → ⊥) → Same file (round_keeping file summary bytes buffer).2
unfolding file_after
frame-leaves file summary bytes buffer fb rb none =
    by_case (eqb (round_keeping_ground file summary bytes buffer) 0)
    (λ e.
    let g = eqb-true (round_keeping_ground file summary bytes buffer) 0 e in
    rw (keeping-accepted file summary bytes buffer g)
    (stays_pending file (record { frame = bytes; buffer = buffer } ∷ []) fb (also rb all_empty) (frames.one_more_lem (none g) frames.no_calls)))
    (λ e. rw (keeping_refused file summary bytes buffer (eqb-false _ _ e)) (same_refl file))

calls-leave :
    (names : List ℕ) (s : State) (p : Position) (calls : List Call) → Bytes s.file → All OfBytes calls → NoMsaAmong names s p calls →
    Same s.file (after_calls names s p calls).0.file
unfolding after_calls call_on
calls-leave names s p [] fb all_empty no_calls = same_refl s.file
calls-leave names s p (step arguments ∷ cs) fb (also of_step os) (one_more_lem (in_step none) rest) =
    let t : State = (call_on names s p (step arguments)).0 in
    let q : Position = (call_on names s p (step arguments)).1 in
    let stays : s.file ≡ t.file = sym (step_leaves s.file names p arguments.summary arguments.buffer none) in
    same_trans s.file t.file (after_calls names t q cs).0.file
    (subst (λ (f : List ℕ). Same s.file f) stays (same_refl s.file))
    (calls-leave names t q cs (subst (λ (f : List ℕ). Bytes f) stays fb) os rest)
calls-leave names s p (frame arguments ∷ cs) fb (also (of_frame rb) os) (one_more_lem (in_frame none) rest) =
    let t : State = (call_on names s p (frame arguments)).0 in
    same_trans s.file t.file (after_calls names t p cs).0.file
    (frame-leaves s.file arguments.summary arguments.bytes arguments.buffer fb rb none)
    (calls-leave names t p cs (keeping_round-bytes s.file arguments.summary arguments.bytes arguments.buffer fb rb) os rest)

pub calls_stay_pending : CallsStayPending
unfolding start_on
calls_stay_pending file names p calls fb os none =
    subst (λ (w : State × Position). Same file w.0.file) (all-sent-singly names (start_on file) p calls)
    (calls-leave names (start_on file) p (singly calls) fb (singly_of_bytes os) none)

pub c_calls_stay_pending : CCallsStayPending
c_calls_stay_pending file names p calls fb given none =
    let begun = memory_of (start_on file) p in
    rw (calls-memory names (start_on file) p calls)
    (calls_stay_pending file names p (arguments_of_all names begun calls) fb (all-given names begun given) none)
