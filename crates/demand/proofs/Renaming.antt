-- Over a list of calls of which none baptizes nobody is renamed: steps and frames leave every logical name, and a trace is its frames.
-- Assumes nothing.
use Prim.Native.Nat.{ℕ, ◌^◌, ◌<◌}
use mathlib.Core.Path.{◌≡◌, refl, ◌∙◌, subst}
use mathlib.Core.List.{List, [], ◌∷◌}
use lib.Dec.{eqb}
use borrow.Author.Tests.{eqb-true, eqb-false}
use Rattle.file.specs.Rules.Bytes.{Bytes, All, All.all_empty, All.all_next as also}
use Rattle.file.proofs.Order.{by_case}
use Rattle.cluster.specs.Claims.Renaming.{names_of}
use Rattle.cluster.specs.Rules.Summary.{round_keeping_ground}
use Rattle.cluster.proofs.Keeping.{keeping-accepted, keeping_refused}
use Rattle.cluster.proofs.Renaming.{only-baptizing_renames}
use Rattle.naming.specs.Rules.Position.{Position}
use Rattle.naming.specs.Rules.Pass.{bits}
use Rattle.naming.specs.Rules.Step.{step_keeping_ground}
use Rattle.naming.specs.Rules.Account.{StepArguments, FrameArguments, Call, step, frame}
use Rattle.naming.specs.Claims.Demand.{State, start_on, call_on, after_calls, OfBytes, of_frame, of_step}
use Rattle.naming.proofs.StepKeeping.{step-keeping-refused, step-keeping-accepted}
use Rattle.naming.proofs.Renaming.{only-baptizing-steps_rename}
use Rattle.naming.proofs.Summaries.{keeping-step-bytes, keeping-step-value, keeping_round-bytes}
use Rattle.demand.specs.Claims.Traces.{singly}
use Rattle.demand.specs.Claims.Renaming.{NoBaptism, in_step, in_frame, NoneBaptizes, no_calls, one_more_lem, CallsRenameNobody, CCallsRenameNobody}
use Rattle.demand.specs.Claims.DemandCalls.{memory_of, arguments_of_all}
use Rattle.demand.proofs.Traces.{all-sent-singly, singly_of_bytes}
use Rattle.demand.proofs.DemandCalls.{calls-memory, all-given}

-- a call that is given a summary leaves the file, or is the call without
step-names :
    (names : List ℕ) (s : State) (p : Position) (arguments : StepArguments) → Bytes s.file → Bytes names → p.place.value < 2 ^ bits → NoBaptism names s p (step arguments) →
    names_of (call_on names s p (step arguments)).0.file ≡ names_of s.file
unfolding call_on
step-names names s p arguments fb nb small (in_step none) =
    by_case (eqb (step_keeping_ground s.file p names arguments.summary arguments.buffer) 0)
    (λ t.
    let g = eqb-true (step_keeping_ground s.file p names arguments.summary arguments.buffer) 0 t in
    rw (step-keeping-accepted s.file p names arguments.summary arguments.buffer g)
    (only-baptizing-steps_rename s.file p names arguments.buffer fb nb small (none g)))
    (λ f. rw (step-keeping-refused s.file p names arguments.summary arguments.buffer (eqb-false _ _ f)))

frame-names :
    (names : List ℕ) (s : State) (p : Position) (arguments : FrameArguments) → Bytes s.file → Bytes arguments.bytes → NoBaptism names s p (frame arguments) →
    names_of (call_on names s p (frame arguments)).0.file ≡ names_of s.file
unfolding call_on
frame-names names s p arguments fb rb (in_frame none) =
    by_case (eqb (round_keeping_ground s.file arguments.summary arguments.bytes arguments.buffer) 0)
    (λ t.
    let g = eqb-true (round_keeping_ground s.file arguments.summary arguments.bytes arguments.buffer) 0 t in
    rw (keeping-accepted s.file arguments.summary arguments.bytes arguments.buffer g)
    (only-baptizing_renames s.file arguments.bytes arguments.buffer fb rb (none g)))
    (λ f. rw (keeping_refused s.file arguments.summary arguments.bytes arguments.buffer (eqb-false _ _ f)))

calls-rename :
    (names : List ℕ) (s : State) (p : Position) (calls : List Call) → Bytes s.file → Bytes names → p.place.value < 2 ^ bits → All OfBytes calls → NoneBaptizes names s p calls →
    names_of (after_calls names s p calls).0.file ≡ names_of s.file
unfolding after_calls
calls-rename names s p [] fb nb small all_empty no_calls = refl
calls-rename names s p (step arguments ∷ cs) fb nb small (also of_step os) (one_more_lem none rest) =
    calls-rename names (call_on names s p (step arguments)).0 (call_on names s p (step arguments)).1 cs
    (unfold call_on in keeping-step-bytes s.file p names arguments.summary arguments.buffer fb nb small) nb
    (unfold call_on in keeping-step-value s.file p names arguments.summary arguments.buffer small) os rest
    ∙ step-names names s p arguments fb nb small none
calls-rename names s p (frame arguments ∷ cs) fb nb small (also (of_frame rb) os) (one_more_lem none rest) =
    calls-rename names (call_on names s p (frame arguments)).0 (call_on names s p (frame arguments)).1 cs
    (unfold call_on in keeping_round-bytes s.file arguments.summary arguments.bytes arguments.buffer fb rb) nb
    (unfold call_on in small) os rest
    ∙ frame-names names s p arguments fb rb none

pub calls_rename_nobody : CallsRenameNobody
unfolding start_on
calls_rename_nobody file names p calls fb nb small os none =
    subst (λ (w : State × Position). names_of w.0.file ≡ names_of file) (all-sent-singly names (start_on file) p calls)
    (calls-rename names (start_on file) p (singly calls) fb nb small (singly_of_bytes os) none)

pub c_calls_rename_nobody : CCallsRenameNobody
c_calls_rename_nobody file names p calls fb nb small given none =
    let begun = memory_of (start_on file) p in
    rw (calls-memory names (start_on file) p calls)
    (calls_rename_nobody file names p (arguments_of_all names begun calls) fb nb small (all-given names begun given) none)
