-- "An accepted MSA sets the epoch to PB0 and becomes pending until the next one" (document 01, "What slaves do"), over every list of
-- calls: naming steps, frames, traces and turns, one after the other on a file and a run. (`cluster/specs/Claims/Pending` has that it
-- becomes pending, and the same of frames alone.)
use Rattle.std.specs.Prelude.{ℕ, ◌≡◌, List, [], ◌∷◌}
use Rattle.file.specs.Rules.Bytes.{Bytes, All}
use Rattle.file.specs.Rules.Decode.{decode}
use Rattle.cluster.specs.Rules.Summary.{round_keeping_ground}
use Rattle.cluster.specs.Claims.Pending.{AcceptedMsa, Pending}
use Rattle.naming.specs.Rules.Position.{Position, running}
use Rattle.naming.specs.Rules.Step.{step_keeping_ground}
use Rattle.naming.specs.Rules.Account.{StepArguments, FrameArguments, Call, step, frame}
use Rattle.naming.specs.Claims.Demand.{State, start_on, call_on}
use Rattle.demand.specs.Claims.Traces.{CallOrTrace, AllBytes, singly, after_all}
use Rattle.demand.specs.Claims.DemandCalls.{CCall, GivenBytes, after_calls, memory_of, arguments_of_all}

-- no MSA is accepted in a call. A step of a running position sends an MSA of its own, so this is a step that is refused, or of an ended
-- run.
pub data NoMsa (names : List ℕ) (s : State) (p : Position) : Call → Type 0 where
  in_step :
      {arguments : StepArguments} →
      (step_keeping_ground s.file p names arguments.summary arguments.buffer ≡ 0 → p.end ≡ running → ⊥) → NoMsa names s p (step arguments)
  in_frame :
      {arguments : FrameArguments} →
      (round_keeping_ground s.file arguments.summary arguments.bytes arguments.buffer ≡ 0 →
      AcceptedMsa s.file arguments.bytes arguments.buffer → ⊥) → NoMsa names s p (frame arguments)

-- in none of the calls, each on the file and the run as they then are
pub data NoMsaAmong (names : List ℕ) : State → Position → List Call → Type 0 where
  no_calls : {s : State} {p : Position} → NoMsaAmong names s p []
  one_more_lem : {s : State} {p : Position} {c : Call} {cs : List Call} →
      NoMsa names s p c → NoMsaAmong names (call_on names s p c).0 (call_on names s p c).1 cs → NoMsaAmong names s p (c ∷ cs)

-- what was pending stays pending over every list of calls without an accepted MSA, the frames of a trace being sent singly
abbrev pub CallsStayPending : Type 0
CallsStayPending =
    (file names : List ℕ) (p : Position) (calls : List CallOrTrace) → Bytes file → All AllBytes calls → NoMsaAmong names (start_on file) p (singly calls) →
    Pending (decode (after_all names (start_on file) p calls).0.file)
    (decode file).flag (decode file).pending_name (decode file).pending_pb2 (decode file).pending_pb3

-- and so over the C calls, of which a turn that serves a screen sends an MSA
abbrev pub CCallsStayPending : Type 0
CCallsStayPending =
    (file names : List ℕ) (p : Position) (calls : List CCall) → Bytes file → All GivenBytes calls →
    NoMsaAmong names (start_on file) p (singly (arguments_of_all names (memory_of (start_on file) p) calls)) →
    Pending (decode (after_calls names (memory_of (start_on file) p) calls).file)
    (decode file).flag (decode file).pending_name (decode file).pending_pb2 (decode file).pending_pb3
