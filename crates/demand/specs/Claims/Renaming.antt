-- "The trade now treats the logical name as changed by baptizing only." (document 02, job 5), over every list of calls: naming steps,
-- frames and traces, one after the other on a file and a run. The other calls write no file. (`cluster/specs/Claims/Renaming` and
-- `naming/specs/Claims/Renaming` have what a baptism changes, and the same of one frame and of one step.)
use Rattle.std.specs.Prelude.{ℕ, ◌^◌, ◌<◌, ◌≡◌, List, [], ◌∷◌}
use Rattle.file.specs.Rules.Bytes.{Bytes, All}
use Rattle.cluster.specs.Claims.Renaming.{Baptizes, names_of}
use Rattle.cluster.specs.Rules.Summary.{round_keeping_ground}
use Rattle.naming.specs.Rules.Position.{Position}
use Rattle.naming.specs.Rules.Pass.{bits}
use Rattle.naming.specs.Rules.Step.{step_keeping_ground}
use Rattle.naming.specs.Rules.Account.{StepArguments, FrameArguments, Call, step, frame}
use Rattle.naming.specs.Claims.Demand.{State, start_on, call_on}
use Rattle.naming.specs.Claims.Renaming.{StepBaptizes}
use Rattle.demand.specs.Claims.Traces.{CallOrTrace, AllBytes, singly, after_all}
use Rattle.demand.specs.Claims.DemandCalls.{CCall, GivenBytes, after_calls, memory_of, arguments_of_all}

-- a call does not baptize: a step, or a frame. One that is given a summary that does not match is refused, whatever it would do without.
pub data NoBaptism (names : List ℕ) (s : State) (p : Position) : Call → Type 0 where
  in_step :
      {arguments : StepArguments} →
      (step_keeping_ground s.file p names arguments.summary arguments.buffer ≡ 0 → StepBaptizes s.file p names arguments.buffer → ⊥) →
      NoBaptism names s p (step arguments)
  in_frame :
      {arguments : FrameArguments} →
      (round_keeping_ground s.file arguments.summary arguments.bytes arguments.buffer ≡ 0 →
      (name : ℕ) → Baptizes s.file arguments.bytes arguments.buffer name → ⊥) → NoBaptism names s p (frame arguments)

-- none of the calls does, each on the file and the run as they then are
pub data NoneBaptizes (names : List ℕ) : State → Position → List Call → Type 0 where
  no_calls : {s : State} {p : Position} → NoneBaptizes names s p []
  one_more_lem : {s : State} {p : Position} {c : Call} {cs : List Call} →
      NoBaptism names s p c → NoneBaptizes names (call_on names s p c).0 (call_on names s p c).1 cs → NoneBaptizes names s p (c ∷ cs)

-- then nobody is renamed, from a position whose value is one of 64 bits, the frames of a trace being sent singly
abbrev pub CallsRenameNobody : Type 0
CallsRenameNobody =
    (file names : List ℕ) (p : Position) (calls : List CallOrTrace) → Bytes file → Bytes names → p.place.value < 2 ^ bits → All AllBytes calls →
    NoneBaptizes names (start_on file) p (singly calls) → names_of (after_all names (start_on file) p calls).0.file ≡ names_of file

-- and so over the C calls ttpa_step, ttpa_step_keeping, ttpa_round, ttpa_round_keeping, ttpa_trace and ttpa_turn, on the bytes of the file
-- and the eight stored words
abbrev pub CCallsRenameNobody : Type 0
CCallsRenameNobody =
    (file names : List ℕ) (p : Position) (calls : List CCall) → Bytes file → Bytes names → p.place.value < 2 ^ bits → All GivenBytes calls →
    NoneBaptizes names (start_on file) p (singly (arguments_of_all names (memory_of (start_on file) p) calls)) →
    names_of (after_calls names (memory_of (start_on file) p) calls).file ≡ names_of file
