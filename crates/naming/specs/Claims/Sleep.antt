-- Who is awake after naming steps, and throughout the lists of demand 3 (document 02, job 9: "A sleeping slave .. is awake after the next
-- accepted MSD or multipartner round."). Each round of a run ends with an MSD.
use Rattle.std.specs.Prelude.{ℕ, ◌^◌, ◌<◌, ◌≡◌, ◌≢◌, List, ◌∷◌, ◌++◌, true}
use Rattle.file.specs.Rules.Bytes.{Bytes, All}
use Rattle.file.specs.Rules.FileGrounds.{file_ground}
use Rattle.frame.specs.Rules.Fireworks.{msa}
use Rattle.cluster.specs.Rules.RoundGrounds.{round_by_lem}
use Rattle.cluster.specs.Rules.Summary.{Summary, round_keeping_ground}
use Rattle.cluster.specs.Claims.Sleep.{AllAwake}
use Rattle.naming.specs.Rules.Position.{Position, running, fresh}
use Rattle.naming.specs.Rules.Pass.{bits}
use Rattle.naming.specs.Rules.RunGrounds.{start_ground}
use Rattle.naming.specs.Rules.Step.{step_keeping_ground, step_keeping}
use Rattle.naming.specs.Rules.Account.{StepArguments, FrameArguments, Call, step, frame}
use Rattle.naming.specs.Claims.Demand.{State, start_on, call_on, permitted, after_calls, OfBytes}

-- ---- a step, given a summary or not (without one it is `step_on`: `StepWithout`), of every position whose value is one of 64 bits, also of
-- one that no run reaches

-- an accepted step of a running position makes a round: all are awake after it, whoever slept
abbrev pub StepWakes : Type 0
StepWakes =
    (file : List ℕ) (p : Position) (names : List ℕ) (summary : Summary) (buffer : List ℕ) → Bytes file → Bytes names → p.place.value < 2 ^ bits →
    step_keeping_ground file p names summary buffer ≡ 0 → p.end ≡ running → AllAwake (step_keeping file p names summary buffer).3

-- any other makes none, refused or of an ended run: it leaves the file, and so wakes nobody
abbrev pub NoRoundWakesNobody : Type 0
NoRoundWakesNobody =
    (file : List ℕ) (p : Position) (names : List ℕ) (summary : Summary) (buffer : List ℕ) →
    (step_keeping_ground file p names summary buffer ≡ 0 → p.end ≢ running) → (step_keeping file p names summary buffer).3 ≡ file

-- ---- the lists of demand 3

-- a call that wakes all: an accepted step of a running position, an accepted frame that is no MSA
pub data Wakes (names : List ℕ) (s : State) (p : Position) : Call → Type 0 where
  wakes_by_step :
      {arguments : StepArguments} → step_keeping_ground s.file p names arguments.summary arguments.buffer ≡ 0 → p.end ≡ running →
      Wakes names s p (step arguments)
  wakes_by_frame :
      {arguments : FrameArguments} → round_keeping_ground s.file arguments.summary arguments.bytes arguments.buffer ≡ 0 →
      round_by_lem arguments.bytes ≢ msa → Wakes names s p (frame arguments)

-- all are awake at the start of the calls, or are woken by one of them
pub data Woken (names : List ℕ) : State → Position → List Call → Type 0 where
  from_start : {s : State} {p : Position} {cs : List Call} → AllAwake s.file → Woken names s p cs
  by_first_lem : {s : State} {p : Position} {c : Call} {cs : List Call} → Wakes names s p c → Woken names s p (c ∷ cs)
  later :
      {s : State} {p : Position} {c : Call} {cs : List Call} → Woken names (call_on names s p c).0 (call_on names s p c).1 cs →
      Woken names s p (c ∷ cs)

-- then all are awake after them: no call that demand 3 permits puts anyone to sleep
abbrev pub StaysAwake : Type 0
StaysAwake =
    (file : List ℕ) → Bytes file → file_ground file ≡ 0 → (names : List ℕ) → Bytes names → start_ground names ≡ 0 → (cs ds : List Call) →
    All OfBytes cs → permitted names (start_on file) (fresh names) (cs ++ ds) ≡ true → Woken names (start_on file) (fresh names) cs →
    AllAwake (after_calls names (start_on file) (fresh names) cs).0.file

-- so too as soon as the run counts a round, the extra read
abbrev pub CountedAwake : Type 0
CountedAwake =
    (file : List ℕ) → Bytes file → file_ground file ≡ 0 → (names : List ℕ) → Bytes names → start_ground names ≡ 0 → (cs ds : List Call) →
    All OfBytes cs → permitted names (start_on file) (fresh names) (cs ++ ds) ≡ true →
    (after_calls names (start_on file) (fresh names) cs).1.counts.rounds ≢ 0 → AllAwake (after_calls names (start_on file) (fresh names) cs).0.file
