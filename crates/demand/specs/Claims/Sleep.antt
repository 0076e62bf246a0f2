-- Who is awake over lists of C calls (document 02, job 9: "A sleeping slave .. is awake after the next accepted MSD or multipartner
-- round."): throughout the lists of demand 3, judged by the numbers returned and the words of the run; and after every list.
-- (`naming/specs/Claims/Sleep` has the former over files and positions, `trace/specs/Claims/Sleep` has who is awake after a trace.)
use Rattle.std.specs.Prelude.{ℕ, ◌^◌, ◌<◌, ◌≡◌, ◌≢◌, List, [], ◌∷◌, ◌++◌, true, false}
use Rattle.file.specs.Rules.Bytes.{Bytes, All}
use Rattle.frame.specs.Rules.Fireworks.{msa}
use Rattle.cluster.specs.Rules.RoundGrounds.{round_by_lem}
use Rattle.cluster.specs.Rules.Summary.{round_keeping_ground}
use Rattle.cluster.specs.Claims.Sleep.{AllAwake, PutsToSleep}
use Rattle.trace.specs.Rules.Trace.{frames_of}
use Rattle.trace.specs.Rules.TraceRun.{sent}
use Rattle.trace.specs.Claims.Sleep.{sent_ground}
use Rattle.naming.specs.Rules.Position.{Position, running}
use Rattle.naming.specs.Rules.Pass.{bits}
use Rattle.naming.specs.Rules.Account.{StepArguments, FrameArguments, Call, step, frame}
use Rattle.naming.specs.Claims.Demand.{State, start_on, call_on}
use Rattle.naming.specs.Claims.Sleep.{Wakes}
use Rattle.ttpa.specs.Rules.Calls.{start_call, position_in}
use Rattle.demand.specs.Claims.DemandCalls.{CCall, ttpa_round, ttpa_round_keeping, ttpa_trace_lem, ttpa_turn, turn_frames, GivenBytes, Memory}
use Rattle.demand.specs.Claims.DemandCalls.{returned, memory_after, after_calls, permitted, TakenByRounds, started, IsStep, memory_of}
use Rattle.demand.specs.Claims.DemandCalls.{arguments_of_all}
use Rattle.demand.specs.Claims.Traces.{singly}

-- ---- the lists of demand 3

-- one of the frames, sent one after the other on a file, is accepted and no MSA
pub data SomeWakes : List ℕ → List (List ℕ) → Type 0 where
  this_one : {file x : List ℕ} {xs : List (List ℕ)} → sent_ground file x ≡ 0 → round_by_lem x ≢ msa → SomeWakes file (x ∷ xs)
  later_one : {file x : List ℕ} {xs : List (List ℕ)} → SomeWakes (sent file x).2 xs → SomeWakes file (x ∷ xs)

-- a call that wakes all if it returns 0: a step of a running position; a frame that is no MSA; a trace or a turn that
-- sends such a frame, as each turn does that serves a screen (`Claims/Turns` ServedTurnsWake)
pub data MayWake (m : Memory) : CCall → Type 0 where
  by_step : {c : CCall} → IsStep c → (position_in m.run).end ≡ running → MayWake m c
  by_round : {bytes buffer : List ℕ} {senders : ℕ} → round_by_lem bytes ≢ msa → MayWake m (ttpa_round bytes buffer senders)
  by_round_keeping :
      {bytes buffer : List ℕ} {senders : ℕ} {held : List ℕ} {count : ℕ} → round_by_lem bytes ≢ msa →
      MayWake m (ttpa_round_keeping bytes buffer senders held count)
  by_trace : {t report : List ℕ} → SomeWakes m.file (frames_of t) → MayWake m (ttpa_trace_lem t report)
  by_turn :
      {state buffer : List ℕ} {senders screen : ℕ} → SomeWakes m.file (turn_frames m.file state buffer) →
      MayWake m (ttpa_turn state buffer senders screen)

-- all are awake at the start of the calls, or are woken by one of them
pub data WokenByCalls (names : List ℕ) : Memory → List CCall → Type 0 where
  from_start : {m : Memory} {cs : List CCall} → AllAwake m.file → WokenByCalls names m cs
  by_first_lem : {m : Memory} {c : CCall} {cs : List CCall} → returned names m c ≡ 0 → MayWake m c → WokenByCalls names m (c ∷ cs)
  later : {m : Memory} {c : CCall} {cs : List CCall} → WokenByCalls names (memory_after names m c) cs → WokenByCalls names m (c ∷ cs)

-- then all are awake after them
abbrev pub CallsStayAwake : Type 0
CallsStayAwake =
    (file : List ℕ) → Bytes file → TakenByRounds file →
    (names : List ℕ) → Bytes names → (run : List ℕ) → (start_call names run).0 ≡ 0 →
    (calls more : List CCall) → All GivenBytes calls → permitted false names (started file names run) (calls ++ more) ≡ true →
    WokenByCalls names (started file names run) calls → AllAwake (after_calls names (started file names run) calls).file

-- so too as soon as the run's words count a round, the extra read
abbrev pub CallsCountedAwake : Type 0
CallsCountedAwake =
    (file : List ℕ) → Bytes file → TakenByRounds file →
    (names : List ℕ) → Bytes names → (run : List ℕ) → (start_call names run).0 ≡ 0 →
    (calls more : List CCall) → All GivenBytes calls → permitted false names (started file names run) (calls ++ more) ≡ true →
    (position_in (after_calls names (started file names run) calls).run).counts.rounds ≢ 0 →
    AllAwake (after_calls names (started file names run) calls).file

-- ---- every list, permitted or not, on any file and from any position whose value is one of 64 bits; the frames of a trace are sent singly

-- a call puts nobody to sleep: a step never does; a frame that is no accepted MSD of an execute of record 4 of 0x08. One that is given a
-- summary that does not match is refused.
pub data NoSleepBy (s : State) : Call → Type 0 where
  in_step : {arguments : StepArguments} → NoSleepBy s (step arguments)
  in_frame :
      {arguments : FrameArguments} →
      (round_keeping_ground s.file arguments.summary arguments.bytes arguments.buffer ≡ 0 →
      (name : ℕ) → PutsToSleep s.file arguments.bytes arguments.buffer name → ⊥) → NoSleepBy s (frame arguments)

-- none of the calls does, each on the file and the run as they then are
pub data NoneSleeps (names : List ℕ) : State → Position → List Call → Type 0 where
  no_calls : {s : State} {p : Position} → NoneSleeps names s p []
  one_more_lem : {s : State} {p : Position} {c : Call} {cs : List Call} →
      NoSleepBy s c → NoneSleeps names (call_on names s p c).0 (call_on names s p c).1 cs → NoneSleeps names s p (c ∷ cs)

-- all are awake at the start of the calls, or are woken by one of them, and nobody is put to sleep from there on
pub data AwakeToEnd (names : List ℕ) : State → Position → List Call → Type 0 where
  awake_before : {s : State} {p : Position} {cs : List Call} → AllAwake s.file → NoneSleeps names s p cs → AwakeToEnd names s p cs
  woken_by : {s : State} {p : Position} {c : Call} {cs : List Call} →
      Wakes names s p c → NoneSleeps names s p (c ∷ cs) → AwakeToEnd names s p (c ∷ cs)
  woken_after : {s : State} {p : Position} {c : Call} {cs : List Call} →
      AwakeToEnd names (call_on names s p c).0 (call_on names s p c).1 cs → AwakeToEnd names s p (c ∷ cs)

-- then all are awake after them
abbrev pub CCallsWake : Type 0
CCallsWake =
    (file names : List ℕ) (p : Position) (calls : List CCall) → Bytes file → Bytes names → p.place.value < 2 ^ bits → All GivenBytes calls →
    AwakeToEnd names (start_on file) p (singly (arguments_of_all names (memory_of (start_on file) p) calls)) →
    AllAwake (after_calls names (memory_of (start_on file) p) calls).file
