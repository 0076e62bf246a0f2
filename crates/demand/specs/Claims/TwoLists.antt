-- Two lists of names, one run after the other, over the C calls that a program makes (document 02, job 11: "Show that running list A and
-- then list B from one accepted file, each to its end, the two having no name in common and both acceptable, leaves every slave with the
-- logical name that one run over A followed by B leaves, permitted rounds in between or not.").
use Rattle.std.specs.Prelude.{ℕ, ◌+◌, ◌≤◌, ◌≡◌, ◌↔◌, List, [], ◌∷◌, ◌++◌, true, false, cond, length, eqb}
use Rattle.file.specs.Rules.Bytes.{Bytes, All}
use Rattle.master_slave.specs.Rules.Bus.{slots}
use Rattle.naming.specs.Rules.Position.{Position, running}
use Rattle.naming.specs.Rules.Figures.{rounds_for, end_for}
use Rattle.naming.specs.Claims.TwoLists.{NoCommon, SecondRun, RunsTogether}
use Rattle.ttpa.specs.Rules.Calls.{start_call, position_in}
use Rattle.demand.specs.Claims.DemandCalls.{CCall, ttpa_step, ttpa_step_keeping, ttpa_round, ttpa_round_keeping, ttpa_trace_lem, ttpa_turn, GivenBytes}
use Rattle.demand.specs.Claims.DemandCalls.{Memory, returned, memory_after, after_calls, permitted, slaves_in, TakenByRounds, started}
use Rattle.demand.specs.Claims.Summary.{AllGivenRight}

-- the file that the calls after ttpa_start leave, and the position in the run's words
abbrev pub file_after : List ℕ → List ℕ → List ℕ → List CCall → List ℕ
file_after file names run calls = (after_calls names (started file names run) calls).file

abbrev pub run_after : List ℕ → List ℕ → List ℕ → List CCall → Position
run_after file names run calls = position_in (after_calls names (started file names run) calls).run

-- after the calls that follow ttpa_start the end mark is not 0, "each to its end". Rounds, traces and turns of others may stand among the
-- steps and after the run's end.
pub record ToItsEnd (file names run : List ℕ) (calls : List CCall) : Type 0 where
  pub bytes : All GivenBytes calls
  pub may : permitted false names (started file names run) calls ≡ true
  pub ended : (run_after file names run calls).end ≡ running → ⊥

-- "both acceptable": ttpa_start returns 0 for A and for B, whatever the run's words were before each ttpa_start
abbrev pub TwoListsOverCalls : Type 0
TwoListsOverCalls =
    (file : List ℕ) → Bytes file → TakenByRounds file → (A B : List ℕ) → Bytes A → Bytes B → NoCommon A B →
    (run run' run'' : List ℕ) → (start_call A run).0 ≡ 0 → (start_call B run').0 ≡ 0 → (first second whole : List CCall) →
    ToItsEnd file A run first → ToItsEnd (file_after file A run first) B run' second → ToItsEnd file (A ++ B) run'' whole →
    slaves_in (file_after (file_after file A run first) B run' second) ≡ slaves_in (file_after file (A ++ B) run'' whole)

-- ttpa_start takes both lists as one if they have no name in common, and only then
abbrev pub JoinedStarts : Type 0
JoinedStarts =
    (A B : List ℕ) → Bytes A → Bytes B → (run run' run'' : List ℕ) → (start_call A run).0 ≡ 0 → (start_call B run').0 ≡ 0 →
    ((start_call (A ++ B) run'').0 ≡ 0) ↔ NoCommon A B

-- else it returns 16
abbrev pub CommonReturns : Type 0
CommonReturns =
    (A B : List ℕ) → Bytes A → Bytes B → (run run' run'' : List ℕ) → (start_call A run).0 ≡ 0 → (start_call B run').0 ≡ 0 →
    (NoCommon A B → ⊥) → (start_call (A ++ B) run'').0 ≡ 16

-- ---- every run ends

-- 1 for a step that returns 0
unfoldable pub step_taken : List ℕ → Memory → CCall → ℕ
step_taken names m (ttpa_step buffer senders) = cond (eqb (returned names m (ttpa_step buffer senders)) 0) 1 0
step_taken names m (ttpa_step_keeping buffer senders held count) =
    cond (eqb (returned names m (ttpa_step_keeping buffer senders held count)) 0) 1 0
step_taken names m (ttpa_round bytes buffer senders) = 0
step_taken names m (ttpa_round_keeping bytes buffer senders held count) = 0
step_taken names m (ttpa_trace_lem t report) = 0
step_taken names m (ttpa_turn state buffer senders screen) = 0

-- how many of the calls are such steps, those after the run's end too
unfoldable pub steps_taken : List ℕ → Memory → List CCall → ℕ
steps_taken names m [] = 0
steps_taken names m (c ∷ cs) = step_taken names m c + steps_taken names (memory_after names m c) cs

-- a run has ended exactly if at least as many steps returned 0 as it has rounds, with rounds of others, traces, turns and refused calls
-- among them or not
abbrev pub RunsEndOverCalls : Type 0
RunsEndOverCalls =
    (file : List ℕ) → Bytes file → TakenByRounds file → (names : List ℕ) → Bytes names → (run : List ℕ) → (start_call names run).0 ≡ 0 →
    (calls : List CCall) → All GivenBytes calls → permitted false names (started file names run) calls ≡ true →
    (rounds_for (slaves_in file) names ≤ steps_taken names (started file names run) calls) ↔ ToItsEnd file names run calls

-- a step with an answer buffer of 64 bytes or more, whatever it holds
pub data LongStep : CCall → Type 0 where
  long : {buffer : List ℕ} {senders : ℕ} → slots ≤ length buffer → LongStep (ttpa_step buffer senders)
  long_keeping :
      {buffer : List ℕ} {senders : ℕ} {held : List ℕ} {count : ℕ} → slots ≤ length buffer →
      LongStep (ttpa_step_keeping buffer senders held count)

-- so there are such runs: as many of these steps as the run has rounds, or more, each given no summary or that of the file as it then is
abbrev pub EveryRunEndsOverCalls : Type 0
EveryRunEndsOverCalls =
    (file : List ℕ) → Bytes file → TakenByRounds file → (names : List ℕ) → Bytes names → (run : List ℕ) → (start_call names run).0 ≡ 0 →
    (calls : List CCall) → All LongStep calls → AllGivenRight names (started file names run) calls →
    rounds_for (slaves_in file) names ≤ length calls → ToItsEnd file names run calls

-- by which stored mark
abbrev pub EndMarkOverCalls : Type 0
EndMarkOverCalls =
    (file : List ℕ) → Bytes file → TakenByRounds file → (names : List ℕ) → Bytes names → (run : List ℕ) → (start_call names run).0 ≡ 0 →
    (calls : List CCall) → ToItsEnd file names run calls → (run_after file names run calls).end ≡ end_for (slaves_in file) names

-- ---- what B's run finds, and the stored rounds and comparisons of both runs

abbrev pub SecondFindsOverCalls : Type 0
SecondFindsOverCalls =
    (file : List ℕ) → Bytes file → TakenByRounds file → (A B : List ℕ) → Bytes A → Bytes B →
    (run run' : List ℕ) → (start_call A run).0 ≡ 0 → (start_call B run').0 ≡ 0 → (first second : List CCall) →
    ToItsEnd file A run first → ToItsEnd (file_after file A run first) B run' second →
    SecondRun (slaves_in file) A B (slaves_in (file_after file A run first)) (run_after (file_after file A run first) B run' second)

abbrev pub TwoRunsOverCalls : Type 0
TwoRunsOverCalls =
    (file : List ℕ) → Bytes file → TakenByRounds file → (A B : List ℕ) → Bytes A → Bytes B → NoCommon A B →
    (run run' run'' : List ℕ) → (start_call A run).0 ≡ 0 → (start_call B run').0 ≡ 0 → (first second whole : List CCall) →
    ToItsEnd file A run first → ToItsEnd (file_after file A run first) B run' second → ToItsEnd file (A ++ B) run'' whole →
    RunsTogether (slaves_in file) A B
    (run_after file A run first) (run_after (file_after file A run first) B run' second) (run_after file (A ++ B) run'' whole)
