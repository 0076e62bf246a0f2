-- Demand 3 (document 01, "The naming run", third paragraph) over the C calls that a program makes: ttpa_check, ttpa_start and then
-- any list of ttpa_step, ttpa_step_keeping, ttpa_round, ttpa_round_keeping, ttpa_trace and ttpa_turn, on the bytes of the file and the
-- eight stored words, judged by the numbers returned. What each call does is `ttpa/specs/Rules/Calls`, which the contracts of the C
-- functions cite.
use Rattle.std.specs.Prelude.{ℕ, ◌≡◌, List, [], ◌∷◌, ◌++◌, map, Bool, true, false, cond, not, eqb}
use Rattle.file.specs.Rules.Bytes.{Bytes, All}
use Rattle.file.specs.Rules.Order.{both}
use Rattle.file.specs.Rules.Results.{Result, refused, done, number_in}
use Rattle.file.specs.Rules.Decode.{decode}
use Rattle.cluster.specs.Rules.RoundGrounds.{round_by_lem}
use Rattle.cluster.specs.Rules.MasterSlave.{address_sent, data_sent}
use Rattle.cluster.specs.Rules.Summary.{without, kept}
use Rattle.trace.specs.Rules.Trace.{frames_of}
use Rattle.trace.specs.Rules.TraceRun.{sent}
use Rattle.screens.specs.Rules.Screens.{read_of}
use Rattle.screens.specs.Rules.Turn.{Turn, idle, served, read_sent, turn_on}
use Rattle.naming.specs.Rules.Account.{arguments_ground, Call, Call.step as step_by, Call.frame as frame_of}
use Rattle.naming.specs.Rules.Account.{Named, names_in_lem, Account, account_of, account_after, comparisons_of}
use Rattle.naming.specs.Rules.Figures.{Outcome}
use Rattle.naming.specs.Rules.Position.{Position}
use Rattle.naming.specs.Claims.Demand.{State, halfway_after, permitted_frame, permitted as permitted_by_rules}
use Rattle.ttpa.specs.Rules.Calls.{check_call, start_call, step_call, step_keeping_call, round_call, round_keeping_call, trace_call, turn_call}
use Rattle.ttpa.specs.Rules.Calls.{words_of, position_in}
use Rattle.demand.specs.Claims.Traces.{CallOrTrace, halfway_from, frame_call, singly}

-- a call, by all that it is handed except file, run and names: a step's answer buffer and the senders' word; a frame, the answer
-- buffer and the senders' word; a trace and the report's words; a turn's state, answer buffer, senders' word and screen's byte, each turn
-- with any state, so also with the one that the last turn or post left. "Every round and naming step may be given the summary" (document
-- 02, job 8): then a slice and a count come last, any slice and any count, and a list may have such calls and others in any order. The
-- other C calls, ttpa_start aside, write neither file nor run: ttpa_fill, ttpa_owner, ttpa_to_edition_1, ttpa_to_edition_2, ttpa_join and
-- ttpa_contents only read the file, ttpa_holder reads the slice alone, ttpa_screens and ttpa_post write the state alone, ttpa_pattern the
-- class alone.
pub data CCall : Type 0 where
  ttpa_step : List ℕ → ℕ → CCall
  ttpa_step_keeping : List ℕ → ℕ → List ℕ → ℕ → CCall
  ttpa_round : List ℕ → List ℕ → ℕ → CCall
  ttpa_round_keeping : List ℕ → List ℕ → ℕ → List ℕ → ℕ → CCall
  ttpa_trace_lem : List ℕ → List ℕ → CCall
  ttpa_turn : List ℕ → List ℕ → ℕ → ℕ → CCall

-- a frame, a trace and a turn's state are bytes
pub data GivenBytes : CCall → Type 0 where
  given-step : {buffer : List ℕ} {senders : ℕ} → GivenBytes (ttpa_step buffer senders)
  given-step_keeping : {buffer : List ℕ} {senders : ℕ} {held : List ℕ} {count : ℕ} → GivenBytes (ttpa_step_keeping buffer senders held count)
  given-frame : {bytes buffer : List ℕ} {senders : ℕ} → Bytes bytes → GivenBytes (ttpa_round bytes buffer senders)
  given-frame-keeping :
      {bytes buffer : List ℕ} {senders : ℕ} {held : List ℕ} {count : ℕ} → Bytes bytes → GivenBytes (ttpa_round_keeping bytes buffer senders held count)
  given-trace : {t report : List ℕ} → Bytes t → GivenBytes (ttpa_trace_lem t report)
  given-turn : {state buffer : List ℕ} {senders screen : ℕ} → Bytes state → GivenBytes (ttpa_turn state buffer senders screen)

-- ---- carried out

-- the memory that the calls share: the bytes of the file, the words of the run
pub record Memory : Type 0 where
  pub file : List ℕ
  pub run : List ℕ

-- the number that a call returns
unfoldable pub returned : List ℕ → Memory → CCall → ℕ
returned names m (ttpa_step buffer senders) = (step_call m.file m.run names buffer senders).0
returned names m (ttpa_step_keeping buffer senders held count) = (step_keeping_call m.file m.run names buffer senders held count).0
returned names m (ttpa_round bytes buffer senders) = (round_call m.file bytes buffer senders).0
returned names m (ttpa_round_keeping bytes buffer senders held count) = (round_keeping_call m.file bytes buffer senders held count).0
returned names m (ttpa_trace_lem t report) = (trace_call m.file t report).0
returned names m (ttpa_turn state buffer senders screen) = (turn_call m.file state buffer senders screen).0

-- and what it leaves there: "each call gets the file as the last call left it, each step also the run as the last step left it and
-- the unchanged names, and nobody else writes these meanwhile"
unfoldable pub memory_after : List ℕ → Memory → CCall → Memory
memory_after names m (ttpa_step buffer senders) =
    let r = step_call m.file m.run names buffer senders in record { file = r.4; run = r.2 }
memory_after names m (ttpa_step_keeping buffer senders held count) =
    let r = step_keeping_call m.file m.run names buffer senders held count in record { file = r.4; run = r.2 }
memory_after names m (ttpa_round bytes buffer senders) = record { file = (round_call m.file bytes buffer senders).3; run = m.run }
memory_after names m (ttpa_round_keeping bytes buffer senders held count) =
    record { file = (round_keeping_call m.file bytes buffer senders held count).3; run = m.run }
memory_after names m (ttpa_trace_lem t report) = record { file = (trace_call m.file t report).2; run = m.run }
memory_after names m (ttpa_turn state buffer senders screen) =
    record { file = (turn_call m.file state buffer senders screen).5; run = m.run }

unfoldable pub after_calls : List ℕ → Memory → List CCall → Memory
after_calls names m [] = m
after_calls names m (c ∷ cs) = after_calls names (memory_after names m c) cs

-- ---- permitted, h being whether a round of others is half done: its MSA accepted, its MSD still to come

-- the frames that a turn sends: if it serves a screen those of "the read round, PB0 as in naming, sent alone on the file as it then is"
-- (document 02, job 12), an MSA and an MSD; none if it is refused or nobody waits
unfoldable pub frames_served : List ℕ → List ℕ → Result Turn → List (List ℕ)
frames_served file state (refused n) = []
frames_served file state (done idle) = []
frames_served file state (done (served i mask)) =
    let read = read_sent (read_of state i) in address_sent (decode file) read ∷ data_sent read ∷ []

unfoldable pub turn_frames : List ℕ → List ℕ → List ℕ → List (List ℕ)
turn_frames file state buffer = frames_served file state (turn_on state file buffer).0

-- the frames of a trace or a turn, judged as ttpa_round with a buffer of 64 bytes answers them, "sent singly in order"
unfoldable pub permitted_frames : Bool → List ℕ → List (List ℕ) → Bool
permitted_frames h file [] = true
permitted_frames h file (x ∷ xs) =
    let rest = permitted_frames (halfway_after h (sent file x).0 (round_by_lem x)) (sent file x).2 xs in
    both (cond (eqb (number_in (sent file x).0) 0) (permitted_frame h (round_by_lem x) x) true) rest

-- a call that returns 0: "A complete round is an accepted MSA followed directly, refused calls aside, by an accepted MSD, or a
-- multipartner frame"; a step stands within no such round, and a turn that serves a screen is one (`Claims/Turns` TurnsFit, NoTurnWithin)
unfoldable pub permitted_call : Bool → Memory → CCall → Bool
permitted_call h m (ttpa_step buffer senders) = not h
permitted_call h m (ttpa_step_keeping buffer senders held count) = not h
permitted_call h m (ttpa_round bytes buffer senders) = permitted_frame h (round_by_lem bytes) bytes
permitted_call h m (ttpa_round_keeping bytes buffer senders held count) = permitted_frame h (round_by_lem bytes) bytes
permitted_call h m (ttpa_trace_lem t report) = permitted_frames h m.file (frames_of t)
permitted_call h m (ttpa_turn state buffer senders screen) = permitted_frames h m.file (turn_frames m.file state buffer)

-- whether a round of others is half done after it
unfoldable pub halfway_on : Bool → Memory → CCall → Bool
halfway_on h m (ttpa_step buffer senders) = h
halfway_on h m (ttpa_step_keeping buffer senders held count) = h
halfway_on h m (ttpa_round bytes buffer senders) = halfway_after h (done 0) (round_by_lem bytes)
halfway_on h m (ttpa_round_keeping bytes buffer senders held count) = halfway_after h (done 0) (round_by_lem bytes)
halfway_on h m (ttpa_trace_lem t report) = halfway_from h m.file (frames_of t)
halfway_on h m (ttpa_turn state buffer senders screen) = halfway_from h m.file (turn_frames m.file state buffer)

-- "every list of steps, permitted rounds .. and refused steps and frames": each judged where it comes, one that returns another
-- number than 0 being permitted and changing nothing, and no round left half done
unfoldable pub permitted : Bool → List ℕ → Memory → List CCall → Bool
permitted h names m [] = not h
permitted h names m (c ∷ cs) =
    let carried = eqb (returned names m c) 0 in
    let rest = permitted (cond carried (halfway_on h m c) h) names (memory_after names m c) cs in
    both (cond carried (permitted_call h m c) true) rest

-- ---- the account

-- the calls that it is fed: "each call's arguments other than file, run and names", a summary among them; a trace and a turn are others'
-- rounds, which "change nothing here"
unfoldable pub calls_fed : List CCall → List Call
calls_fed [] = []
calls_fed (ttpa_step buffer senders ∷ cs) = step_by (record { summary = without; buffer = buffer }) ∷ calls_fed cs
calls_fed (ttpa_step_keeping buffer senders held count ∷ cs) = step_by (record { summary = kept count held; buffer = buffer }) ∷ calls_fed cs
calls_fed (ttpa_round bytes buffer senders ∷ cs) = frame_of (record { summary = without; bytes = bytes; buffer = buffer }) ∷ calls_fed cs
calls_fed (ttpa_round_keeping bytes buffer senders held count ∷ cs) =
    frame_of (record { summary = kept count held; bytes = bytes; buffer = buffer }) ∷ calls_fed cs
calls_fed (ttpa_trace_lem t report ∷ cs) = calls_fed cs
calls_fed (ttpa_turn state buffer senders screen ∷ cs) = calls_fed cs

-- the slaves' names in a file, and the account after the calls
abbrev pub slaves_in : List ℕ → List Named
slaves_in file = names_in_lem (decode file)

abbrev pub accounted : List ℕ → List ℕ → List CCall → Account
accounted file names calls = account_after (account_of (slaves_in file) names) (calls_fed calls)

-- ---- the claim

-- "an accepted file": ttpa_check returns 0, or 22, with which a file is turned away on loading and "rounds may still run" on it
pub data TakenByRounds (file : List ℕ) : Type 0 where
  loads : check_call file ≡ 0 → TakenByRounds file
  equal_names : check_call file ≡ 22 → TakenByRounds file

-- what the memory then holds: "Demand 3 compares every logical name, the end and both counts carried in the run with this
-- account"; the file stays accepted, and by ttpa_check if it was; a step that comes next returns the ground of its own arguments, so 0
-- or 9, and 24 if it is given a summary that is not that of the slaves as they then are; the closed figures
pub record CallsDemand (file names : List ℕ) (calls : List CCall) (m : Memory) : Type 0 where
  pub logical : slaves_in m.file ≡ (accounted file names calls).slaves
  pub end : (position_in m.run).end ≡ (accounted file names calls).end
  pub rounds : (position_in m.run).counts.rounds ≡ (accounted file names calls).rounds
  pub comparisons : (position_in m.run).counts.comparisons ≡ comparisons_of (accounted file names calls)
  pub accepted : TakenByRounds m.file
  pub loaded : check_call file ≡ 0 → check_call m.file ≡ 0
  pub next :
      (buffer : List ℕ) (senders : ℕ) →
      returned names m (ttpa_step buffer senders) ≡ arguments_ground (slaves_in m.file) (record { summary = without; buffer = buffer })
  pub next_keeping :
      (buffer : List ℕ) (senders : ℕ) (held : List ℕ) (count : ℕ) →
      returned names m (ttpa_step_keeping buffer senders held count) ≡
      arguments_ground (slaves_in m.file) (record { summary = kept count held; buffer = buffer })
  pub outcome :
      Outcome (slaves_in file) names (slaves_in m.file)
      (position_in m.run).end (position_in m.run).counts.rounds (position_in m.run).counts.comparisons

-- the file, and the words that ttpa_start leaves: whatever they were before, if it returns 0
abbrev pub started : List ℕ → List ℕ → List ℕ → Memory
started file names run = record { file = file; run = (start_call names run).1 }

-- Demand 3 over the C calls: "It is one claim about the whole list of calls, not one for each."
abbrev pub DemandOverCalls : Type 0
DemandOverCalls =
    -- "It starts from an accepted file"; its slaves may sleep at the start (document 02, job 9)
    (file : List ℕ) → Bytes file → TakenByRounds file →
    -- "and list of names and a fresh run": ttpa_start returns 0
    (names : List ℕ) → Bytes names → (run : List ℕ) → (start_call names run).0 ≡ 0 →
    -- "every list of steps, permitted rounds (complete ones, but no write to or execute of 0x08) and refused steps and frames", with the
    -- writes that document 02 permits "as well"
    (calls : List CCall) → All GivenBytes calls → permitted false names (started file names run) calls ≡ true →
    CallsDemand file names calls (after_calls names (started file names run) calls)

-- And it holds throughout, after each call of such a list: after those at its front, wherever it is cut.
abbrev pub ThroughoutCalls : Type 0
ThroughoutCalls =
    (file : List ℕ) → Bytes file → TakenByRounds file →
    (names : List ℕ) → Bytes names → (run : List ℕ) → (start_call names run).0 ≡ 0 →
    (calls more : List CCall) → All GivenBytes calls → permitted false names (started file names run) (calls ++ more) ≡ true →
    CallsDemand file names calls (after_calls names (started file names run) calls)

-- The claims are of many lists: every list of steps is permitted, given summaries or not.
pub data IsStep : CCall → Type 0 where
  is-step : {buffer : List ℕ} {senders : ℕ} → IsStep (ttpa_step buffer senders)
  is-step_keeping : {buffer : List ℕ} {senders : ℕ} {held : List ℕ} {count : ℕ} → IsStep (ttpa_step_keeping buffer senders held count)

abbrev pub StepsPermitted : Type 0
StepsPermitted = (names : List ℕ) (m : Memory) (calls : List CCall) → All IsStep calls → permitted false names m calls ≡ true

-- And the lists permitted are exactly those that demand 3 permits over files and positions, so rounds, traces and turns too: the memory
-- that holds a file and a position, and the calls without the words that they write, a turn being the frames that it sends on the file.
abbrev pub memory_of : State → Position → Memory
memory_of s p = record { file = s.file; run = words_of p }

unfoldable pub arguments_of : List ℕ → CCall → List CallOrTrace
arguments_of file (ttpa_step buffer senders) = CallOrTrace.call (step_by (record { summary = without; buffer = buffer })) ∷ []
arguments_of file (ttpa_step_keeping buffer senders held count) =
    CallOrTrace.call (step_by (record { summary = kept count held; buffer = buffer })) ∷ []
arguments_of file (ttpa_round bytes buffer senders) =
    CallOrTrace.call (frame_of (record { summary = without; bytes = bytes; buffer = buffer })) ∷ []
arguments_of file (ttpa_round_keeping bytes buffer senders held count) =
    CallOrTrace.call (frame_of (record { summary = kept count held; bytes = bytes; buffer = buffer })) ∷ []
arguments_of file (ttpa_trace_lem t report) = CallOrTrace.trace t ∷ []
arguments_of file (ttpa_turn state buffer senders screen) =
    map (λ (x : List ℕ). CallOrTrace.call (frame_call x)) (turn_frames file state buffer)

-- each on the file as it then is
unfoldable pub arguments_of_all : List ℕ → Memory → List CCall → List CallOrTrace
arguments_of_all names m [] = []
arguments_of_all names m (c ∷ cs) = arguments_of m.file c ++ arguments_of_all names (memory_after names m c) cs

abbrev pub SamePermitted : Type 0
SamePermitted =
    (names : List ℕ) (s : State) (p : Position) (calls : List CCall) →
    permitted s.halfway names (memory_of s p) calls ≡ permitted_by_rules names s p (singly (arguments_of_all names (memory_of s p) calls))
