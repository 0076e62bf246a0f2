-- Who holds a logical name (document 02, job 8), over the C calls: from ttpa_fill on, through every list of ttpa_round_keeping and
-- ttpa_step_keeping that are each given the slice as the last one left it, and of calls that rename nobody, ttpa_holder answers what a full
-- reading of the file gives; ttpa_round_keeping and ttpa_step_keeping do what ttpa_round and ttpa_step do, or return 24, exactly where the
-- summary does not match; and lists of calls with summaries that match are the lists without. (`cluster/specs/Claims/Summary` and
-- `naming/specs/Claims/Summary` have the same of a round, of a step and of lists of them, over files and positions.)
use Rattle.std.specs.Prelude.{ℕ, ◌^◌, ◌<◌, ◌≡◌, ◌≢◌, ◌↔◌, List, [], ◌∷◌, map, Bool, length}
use Rattle.file.specs.Rules.Bytes.{Bytes, All}
use Rattle.file.specs.Rules.Cluster.{Slave, logical_name}
use Rattle.file.specs.Rules.Decode.{decode}
use Rattle.cluster.specs.Rules.Summary.{kept, first_holder}
use Rattle.cluster.specs.Claims.Renaming.{names_of}
use Rattle.cluster.specs.Claims.Summary.{Matches, LeavesRest, FirstAt}
use Rattle.naming.specs.Rules.Pass.{bits}
use Rattle.ttpa.specs.Rules.Calls.{position_in, round_call, step_call, fill_call, nobody_place, place_of, holder_call, round_keeping_call, step_keeping_call}
use Rattle.demand.specs.Claims.DemandCalls.{CCall, ttpa_step, ttpa_step_keeping, ttpa_round, ttpa_round_keeping, ttpa_trace_lem, ttpa_turn}
use Rattle.demand.specs.Claims.DemandCalls.{GivenBytes, Memory, returned, memory_after, after_calls, permitted, TakenByRounds}

-- ---- from the filling to the question

-- a C call, by all that it is handed except the file: ttpa_round_keeping by a frame, the answer buffer and the senders' word, and
-- ttpa_step_keeping by a run's words, names, the answer buffer and the senders' word, both given slice and count as they then are; and a
-- call that is not given them, with a run's words and names. The run is any, so also the one that the last step left.
pub data Made : Type 0 where
  keeping_round : List ℕ → List ℕ → ℕ → Made
  keeping_step_lem : List ℕ → List ℕ → List ℕ → ℕ → Made
  other : List ℕ → List ℕ → CCall → Made

-- the file that a call leaves which is not given them
abbrev pub other_file : List ℕ → List ℕ → List ℕ → CCall → List ℕ
other_file file run names c = (memory_after names (record { file = file; run = run }) c).file

-- the file and the slice that a call leaves, by the count
unfoldable pub made_on : ℕ → List ℕ → List ℕ → Made → List ℕ × List ℕ
made_on count file held (keeping_round bytes buffer senders) =
    let r = round_keeping_call file bytes buffer senders held count in (r.3, r.4)
made_on count file held (keeping_step_lem run names buffer senders) =
    let r = step_keeping_call file run names buffer senders held count in (r.4, r.5)
made_on count file held (other run names c) = (other_file file run names c, held)

-- and calls, each on both as the last one left them
unfoldable pub all_made_lem : ℕ → List ℕ → List ℕ → List Made → List ℕ × List ℕ
all_made_lem count file held [] = (file, held)
all_made_lem count file held (c ∷ cs) = let r = made_on count file held c in all_made_lem count r.0 r.1 cs

-- frames, traces, a turn's state and names are bytes, and a run's value is one of 64 bits; of a call that is given the summary no more is
-- asked. One that is not leaves every logical name, as each does that does not baptize (`Claims/Renaming` CCallsRenameNobody). Of a turn that
-- is not asked: it only reads (`screens/specs/Claims/Turns` TurnRenamesNobody).
pub data Keeps (file : List ℕ) : Made → Type 0 where
  in_round : {bytes buffer : List ℕ} {senders : ℕ} → Bytes bytes → Keeps file (keeping_round bytes buffer senders)
  in_step_lem :
      {run names buffer : List ℕ} {senders : ℕ} → Bytes names → (position_in run).place.value < 2 ^ bits → Keeps file (keeping_step_lem run names buffer senders)
  in_other :
      {run names : List ℕ} {c : CCall} → Bytes names → (position_in run).place.value < 2 ^ bits → GivenBytes c →
      names_of (other_file file run names c) ≡ names_of file → Keeps file (other run names c)
  in_turn :
      {run names state buffer : List ℕ} {senders screen : ℕ} → Bytes state →
      Keeps file (other run names (ttpa_turn state buffer senders screen))

-- each on the file and the slice as they then are
pub data AllKeep (count : ℕ) : List ℕ → List ℕ → List Made → Type 0 where
  none_made_lem : {file held : List ℕ} → AllKeep count file held []
  next_made :
      {file held : List ℕ} {c : Made} {cs : List Made} → Keeps file c →
      AllKeep count (made_on count file held c).0 (made_on count file held c).1 cs → AllKeep count file held (c ∷ cs)

-- "and keeps it true": a slice that matches matches after every list of such calls, refused ones among them, and its bytes behind the names
-- stay
abbrev pub KeptByCalls : Type 0
KeptByCalls =
    (file held : List ℕ) (count : ℕ) (calls : List Made) → Bytes file → AllKeep count file held calls → Matches file (kept count held) →
    Matches (all_made_lem count file held calls).0 (kept count (all_made_lem count file held calls).1) ×
    LeavesRest (kept count held) (kept count (all_made_lem count file held calls).1)

-- "The question .. gives, if the summary matches, what a full reading of the file gives, or that nobody holds it.": ttpa_holder, asked for
-- any name and lent any word, returns 0 and tells the place of the first slave of that name, TTPA_NOBODY exactly where no slave has it
pub record AnswersAsRead (file held : List ℕ) (count name place : ℕ) : Type 0 where
  pub reading : holder_call held count name place ≡ (0, place_of (first_holder (decode file) name))
  pub found :
      (told : ℕ) → told < length (decode file).slaves → ((holder_call held count name place).1 ≡ told) ↔
      FirstAt (map logical_name (decode file).slaves) name told
  pub none : ((holder_call held count name place).1 ≡ nobody_place) ↔ All (λ (s : Slave). logical_name s ≢ name) (decode file).slaves

-- the file and the slice that calls leave after a filling, which are given the slice and the count that it wrote
abbrev pub filled_and_made : List ℕ → List ℕ → ℕ → List Made → List ℕ × List ℕ
filled_and_made file held count calls = all_made_lem (fill_call file held count).1 file (fill_call file held count).2 calls

-- so from a ttpa_fill that returns 0, through every list of such calls
abbrev pub FilledAndAsked : Type 0
FilledAndAsked =
    (file held : List ℕ) (count : ℕ) → Bytes file → (fill_call file held count).0 ≡ 0 →
    (calls : List Made) → AllKeep (fill_call file held count).1 file (fill_call file held count).2 calls → (name place : ℕ) →
    AnswersAsRead (filled_and_made file held count calls).0 (filled_and_made file held count calls).1 (fill_call file held count).1 name place

-- ---- a call given a summary, and the call without

-- what a call leaves, its slice aside
abbrev pub slice_aside : ℕ × ℕ × List ℕ × List ℕ × List ℕ → ℕ × ℕ × List ℕ × List ℕ
slice_aside r = (r.0, r.1, r.2, r.3)

abbrev pub step_slice_aside : ℕ × ℕ × List ℕ × List ℕ × List ℕ × List ℕ → ℕ × ℕ × List ℕ × List ℕ × List ℕ
step_slice_aside r = (r.0, r.1, r.2, r.3, r.4)

-- "24, a summary that does not match its file when handed in for a round": returned exactly then, of a file that rounds take, and nothing
-- lent is altered; with every other number it returns, answers and leaves what ttpa_round does
pub record RoundWithSummary (file bytes buffer : List ℕ) (senders : ℕ) (held : List ℕ) (count : ℕ) : Type 0 where
  pub by24 : ((round_keeping_call file bytes buffer senders held count).0 ≡ 24) ↔ (TakenByRounds file × (Matches file (kept count held) → ⊥))
  pub lent : (round_keeping_call file bytes buffer senders held count).0 ≡ 24 →
      round_keeping_call file bytes buffer senders held count ≡ (24, senders, buffer, file, held)
  pub same : (round_keeping_call file bytes buffer senders held count).0 ≢ 24 →
      slice_aside (round_keeping_call file bytes buffer senders held count) ≡ round_call file bytes buffer senders

abbrev pub RoundsWithSummary : Type 0
RoundsWithSummary =
    (file bytes buffer : List ℕ) (senders : ℕ) (held : List ℕ) (count : ℕ) → RoundWithSummary file bytes buffer senders held count

-- "or naming step"
pub record StepWithSummary (file run names buffer : List ℕ) (senders : ℕ) (held : List ℕ) (count : ℕ) : Type 0 where
  pub by24 : ((step_keeping_call file run names buffer senders held count).0 ≡ 24) ↔ (TakenByRounds file × (Matches file (kept count held) → ⊥))
  pub lent : (step_keeping_call file run names buffer senders held count).0 ≡ 24 →
      step_keeping_call file run names buffer senders held count ≡ (24, senders, run, buffer, file, held)
  pub same : (step_keeping_call file run names buffer senders held count).0 ≢ 24 →
      step_slice_aside (step_keeping_call file run names buffer senders held count) ≡ step_call file run names buffer senders

abbrev pub StepsWithSummary : Type 0
StepsWithSummary =
    (file run names buffer : List ℕ) (senders : ℕ) (held : List ℕ) (count : ℕ) → StepWithSummary file run names buffer senders held count

-- ---- demand 3's calls

-- a call that is given no summary, or one that matches a file
pub data GivenRight (file : List ℕ) : CCall → Type 0 where
  step_without : {buffer : List ℕ} {senders : ℕ} → GivenRight file (ttpa_step buffer senders)
  round_without : {bytes buffer : List ℕ} {senders : ℕ} → GivenRight file (ttpa_round bytes buffer senders)
  trace_without : {t report : List ℕ} → GivenRight file (ttpa_trace_lem t report)
  turn_without : {state buffer : List ℕ} {senders screen : ℕ} → GivenRight file (ttpa_turn state buffer senders screen)
  step_matching :
      {buffer : List ℕ} {senders : ℕ} {held : List ℕ} {count : ℕ} → Matches file (kept count held) →
      GivenRight file (ttpa_step_keeping buffer senders held count)
  round_matching :
      {bytes buffer : List ℕ} {senders : ℕ} {held : List ℕ} {count : ℕ} → Matches file (kept count held) →
      GivenRight file (ttpa_round_keeping bytes buffer senders held count)

-- such calls, each on the file as it then is
pub data AllGivenRight (names : List ℕ) : Memory → List CCall → Type 0 where
  no_calls : {m : Memory} → AllGivenRight names m []
  one_more_lem :
      {m : Memory} {c : CCall} {cs : List CCall} → GivenRight m.file c → AllGivenRight names (memory_after names m c) cs →
      AllGivenRight names m (c ∷ cs)

-- the same call without
unfoldable pub without_summary : CCall → CCall
without_summary (ttpa_step buffer senders) = ttpa_step buffer senders
without_summary (ttpa_step_keeping buffer senders held count) = ttpa_step buffer senders
without_summary (ttpa_round bytes buffer senders) = ttpa_round bytes buffer senders
without_summary (ttpa_round_keeping bytes buffer senders held count) = ttpa_round bytes buffer senders
without_summary (ttpa_trace_lem t report) = ttpa_trace_lem t report
without_summary (ttpa_turn state buffer senders screen) = ttpa_turn state buffer senders screen

-- the numbers that calls return, one after the other
unfoldable pub numbers : List ℕ → Memory → List CCall → List ℕ
numbers names m [] = []
numbers names m (c ∷ cs) = returned names m c ∷ numbers names (memory_after names m c) cs

-- the same numbers, the same file and words, and permitted where the others are: so a list may have summaries in any of its calls
pub record NoDifference (names : List ℕ) (m : Memory) (calls : List CCall) : Type 0 where
  pub number : numbers names m calls ≡ numbers names m (map without_summary calls)
  pub memory : after_calls names m calls ≡ after_calls names m (map without_summary calls)
  pub may : (h : Bool) → permitted h names m calls ≡ permitted h names m (map without_summary calls)

abbrev pub GivenMakesNoDifferenceInCalls : Type 0
GivenMakesNoDifferenceInCalls = (names : List ℕ) (m : Memory) (calls : List CCall) → AllGivenRight names m calls → NoDifference names m calls
