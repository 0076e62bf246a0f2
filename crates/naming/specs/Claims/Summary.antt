-- What job 8 of document 02 says of the summary, over naming steps and lists of steps and rounds: a step given it keeps it true; which steps
-- leave it true that are not given it; by what a step given it is refused; and after every list of calls, some given it and some not, the
-- question answers what a full reading of the file gives, if those that are not given it baptize nobody.
use Rattle.std.specs.Prelude.{ℕ, ◌^◌, ◌≤◌, ◌<◌, ◌≡◌, ◌≢◌, ◌↔◌, List, [], ◌∷◌, map, length}
use Rattle.file.specs.Rules.Bytes.{Bytes}
use Rattle.file.specs.Rules.Cluster.{unnamed}
use Rattle.file.specs.Rules.Results.{refused, done}
use Rattle.file.specs.Rules.Decode.{decode}
use Rattle.file.specs.Rules.FileGrounds.{file_ground}
use Rattle.cluster.specs.Rules.Round.{round_on}
use Rattle.cluster.specs.Rules.Summary.{Summary, without, kept, round_keeping, fill_on, holder_in, first_holder}
use Rattle.cluster.specs.Claims.Renaming.{name_after, names_of, Baptizes}
use Rattle.cluster.specs.Claims.Summary.{Matches, LeavesRest}
use Rattle.naming.specs.Rules.Position.{Position}
use Rattle.naming.specs.Rules.Pass.{bits}
use Rattle.naming.specs.Rules.Step.{step_ground, step_on, step_keeping_ground, step_keeping}
use Rattle.naming.specs.Rules.Account.{StepArguments, FrameArguments, Call, step, frame}
use Rattle.naming.specs.Claims.Demand.{State, call_on, permitted, after_calls}
use Rattle.naming.specs.Claims.Renaming.{StepBaptizes}

-- ---- a step given it

-- "may be given the summary": without one it is the step
abbrev pub StepWithout : Type 0
StepWithout =
    (file : List ℕ) (p : Position) (names buffer : List ℕ) →
    step_keeping file p names without buffer ≡ (
      (step_on file p names buffer).0,
      (step_on file p names buffer).1,
      (step_on file p names buffer).2,
      (step_on file p names buffer).3,
      without,
    )

-- "24, a summary that does not match its file when handed in for a .. naming step, .. after 8", and before every ground of the step, 9 the
-- first of them; of an ended run too
pub record StepOrder (file : List ℕ) (p : Position) (names : List ℕ) (summary : Summary) (buffer : List ℕ) : Type 0 where
  pub of_file : file_ground file ≢ 0 → step_keeping_ground file p names summary buffer ≡ file_ground file
  pub of_summary : file_ground file ≡ 0 → (Matches file summary → ⊥) → step_keeping_ground file p names summary buffer ≡ 24
  pub of_step_lem : Matches file summary → step_keeping_ground file p names summary buffer ≡ step_ground file p names buffer

abbrev pub StepsInOrder : Type 0
StepsInOrder =
    (file : List ℕ) (p : Position) (names : List ℕ) (summary : Summary) (buffer : List ℕ) → StepOrder file p names summary buffer

-- 24 of an accepted file means just that
abbrev pub StepRefusedBy24 : Type 0
StepRefusedBy24 =
    (file : List ℕ) (p : Position) (names : List ℕ) (summary : Summary) (buffer : List ℕ) → file_ground file ≡ 0 →
    (step_keeping_ground file p names summary buffer ≡ 24) ↔ (Matches file summary → ⊥)

-- "A refusal returns its number and alters nothing lent" (document 01): run, buffer, file and summary
abbrev pub RefusedStepKeepsSummary : Type 0
RefusedStepKeepsSummary =
    (file : List ℕ) (p : Position) (names : List ℕ) (summary : Summary) (buffer : List ℕ) → step_keeping_ground file p names summary buffer ≢ 0 →
    step_keeping file p names summary buffer ≡ (refused (step_keeping_ground file p names summary buffer), p, buffer, file, summary)

-- a step that is given a summary and not refused is the step: its answer, its run, its buffer, its file
abbrev pub KeepingIsStep : Type 0
KeepingIsStep =
    (file : List ℕ) (p : Position) (names : List ℕ) (summary : Summary) (buffer : List ℕ) → step_keeping_ground file p names summary buffer ≡ 0 → (
      (step_keeping file p names summary buffer).0,
      (step_keeping file p names summary buffer).1,
      (step_keeping file p names summary buffer).2,
      (step_keeping file p names summary buffer).3,
    ) ≡
    step_on file p names buffer

-- "and keeps it true": after the step, refused, of an ended run or made
abbrev pub StepKeepsSummary : Type 0
StepKeepsSummary =
    (file : List ℕ) (p : Position) (names : List ℕ) (summary : Summary) (buffer : List ℕ) → Bytes file → Bytes names → p.place.value < 2 ^ bits →
    Matches file summary →
    Matches (step_keeping file p names summary buffer).3 (step_keeping file p names summary buffer).4 ×
    LeavesRest summary (step_keeping file p names summary buffer).4

-- ---- a step not given it

-- after every step but a baptizing one it matches still, and after that one where all whom it names had that name already
abbrev pub StepStillMatches : Type 0
StepStillMatches =
    (file : List ℕ) (p : Position) (names : List ℕ) (summary : Summary) (buffer : List ℕ) → Bytes file → Bytes names → p.place.value < 2 ^ bits →
    Matches file summary → (StepBaptizes file p names buffer → ⊥) → Matches (step_on file p names buffer).3 summary

abbrev pub StepStillMatchesBaptized : Type 0
StepStillMatchesBaptized =
    (file : List ℕ) (p : Position) (names buffer : List ℕ) (count : ℕ) (slice : List ℕ) → Bytes file → StepBaptizes file p names buffer →
    Matches file (kept count slice) →
    Matches (step_on file p names buffer).3 (kept count slice) ↔ (map (name_after unnamed) (decode file).slaves ≡ names_of file)

-- ---- lists of calls

-- a step, with its run, names and buffer, or a frame with its buffer
pub data AnyCall : Type 0 where
  a_step : Position → List ℕ → List ℕ → AnyCall
  a_frame : List ℕ → List ℕ → AnyCall

-- names and frames are bytes, and a run's value has 64 bits
pub data WellTyped : AnyCall → Type 0 where
  typed_step : {p : Position} {names buffer : List ℕ} → Bytes names → p.place.value < 2 ^ bits → WellTyped (a_step p names buffer)
  typed_frame : {bytes buffer : List ℕ} → Bytes bytes → WellTyped (a_frame bytes buffer)

-- the file and the summary after a call that is given it
unfoldable pub keeping_call : List ℕ → Summary → AnyCall → List ℕ × Summary
keeping_call file summary (a_step p names buffer) = let r = step_keeping file p names summary buffer in (r.3, r.4)
keeping_call file summary (a_frame bytes buffer) = let r = round_keeping file summary bytes buffer in (r.2, r.3)

-- the file after a call that is not
unfoldable pub plain_call : List ℕ → AnyCall → List ℕ
plain_call file (a_step p names buffer) = (step_on file p names buffer).3
plain_call file (a_frame bytes buffer) = (round_on file bytes buffer).2

-- "may be given the summary"
pub data ListedCall : Type 0 where
  given : AnyCall → ListedCall
  not_given : AnyCall → ListedCall

unfoldable pub listed_call : List ℕ → Summary → ListedCall → List ℕ × Summary
listed_call file summary (given c) = keeping_call file summary c
listed_call file summary (not_given c) = (plain_call file c, summary)

-- the file and the summary after the calls, each on both as the last one left them
unfoldable pub listed_calls : List ℕ → Summary → List ListedCall → List ℕ × Summary
listed_calls file summary [] = (file, summary)
listed_calls file summary (c ∷ cs) = let r = listed_call file summary c in listed_calls r.0 r.1 cs

-- a call that baptizes nobody, judged on the file as it then is
pub data BaptizesNobody (file : List ℕ) : AnyCall → Type 0 where
  in_step_lem : {p : Position} {names buffer : List ℕ} → (StepBaptizes file p names buffer → ⊥) → BaptizesNobody file (a_step p names buffer)
  in_frame_lem : {bytes buffer : List ℕ} → ((name : ℕ) → Baptizes file bytes buffer name → ⊥) → BaptizesNobody file (a_frame bytes buffer)

-- such is each of the calls that is not given the summary
pub data GivenToBaptize : List ℕ → Summary → List ListedCall → Type 0 where
  no_calls : {file : List ℕ} {summary : Summary} → GivenToBaptize file summary []
  next_given :
      {file : List ℕ} {summary : Summary} {c : AnyCall} {cs : List ListedCall} → WellTyped c →
      GivenToBaptize (keeping_call file summary c).0 (keeping_call file summary c).1 cs → GivenToBaptize file summary (given c ∷ cs)
  next_not_given :
      {file : List ℕ} {summary : Summary} {c : AnyCall} {cs : List ListedCall} → WellTyped c → BaptizesNobody file c →
      GivenToBaptize (plain_call file c) summary cs → GivenToBaptize file summary (not_given c ∷ cs)

-- "Every round and naming step may be given the summary and keeps it true.": after such a list it matches, with its count and its other
-- bytes. All calls may be given it, then whoever they baptize, or none, then it is as it was.
abbrev pub CallsKeepSummary : Type 0
CallsKeepSummary =
    (file : List ℕ) (summary : Summary) (calls : List ListedCall) → Bytes file → GivenToBaptize file summary calls → Matches file summary →
    Matches (listed_calls file summary calls).0 (listed_calls file summary calls).1 × LeavesRest summary (listed_calls file summary calls).1

-- so from the filling on the question gives "what a full reading of the file gives", by the slice as the calls left it
abbrev pub filled_from : List ℕ → List ℕ → Summary
filled_from file slice = kept (length (decode file).slaves) (fill_on file slice).1

pub record AnswersAsFile (file : List ℕ) (summary : Summary) (count : ℕ) : Type 0 where
  pub slice : List ℕ
  pub is : summary ≡ kept count slice
  pub answers : (name : ℕ) → holder_in name count slice ≡ done (first_holder (decode file) name)

abbrev pub FilledAndKept : Type 0
FilledAndKept =
    (file slice : List ℕ) (calls : List ListedCall) → Bytes file → file_ground file ≡ 0 → length (decode file).slaves ≤ length slice →
    GivenToBaptize file (filled_from file slice) calls →
    AnswersAsFile (listed_calls file (filled_from file slice) calls).0 (listed_calls file (filled_from file slice) calls).1 (length (decode file).slaves)

-- Demand 3's calls, each given a summary that matches the file as it then is, or none
pub data GivenMatching (names : List ℕ) : State → Position → List Call → Type 0 where
  none_given : {s : State} {p : Position} → GivenMatching names s p []
  step_given_lem :
      {s : State} {p : Position} {arguments : StepArguments} {cs : List Call} → Matches s.file arguments.summary →
      GivenMatching names (call_on names s p (step arguments)).0 (call_on names s p (step arguments)).1 cs →
      GivenMatching names s p (step arguments ∷ cs)
  frame_given :
      {s : State} {p : Position} {arguments : FrameArguments} {cs : List Call} → Matches s.file arguments.summary →
      GivenMatching names (call_on names s p (frame arguments)).0 (call_on names s p (frame arguments)).1 cs →
      GivenMatching names s p (frame arguments ∷ cs)

-- the same calls without
unfoldable pub as_plain : Call → Call
as_plain (step arguments) = step (record { summary = without; buffer = arguments.buffer })
as_plain (frame arguments) = frame (record { summary = without; bytes = arguments.bytes; buffer = arguments.buffer })

-- leave the same file and run, and are permitted where these are: so a list may have summaries in any of its calls
abbrev pub GivenMakesNoDifference : Type 0
GivenMakesNoDifference =
    (names : List ℕ) (s : State) (p : Position) (calls : List Call) → GivenMatching names s p calls →
    (after_calls names s p calls ≡ after_calls names s p (map as_plain calls)) × (permitted names s p calls ≡ permitted names s p (map as_plain calls))
