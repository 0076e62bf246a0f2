-- The lists that demand 3 permits are many, and not all: rounds that fit after every permitted list of calls and before every list of
-- steps, so between any two steps; and frames with which no permitted list goes on.
use Rattle.std.specs.Prelude.{ℕ, ◌≤◌, ◌≡◌, ◌≢◌, ◌↔◌, List, [], ◌∷◌, ◌++◌, Bool, true, false, length, eqb}
use Rattle.file.specs.Rules.Bytes.{Byte, Bytes, All}
use Rattle.file.specs.Rules.Cluster.{configuration, unnamed, broadcast, read_operation, write_operation, execute_operation}
use Rattle.file.specs.Rules.Decode.{decode}
use Rattle.file.specs.Rules.FileGrounds.{file_ground}
use Rattle.frame.specs.Rules.Fireworks.{Round, multipartner, msd, data_firework, round_of}
use Rattle.frame.specs.Rules.Frames.{address_frame, data_frame}
use Rattle.frame.specs.Rules.Reading.{Parts}
use Rattle.master_slave.specs.Rules.Bus.{slots}
use Rattle.cluster.specs.Rules.RoundGrounds.{write_pending}
use Rattle.cluster.specs.Rules.Round.{round_on}
use Rattle.cluster.specs.Rules.Summary.{Summary, without}
use Rattle.cluster.specs.Claims.Summary.{Matches}
use Rattle.naming.specs.Rules.Position.{Position, fresh}
use Rattle.naming.specs.Rules.RunGrounds.{start_ground}
use Rattle.naming.specs.Rules.Step.{step_keeping_ground}
use Rattle.naming.specs.Rules.Account.{StepArguments, FrameArguments, Call, step, frame}
use Rattle.naming.specs.Claims.Demand.{start_on, permitted, after_calls, OfBytes}
use Rattle.naming.specs.Claims.Permitted.{MayAsk, Accepted, Refused}

-- calls that demand 3 permits, and the file and the run that they leave
pub record PermittedFrom (file names : List ℕ) (calls : List Call) : Type 0 where
  pub file_bytes : Bytes file
  pub accepted : file_ground file ≡ 0
  pub name_bytes : Bytes names
  pub start : start_ground names ≡ 0
  pub call_bytes : All OfBytes calls
  pub may : permitted names (start_on file) (fresh names) calls ≡ true

abbrev pub file_after : List ℕ → List ℕ → List Call → List ℕ
file_after file names calls = (after_calls names (start_on file) (fresh names) calls).0.file

abbrev pub run_after : List ℕ → List ℕ → List Call → Position
run_after file names calls = (after_calls names (start_on file) (fresh names) calls).1

pub data IsStep : Call → Type 0 where
  is-step : {arguments : StepArguments} → IsStep (step arguments)

-- ---- the frames of rounds

-- an MSA of bytes that no ground refuses on an accepted file, by what it says
pub record Sendable (a : Parts) : Type 0 where
  pub epoch : Byte a.epoch
  pub name : Byte a.name
  pub file : a.file ≤ 63
  pub operation : a.operation ≤ execute_operation
  pub «record» : Byte a.«record»
  pub not_to_all : a.operation ≡ read_operation → a.name ≢ broadcast

unfoldable pub address_of : Parts → List ℕ
address_of a = address_frame a.epoch a.name a.file a.operation a.«record»

-- "MSD is 6 bytes (0x49, four data bytes, check) if a write is pending, otherwise 1."
pub data DataFor (write : Bool) : List ℕ → Type 0 where
  of_write_lem : {b₀ b₁ b₂ b₃ : ℕ} → write ≡ true → Bytes (b₀ ∷ b₁ ∷ b₂ ∷ b₃ ∷ []) → DataFor write (data_frame (b₀ ∷ b₁ ∷ b₂ ∷ b₃ ∷ []))
  of_other_lem : write ≡ false → DataFor write (data_firework ∷ [])

-- permitted rounds one after the other: multipartner rounds, and master-slave rounds that ask for what may be asked for
pub data Rounds : List (List ℕ) → Type 0 where
  no_rounds : Rounds []
  multipartner_next : {firework r : ℕ} {frames : List (List ℕ)} → Byte firework → round_of firework ≡ multipartner r → Rounds frames → Rounds ((firework ∷ []) ∷ frames)
  master_slave_next :
      {a : Parts} {content : List ℕ} {frames : List (List ℕ)} → Sendable a → MayAsk a → DataFor (eqb a.operation write_operation) content →
      Rounds frames → Rounds (address_of a ∷ content ∷ frames)

-- frames sent one after the other, each with an answer buffer that is long enough and without a summary
pub data SentBy : List (List ℕ) → List Call → Type 0 where
  no_frames : SentBy [] []
  one_more_lem :
      {bytes buffer : List ℕ} {frames : List (List ℕ)} {calls : List Call} → slots ≤ length buffer → SentBy frames calls →
      SentBy (bytes ∷ frames) (frame (record { summary = without; bytes = bytes; buffer = buffer }) ∷ calls)

-- ---- rounds that fit

-- after any permitted list and before any steps. Not before any calls: a round that is put in may leave another operation pending, and
-- with it a one-byte MSD further on, refused where a write is pending, is accepted: a lone MSD.
abbrev pub RoundsFit : Type 0
RoundsFit =
    (file names : List ℕ) (cs : List Call) → PermittedFrom file names cs → (frames : List (List ℕ)) → Rounds frames → (rs : List Call) → SentBy frames rs →
    (ds : List Call) → All IsStep ds → permitted names (start_on file) (fresh names) (cs ++ (rs ++ ds)) ≡ true

-- each of the six multipartner rounds is among them
abbrev pub EachMultipartner : Type 0
EachMultipartner = All (λ (firework : ℕ). Rounds ((firework ∷ []) ∷ [])) (0x78 ∷ 0xBA ∷ 0x8B ∷ 0x64 ∷ 0xA6 ∷ 0x97 ∷ [])

-- ---- frames that do not fit

-- what an MSA may not ask for: a write to 0x08 at another record than 1 or at 0xFF, an execute of 0x08
pub data MayNotAsk (a : Parts) : Type 0 where
  other_record : a.file ≡ configuration → a.operation ≡ write_operation → a.«record» ≢ 1 → MayNotAsk a
  at_unnamed : a.file ≡ configuration → a.operation ≡ write_operation → a.name ≡ unnamed → MayNotAsk a
  execute : a.file ≡ configuration → a.operation ≡ execute_operation → MayNotAsk a

-- which is all that it can ask for and may not
abbrev pub MayNotAskExactly : Type 0
MayNotAskExactly = (a : Parts) → Sendable a → MayNotAsk a ↔ (MayAsk a → ⊥)

-- such an MSA fits nowhere, whatever follows: without a summary, or with one that matches (with another it is refused)
abbrev pub BarredMsa : Type 0
BarredMsa =
    (file names : List ℕ) (cs : List Call) → PermittedFrom file names cs → (a : Parts) → Sendable a → MayNotAsk a →
    (summary : Summary) → Matches (file_after file names cs) summary → (buffer : List ℕ) → slots ≤ length buffer → (ds : List Call) →
    permitted names (start_on file) (fresh names) (cs ++ frame (record { summary = summary; bytes = address_of a; buffer = buffer }) ∷ ds) ≡ false

-- no MSD comes next: refused calls aside, the calls end, or a step or a frame that is no MSD is accepted
pub data NoMsdNext (names file : List ℕ) (p : Position) : List Call → Type 0 where
  at_the_end : NoMsdNext names file p []
  refused_next : {c : Call} {cs : List Call} → Refused names file p c → NoMsdNext names file p cs → NoMsdNext names file p (c ∷ cs)
  step_next : {arguments : StepArguments} {cs : List Call} → step_keeping_ground file p names arguments.summary arguments.buffer ≡ 0 → NoMsdNext names file p (step arguments ∷ cs)
  frame_next :
      {arguments : FrameArguments} {round : Round} {cs : List Call} → Accepted file arguments round → round ≢ msd →
      NoMsdNext names file p (frame arguments ∷ cs)

-- "a lone MSA or MSD is none": neither fits, an MSA whatever it asks for, an MSD whatever is pending
abbrev pub LoneMsa : Type 0
LoneMsa =
    (file names : List ℕ) (cs : List Call) → PermittedFrom file names cs → (a : Parts) → Sendable a →
    (summary : Summary) → Matches (file_after file names cs) summary → (buffer : List ℕ) → slots ≤ length buffer →
    (ds : List Call) → NoMsdNext names (round_on (file_after file names cs) (address_of a) buffer).2 (run_after file names cs) ds →
    permitted names (start_on file) (fresh names) (cs ++ frame (record { summary = summary; bytes = address_of a; buffer = buffer }) ∷ ds) ≡ false

abbrev pub LoneMsd : Type 0
LoneMsd =
    (file names : List ℕ) (cs : List Call) → PermittedFrom file names cs →
    (content : List ℕ) → DataFor (write_pending (decode (file_after file names cs))) content →
    (summary : Summary) → Matches (file_after file names cs) summary → (buffer : List ℕ) → slots ≤ length buffer → (ds : List Call) →
    permitted names (start_on file) (fresh names) (cs ++ frame (record { summary = summary; bytes = content; buffer = buffer }) ∷ ds) ≡ false
