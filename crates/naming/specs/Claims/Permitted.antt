-- Which lists of calls demand 3 permits (document 01, "The naming run", third paragraph; document 02, job 5), written out in the
-- documents' words and by no part of `permitted`; and that it permits these lists and no others.
use Rattle.std.specs.Prelude.{ℕ, ◌≤◌, ◌≡◌, ◌≢◌, ◌↔◌, List, [], ◌∷◌, ◌++◌, true}
use Rattle.file.specs.Rules.Bytes.{All}
use Rattle.file.specs.Rules.Cluster.{configuration, broadcast, read_operation, write_operation}
use Rattle.frame.specs.Rules.Fireworks.{Round, multipartner, msd, msa}
use Rattle.frame.specs.Rules.Reading.{Parts, parts_of}
use Rattle.cluster.specs.Rules.RoundGrounds.{round_by_lem}
use Rattle.cluster.specs.Rules.Round.{round_on}
use Rattle.cluster.specs.Rules.Summary.{round_keeping_ground}
use Rattle.naming.specs.Rules.Position.{Position}
use Rattle.naming.specs.Rules.Step.{step_keeping_ground, step_on}
use Rattle.naming.specs.Rules.Account.{StepArguments, FrameArguments, Call, step, frame}
use Rattle.naming.specs.Claims.Demand.{start_on, permitted, OfBytes}

-- what the MSA of a permitted round may ask for
pub data MayAsk (a : Parts) : Type 0 where
  -- "no write to or execute of 0x08": a read of any file, and any operation on another file
  read : a.operation ≡ read_operation → MayAsk a
  other_file : a.file ≢ configuration → MayAsk a
  -- "The naming theorem now permits writes to record 1 of slaves with names 0x01 to 0xFE as well."
  write_at_name :
      a.file ≡ configuration → a.operation ≡ write_operation → a.«record» ≡ 1 → 0x01 ≤ a.name → a.name ≤ 0xFE → MayAsk a
  -- the one addition to the documents' words: such a write at 0x00, which reaches these slaves and those named 0x00
  write_at_all : a.file ≡ configuration → a.operation ≡ write_operation → a.«record» ≡ 1 → a.name ≡ broadcast → MayAsk a

-- a frame that no ground refuses, of that round
pub record Accepted (file : List ℕ) (arguments : FrameArguments) (round : Round) : Type 0 where
  pub none : round_keeping_ground file arguments.summary arguments.bytes arguments.buffer ≡ 0
  pub opens : round_by_lem arguments.bytes ≡ round

-- "refused steps and frames"
pub data Refused (names file : List ℕ) (p : Position) : Call → Type 0 where
  in_step : {arguments : StepArguments} → step_keeping_ground file p names arguments.summary arguments.buffer ≢ 0 → Refused names file p (step arguments)
  in_frame :
      {arguments : FrameArguments} → round_keeping_ground file arguments.summary arguments.bytes arguments.buffer ≢ 0 → Refused names file p (frame arguments)

-- "every list of steps, permitted rounds (complete ones, but no write to or execute of 0x08) and refused steps and frames", each call on
-- the file and the run as the last one left them
pub data PermittedList (names : List ℕ) : List ℕ → Position → List Call → Type 0 where
  no_calls : {file : List ℕ} {p : Position} → PermittedList names file p []
  refused_call :
      {file : List ℕ} {p : Position} {c : Call} {cs : List Call} → Refused names file p c → PermittedList names file p cs →
      PermittedList names file p (c ∷ cs)
  a_step :
      {file : List ℕ} {p : Position} {arguments : StepArguments} {cs : List Call} → step_keeping_ground file p names arguments.summary arguments.buffer ≡ 0 →
      PermittedList names (step_on file p names arguments.buffer).3 (step_on file p names arguments.buffer).1 cs →
      PermittedList names file p (step arguments ∷ cs)
  -- "A complete round is .. a multipartner frame"
  multipartner_round :
      {file : List ℕ} {p : Position} {arguments : FrameArguments} {r : ℕ} {cs : List Call} → Accepted file arguments (multipartner r) →
      PermittedList names (round_on file arguments.bytes arguments.buffer).2 p cs → PermittedList names file p (frame arguments ∷ cs)
  -- or "an accepted MSA followed directly, refused calls aside, by an accepted MSD"
  master_slave_round :
      {file : List ℕ} {p : Position} {address content : FrameArguments} {cs ds : List Call} → Accepted file address msa →
      MayAsk (parts_of address.bytes) → All (Refused names (round_on file address.bytes address.buffer).2 p) cs →
      Accepted (round_on file address.bytes address.buffer).2 content msd →
      PermittedList names (round_on (round_on file address.bytes address.buffer).2 content.bytes content.buffer).2 p ds →
      PermittedList names file p (frame address ∷ (cs ++ frame content ∷ ds))

-- a list of calls, frames being bytes, is permitted from a file and a run on if and only if it is such a list
abbrev pub PermittedExactly : Type 0
PermittedExactly =
    (names file : List ℕ) (p : Position) (calls : List Call) → All OfBytes calls →
    (permitted names (start_on file) p calls ≡ true) ↔ PermittedList names file p calls
