-- Demand 3 (document 01, "The naming run", third paragraph): a list of calls, carried out one after the other on a file and a run,
-- which of them are permitted, and what is then claimed.
use Rattle.std.specs.Prelude.{ℕ, ◌≡◌, List, [], ◌∷◌, Bool, true, false, cond, not, get_or, eqb}
use Rattle.file.specs.Rules.Bytes.{Bytes, All}
use Rattle.file.specs.Rules.Order.{both, either}
use Rattle.file.specs.Rules.Results.{refused, done}
use Rattle.file.specs.Rules.Cluster.{configuration, unnamed, file_number_of, operation_of, pb2_of, read_operation, write_operation}
use Rattle.file.specs.Rules.Decode.{decode}
use Rattle.file.specs.Rules.FileGrounds.{file_ground}
use Rattle.frame.specs.Rules.Fireworks.{Round, multipartner, msd, msa, no_round}
use Rattle.cluster.specs.Rules.RoundGrounds.{round_by_lem}
use Rattle.cluster.specs.Rules.Round.{Answer}
use Rattle.cluster.specs.Rules.Summary.{round_keeping_ground, round_keeping}
use Rattle.naming.specs.Rules.Position.{Position, fresh}
use Rattle.naming.specs.Rules.RunGrounds.{start_ground, unfit_position}
use Rattle.naming.specs.Rules.Step.{step_keeping_ground, step_keeping}
use Rattle.naming.specs.Rules.Account.{StepArguments, FrameArguments, Call, step, frame, arguments_ground}
use Rattle.naming.specs.Rules.Account.{names_in_lem, account_of, account_after, comparisons_of}
use Rattle.naming.specs.Rules.Figures.{Outcome}

-- the file as the last call left it, and whether a round of others is half done: its MSA accepted, its MSD still to come
pub record State : Type 0 where
  pub file : List ℕ
  pub halfway : Bool

unfoldable pub start_on : List ℕ → State
start_on file = record { file = file; halfway = false }

-- refused calls aside, an MSA opens a round, an MSD ends it
unfoldable pub halfway_after : Bool → Answer → Round → Bool
halfway_after h (refused n) round = h
halfway_after h (done mask) (multipartner r) = h
halfway_after h (done mask) msd = false
halfway_after h (done mask) msa = true
halfway_after h (done mask) no_round = h

-- "each call gets the file as the last call left it, each step also the run as the last step left it and the unchanged names"
unfoldable pub call_on : List ℕ → State → Position → Call → State × Position
call_on names s p (step arguments) =
    let r = step_keeping s.file p names arguments.summary arguments.buffer in (record { file = r.3; halfway = s.halfway }, r.1)
call_on names s p (frame arguments) =
    let r = round_keeping s.file arguments.summary arguments.bytes arguments.buffer in
    (record { file = r.2; halfway = halfway_after s.halfway r.0 (round_by_lem arguments.bytes) }, p)

-- "no write to or execute of 0x08": PB2 of an MSA
unfoldable pub changes_configuration : ℕ → Bool
changes_configuration pb2 = both (eqb (file_number_of pb2) configuration) (not (eqb (operation_of pb2) read_operation))

-- "The naming theorem now permits writes to record 1 of slaves with names 0x01 to 0xFE as well." (document 02, job 5): PB1, PB2 and PB3
-- of an MSA. At 0x00 such a write reaches the same slaves and those named 0x00, so it is permitted too: any name but 0xFF.
unfoldable pub writes_named : ℕ → ℕ → ℕ → Bool
writes_named name pb2 pb3 = both (eqb pb2 (pb2_of configuration write_operation)) (both (eqb pb3 1) (not (eqb name unnamed)))

unfoldable pub permitted_address : List ℕ → Bool
permitted_address bytes =
    either (not (changes_configuration (get_or bytes 3 0))) (writes_named (get_or bytes 2 0) (get_or bytes 3 0) (get_or bytes 4 0))

-- an accepted frame: "A complete round is an accepted MSA followed directly, refused calls aside, by an accepted MSD, or a
-- multipartner frame; a lone MSA or MSD is none."
unfoldable pub permitted_frame : Bool → Round → List ℕ → Bool
permitted_frame true (multipartner r) bytes = false
permitted_frame true msd bytes = true
permitted_frame true msa bytes = false
permitted_frame true no_round bytes = false
permitted_frame false (multipartner r) bytes = true
permitted_frame false msd bytes = false
permitted_frame false msa bytes = permitted_address bytes
permitted_frame false no_round bytes = false

-- a call: a refused one always; an accepted step within no round of others
unfoldable pub permitted_call : List ℕ → State → Position → Call → Bool
permitted_call names s p (step arguments) = cond (eqb (step_keeping_ground s.file p names arguments.summary arguments.buffer) 0) (not s.halfway) true
permitted_call names s p (frame arguments) =
    let bytes = arguments.bytes in
    cond (eqb (round_keeping_ground s.file arguments.summary bytes arguments.buffer) 0) (permitted_frame s.halfway (round_by_lem bytes) bytes) true

-- "every list of steps, permitted rounds .. and refused steps and frames": each judged where it comes, and no round left half done
unfoldable pub permitted : List ℕ → State → Position → List Call → Bool
permitted names s p [] = not s.halfway
permitted names s p (c ∷ cs) =
    let rest = permitted names (call_on names s p c).0 (call_on names s p c).1 cs in both (permitted_call names s p c) rest

-- file and run after the calls
unfoldable pub after_calls : List ℕ → State → Position → List Call → State × Position
after_calls names s p [] = (s, p)
after_calls names s p (c ∷ cs) = after_calls names (call_on names s p c).0 (call_on names s p c).1 cs

-- a frame is bytes
pub data OfBytes : Call → Type 0 where
  of_step : {arguments : StepArguments} → OfBytes (step arguments)
  of_frame : {arguments : FrameArguments} → Bytes arguments.bytes → OfBytes (frame arguments)

-- "Demand 3 compares every logical name, the end and both counts carried in the run with this account"; the file stays accepted,
-- ground 17 does not hold, a step that comes next meets no ground but that of its own arguments, and the closed figures
pub record Demand (file names : List ℕ) (calls : List Call) (now : List ℕ) (p : Position) : Type 0 where
  pub accepted : file_ground now ≡ 0
  pub logical : names_in_lem (decode now) ≡ (account_after (account_of (names_in_lem (decode file)) names) calls).slaves
  pub end : p.end ≡ (account_after (account_of (names_in_lem (decode file)) names) calls).end
  pub rounds : p.counts.rounds ≡ (account_after (account_of (names_in_lem (decode file)) names) calls).rounds
  pub comparisons : p.counts.comparisons ≡ comparisons_of (account_after (account_of (names_in_lem (decode file)) names) calls)
  pub fit : unfit_position names p ≡ false
  pub grounds :
      (arguments : StepArguments) → step_keeping_ground now p names arguments.summary arguments.buffer ≡ arguments_ground (names_in_lem (decode now)) arguments
  pub outcome : Outcome (names_in_lem (decode file)) names (names_in_lem (decode now)) p.end p.counts.rounds p.counts.comparisons

-- Demand 3: "It is one claim about the whole list of calls, not one for each."
-- "Demand 3 shuts out: a master that says "all named" before polling; .. counts not made."
abbrev pub DemandThree : Type 0
DemandThree =
    -- "It starts from an accepted file"; its slaves may sleep at the start (document 02, job 9)
    (file : List ℕ) → Bytes file → file_ground file ≡ 0 →
    -- "and list of names"
    (names : List ℕ) → Bytes names → start_ground names ≡ 0 →
    -- "every list of steps, permitted rounds (complete ones, but no write to or execute of 0x08) and refused steps and frames", with
    -- the writes that document 02 permits "as well", from that file and "a fresh run"
    (calls : List Call) → All OfBytes calls → permitted names (start_on file) (fresh names) calls ≡ true →
    -- "after" it, file and run being "as the last call left" them
    Demand file names calls (after_calls names (start_on file) (fresh names) calls).0.file (after_calls names (start_on file) (fresh names) calls).1
