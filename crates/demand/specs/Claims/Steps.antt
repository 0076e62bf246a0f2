-- "Each step that makes a round changes the file as that round's two frames in document 01 do, and goes on by their answer." (the
-- customer's third demand), over the C calls: what ttpa_step does, two calls of ttpa_round do on the same file, buffer and senders' word,
-- with the frames that ttpa_write_address and ttpa_write_data write. (`naming/specs/Claims/StepFrames` has it over files and positions.)
use Rattle.std.specs.Prelude.{ℕ, ◌/◌, ◌%◌, ◌^◌, ◌≤◌, ◌<◌, ◌≡◌, ◌≢◌, List, [], ◌∷◌, ◌++◌, length, drop, eqb}
use Rattle.file.specs.Rules.Bytes.{Bytes}
use Rattle.file.specs.Rules.Cluster.{write_operation}
use Rattle.file.specs.Rules.Decode.{decode}
use Rattle.frame.specs.Rules.Fireworks.{data_firework}
use Rattle.frame.specs.Rules.Frames.{frame_size}
use Rattle.master_slave.specs.Rules.Slaves.{next_epoch}
use Rattle.cluster.specs.Rules.MasterSlave.{Sent}
use Rattle.naming.specs.Rules.RunRounds.{sent}
use Rattle.naming.specs.Rules.Position.{running}
use Rattle.naming.specs.Rules.Pass.{bits}
use Rattle.naming.specs.Rules.Run.{next_round, advance}
use Rattle.ttpa.specs.Rules.Calls.{write_address_call, write_data_call, round_call, step_call, words_of, position_in}

-- what a master sends, "PB0 being the file's epoch plus 1 modulo 256", and the six bytes that ttpa_write_address writes for it
abbrev pub WrittenAddress : List ℕ → Sent → List ℕ → Type 0
WrittenAddress file s address =
    (buffer : List ℕ) → frame_size ≤ length buffer →
    write_address_call buffer (next_epoch (decode file).epoch) s.name s.file s.operation s.«record» ≡ (0, address ++ drop frame_size buffer)

-- and its data frame: of a write the six bytes that ttpa_write_data writes, of any other operation the firework alone
pub data WrittenData (s : Sent) : List ℕ → Type 0 where
  for_write : {frame : List ℕ} → s.operation ≡ write_operation →
      ((buffer : List ℕ) → frame_size ≤ length buffer → write_data_call buffer s.content ≡ (0, frame ++ drop frame_size buffer)) → WrittenData s frame
  for_other : s.operation ≢ write_operation → WrittenData s (data_firework ∷ [])

-- number, senders, buffer and file after the first frame, and after both
abbrev pub after_first_lem : List ℕ → List ℕ → List ℕ → ℕ → ℕ × ℕ × List ℕ × List ℕ
after_first_lem file address answer senders = round_call file address answer senders

abbrev pub after_both : List ℕ → List ℕ → List ℕ → List ℕ → ℕ → ℕ × ℕ × List ℕ × List ℕ
after_both file address content answer senders =
    let first = after_first_lem file address answer senders in round_call first.3 content first.2 first.1

-- both return 0, and the step leaves senders, buffer and file as they do; the words move on by "a reply in slot 1", bit 1 of the senders
pub record StepIsRounds (file run names answer : List ℕ) (senders : ℕ) : Type 0 where
  pub address : List ℕ
  pub content : List ℕ
  pub written : WrittenAddress file (sent (next_round names (position_in run))) address
  pub data-written : WrittenData (sent (next_round names (position_in run))) content
  pub first : (after_first_lem file address answer senders).0 ≡ 0
  pub second : (after_both file address content answer senders).0 ≡ 0
  pub step :
      step_call file run names answer senders ≡ (
        0,
        (after_both file address content answer senders).1,
        words_of (advance names (position_in run) (eqb ((after_both file address content answer senders).1 / 2 ^ 1 % 2) 1)),
        (after_both file address content answer senders).2,
        (after_both file address content answer senders).3,
      )

-- a step that returns 0, of a running position whose value is one of 64 bits
abbrev pub StepsAreRounds : Type 0
StepsAreRounds =
    (file run names answer : List ℕ) (senders : ℕ) → Bytes file → Bytes names → (position_in run).place.value < 2 ^ bits →
    (step_call file run names answer senders).0 ≡ 0 → (position_in run).end ≡ running → StepIsRounds file run names answer senders
