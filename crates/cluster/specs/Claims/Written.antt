-- "each frame we write is read by a slave as the same operation" (the customer's second demand): what the two writers wrote, sent
-- on any accepted file with an answer buffer of 64 bytes or more, is accepted and carried out as the operation that was given to them.
use Rattle.std.specs.Prelude.{ℕ, ◌≤◌, ◌≡◌, List, [], ◌∷◌, false, length, take}
use Rattle.file.specs.Rules.Results.{done}
use Rattle.file.specs.Rules.Cluster.{Cluster, pb2_of, read_operation, write_operation, execute_operation}
use Rattle.file.specs.Rules.Encode.{encode}
use Rattle.file.specs.Rules.Decode.{decode}
use Rattle.file.specs.Rules.FileGrounds.{file_ground}
use Rattle.frame.specs.Rules.Fireworks.{data_firework, address_firework}
use Rattle.frame.specs.Rules.Frames.{frame_size}
use Rattle.frame.specs.Rules.Writing.{write_address, write_data}
use Rattle.master_slave.specs.Rules.Bus.{slots, sender_mask, answer_bytes, answer_in, nobody}
use Rattle.master_slave.specs.Rules.Slaves.{with_address, epoch_raised, nothing, reading, writing, execution_of, pending_duty, sent_to, slaves_after, rested}
use Rattle.cluster.specs.Rules.RoundGrounds.{write_pending}
use Rattle.cluster.specs.Rules.Round.{round_on}

-- a frame that is accepted and in which nobody sends, and what the cluster becomes
abbrev pub SilentlyBecomes : List ℕ → List ℕ → List ℕ → ℕ → Cluster → Type 0
SilentlyBecomes file frame answer firework after =
    round_on file frame answer ≡ (done 0, answer_in answer (answer_bytes firework nobody), encode after)

-- an address frame: epoch, name, file, operation and record are left pending and nothing else changes; nobody sends; and what a slave will
-- do for it is the read, write or execute of that record of that file at that name
pub record SameAddress (file frame answer : List ℕ) (epoch name number operation «record» : ℕ) : Type 0 where
  pub round : SilentlyBecomes file frame answer address_firework (with_address (decode file) epoch name (pb2_of number operation) «record»)
  pub reads :
      operation ≡ read_operation → pending_duty (with_address (decode file) epoch name (pb2_of number operation) «record») ≡ reading name number «record»
  pub writes :
      operation ≡ write_operation → pending_duty (with_address (decode file) epoch name (pb2_of number operation) «record») ≡ writing name number «record»
  pub executes :
      operation ≡ execute_operation →
      pending_duty (with_address (decode file) epoch name (pb2_of number operation) «record») ≡ execution_of name number «record»

-- the six bytes that the address writer wrote, sent
abbrev pub AddressSentAsWritten : Type 0
AddressSentAsWritten =
    (file buffer answer : List ℕ) (epoch name number operation «record» : ℕ) → file_ground file ≡ 0 → slots ≤ length answer →
    (write_address buffer epoch name number operation «record»).0 ≡ done tt →
    SameAddress file (take frame_size (write_address buffer epoch name number operation «record»).1) answer epoch name number operation «record»

-- the six bytes that the data writer wrote, sent with a write pending: just these bytes are put, as the rule of a write says, the epoch is
-- raised, everyone is awake, and nobody sends
abbrev pub DataSentAsWritten : Type 0
DataSentAsWritten =
    (file buffer answer : List ℕ) (b₀ b₁ b₂ b₃ name n r : ℕ) → file_ground file ≡ 0 → slots ≤ length answer →
    pending_duty (decode file) ≡ writing name n r → (write_data buffer (b₀ ∷ b₁ ∷ b₂ ∷ b₃ ∷ [])).0 ≡ done tt →
    SilentlyBecomes file (take frame_size (write_data buffer (b₀ ∷ b₁ ∷ b₂ ∷ b₃ ∷ [])).1) answer data_firework
    (rested nothing (slaves_after (writing name n r) (b₀ ∷ b₁ ∷ b₂ ∷ b₃ ∷ []) (epoch_raised (decode file))))

-- with no write pending the data frame is its firework alone: who has something to send for what is pending sends it, the slaves become
-- what it makes of them, and those that it puts to sleep are asleep, all others awake
abbrev pub FireworkAlone : Type 0
FireworkAlone =
    (file answer : List ℕ) → file_ground file ≡ 0 → slots ≤ length answer → write_pending (decode file) ≡ false →
    round_on file (data_firework ∷ []) answer ≡ (
      done (sender_mask (sent_to (pending_duty (decode file)) (decode file).slaves)),
      answer_in answer (answer_bytes data_firework (sent_to (pending_duty (decode file)) (decode file).slaves)),
      encode (rested (pending_duty (decode file)) (slaves_after (pending_duty (decode file)) [] (epoch_raised (decode file)))),
    )
