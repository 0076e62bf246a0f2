-- The claims of frames sent as they were written.
-- Assumes nothing.
use Prim.Native.Nat.{ℕ, ◌≤◌}
use native.Mathlib.Omega.{arith}
use mathlib.Core.Path.{◌≡◌, refl, ap, ◌∙◌}
use mathlib.Core.List.{List, [], ◌∷◌, map}
use mathlib.Core.Bool.{false}
use Rattle.file.specs.Rules.Cluster.{Slave, Cluster, file_number_of, operation_of, pb2_of, read_operation, write_operation, execute_operation}
use Rattle.file.specs.Rules.Changes.{with_slaves, with_pending}
use Rattle.file.specs.Rules.Decode.{decode}
use Rattle.file.proofs.Order.{clash}
use Rattle.frame.specs.Rules.Fireworks.{data_firework}
use Rattle.frame.specs.Rules.Frames.{between}
use Rattle.master_slave.specs.Rules.Slaves.{with_address, epoch_raised, Duty, nothing, reading, writing, comparing, baptizing, sleeping, execution_of, duty_by, pending_duty, slave_after, slaves_after}
use Rattle.cluster.specs.Rules.RoundGrounds.{write_pending}
use Rattle.cluster.specs.Rules.Round.{effect_of, frame_on}
use Rattle.cluster.specs.Claims.Written.{AddressSentAsWritten, DataSentAsWritten, FireworkAlone}
use Rattle.cluster.proofs.WritePending.{pending-writes}
use Rattle.cluster.proofs.Rounds.{round-accepted}
use Rattle.cluster.proofs.Sent.{round-fits, alone_round, alone_fits, written-address-sent, written-data-sent}

-- ---- an address frame

module _ (c : Cluster) (epoch name number operation «record» : ℕ) where
  duty_pending : pending_duty (with_address c epoch name (pb2_of number operation) «record») ≡ duty_by name (pb2_of number operation) «record»
  unfolding pending_duty with_address with_pending
  duty_pending = refl

  module _ (legal : operation ≤ execute_operation) where
    operation-is : operation_of (pb2_of number operation) ≡ operation
    unfolding pb2_of
    operation-is = omega arith

    file-is : file_number_of (pb2_of number operation) ≡ number
    unfolding pb2_of
    file-is = omega arith

    reads : operation ≡ read_operation → pending_duty (with_address c epoch name (pb2_of number operation) «record») ≡ reading name number «record»
    reads e = duty_pending ∙ unfold duty_by in rw (operation-is ∙ e, file-is)

    writes : operation ≡ write_operation → pending_duty (with_address c epoch name (pb2_of number operation) «record») ≡ writing name number «record»
    writes e = duty_pending ∙ unfold duty_by in rw (operation-is ∙ e, file-is)

    executes : operation ≡ execute_operation → pending_duty (with_address c epoch name (pb2_of number operation) «record») ≡ execution_of name number «record»
    executes e = duty_pending ∙ unfold duty_by in rw (operation-is ∙ e, file-is)

pub address-sent_as_written : AddressSentAsWritten
address-sent_as_written file buffer answer epoch name number operation «record» accepted long written =
    record {
      round = written-address-sent file buffer answer epoch name number operation «record» accepted long written;
      reads = λ e. reads (decode file) epoch name number operation «record» (omega arith) e;
      writes = λ e. writes (decode file) epoch name number operation «record» (omega arith) e;
      executes = λ e. executes (decode file) epoch name number operation «record» (omega arith) e;
    }

-- ---- a data frame

pub data-sent_as_written : DataSentAsWritten
data-sent_as_written file buffer answer b₀ b₁ b₂ b₃ name n r accepted long p written =
    written-data-sent b₀ b₁ b₂ b₃ file buffer answer name n r accepted long p written

-- ---- the firework alone

-- what is no write does the same whatever the data
alike : (c : Cluster) → write_pending c ≡ false → (o : Duty) → pending_duty c ≡ o → (xs ys : List ℕ) (s : Slave) → slave_after o xs s ≡ slave_after o ys s
unfolding slave_after
alike c none nothing is xs ys s = refl
alike c none (reading name n r) is xs ys s = refl
alike c none (writing name n r) is xs ys s = clash (pending-writes c is) none
alike c none (comparing name) is xs ys s = refl
alike c none (baptizing name) is xs ys s = refl
alike c none (sleeping name) is xs ys s = refl

all_alike : (f g : Slave → Slave) → ((s : Slave) → f s ≡ g s) → (ss : List Slave) → map f ss ≡ map g ss
all_alike f g same [] = refl
all_alike f g same (s ∷ ss) = rw (same s, all_alike f g same ss)

slaves-alike : (c d : Cluster) → write_pending c ≡ false → (xs ys : List ℕ) → slaves_after (pending_duty c) xs d ≡ slaves_after (pending_duty c) ys d
unfolding slaves_after
slaves-alike c d none xs ys =
    ap (with_slaves d) (all_alike (slave_after (pending_duty c) xs) (slave_after (pending_duty c) ys) (alike c none (pending_duty c) refl xs ys) d.slaves)

pub firework_alone : FireworkAlone
unfolding frame_on effect_of
firework_alone file answer accepted long none =
    round-accepted file (data_firework ∷ []) answer (round-fits file (data_firework ∷ []) answer accepted long (alone_fits (decode file) none))
    ∙ rw (alone_round, slaves-alike (decode file) (epoch_raised (decode file)) none (between (data_firework ∷ [])) [])
