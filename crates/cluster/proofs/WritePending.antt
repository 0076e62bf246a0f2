-- When a write is pending, by the duty.
-- Assumes nothing.
use Prim.Native.Nat.{ℕ}
use mathlib.Core.Path.{◌≡◌, refl, sym, ap}
use mathlib.Core.Bool.{Bool, true, false}
use lib.Dec.{eqb}
use Rattle.file.specs.Rules.Layout.{pending_flag}
use Rattle.file.specs.Rules.Cluster.{Cluster, configuration, operation_of, file_number_of, read_operation, write_operation, execute_operation}
use Rattle.file.proofs.Order.{by_case, clash, both_true}
use Rattle.master_slave.specs.Rules.Slaves.{Duty, nothing, reading, writing, comparing, baptizing, sleeping, sleep_record, execution_of, duty_by, pending_duty}
use Rattle.cluster.specs.Rules.RoundGrounds.{write_pending}

is_writing : Duty → Bool
is_writing nothing = false
is_writing (reading name n r) = false
is_writing (writing name n r) = true
is_writing (comparing name) = false
is_writing (baptizing name) = false
is_writing (sleeping name) = false

execution_writes-not : (name n r : ℕ) → is_writing (execution_of name n r) ≡ false
unfolding execution_of is_writing
execution_writes-not name n r =
    by_case (eqb n configuration)
    (λ e. by_case (eqb r 2) (λ t. rw (e, t)) (λ t. by_case (eqb r 1) (λ o. rw (e, t, o)) (λ o. by_case (eqb r sleep_record) (λ z. rw (e, t, o, z)) (λ z. rw (e, t, o, z)))))
    (λ e. rw e)

duty_writes : (name pb2 pb3 : ℕ) → is_writing (duty_by name pb2 pb3) ≡ true → eqb (operation_of pb2) write_operation ≡ true
unfolding duty_by is_writing
duty_writes name pb2 pb3 w =
    by_case (eqb (operation_of pb2) read_operation)
    (λ e. clash (rw e at w) refl)
    (λ e. by_case (eqb (operation_of pb2) write_operation)
    (λ t. t)
    (λ t. by_case (eqb (operation_of pb2) execute_operation)
    (λ x. clash (rw (e, t, x) at w) (execution_writes-not name (file_number_of pb2) pb3))
    (λ x. clash (rw (e, t, x) at w) refl)))

pub pending-writes : (c : Cluster) {name n r : ℕ} → pending_duty c ≡ writing name n r → write_pending c ≡ true
unfolding write_pending pending_duty is_writing
pending-writes c p =
    by_case (eqb c.flag pending_flag)
    (λ waits. both_true waits (duty_writes c.pending_name c.pending_pb2 c.pending_pb3 (ap is_writing (rw waits at p))))
    (λ idle. clash refl (sym (ap is_writing (rw idle at p))))
