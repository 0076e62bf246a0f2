-- A write at 0xFF, carried out: every unnamed slave that is awake and has the record takes it.
-- Assumes nothing.
use Prim.Native.Nat.{ℕ, zero, suc, ◌<◌}
use native.Mathlib.Omega.{arith}
use mathlib.Core.Path.{◌≡◌, refl, ap, ◌∙◌}
use mathlib.Core.Logic.{◌≢◌}
use mathlib.Core.List.{List, [], ◌∷◌, map}
use mathlib.Core.Bool.{true, not}
use lib.ListN.{length, get_or}
use borrow.Author.Tests.{eq-eqb, ne_eqb}
use Rattle.file.specs.Rules.Bytes.{Bytes}
use Rattle.file.specs.Rules.Layout.{pending_flag}
use Rattle.file.specs.Rules.Cluster.{Slave, Cluster, no_slave_lem, bytes_in, has_record, record_of, logical_name, unnamed, documentation, file_number_of, operation_of, pb2_of, write_operation}
use Rattle.file.specs.Rules.Decode.{decode}
use Rattle.file.specs.Rules.Changes.{with_sleep, with_slaves, with_epoch}
use Rattle.file.proofs.Order.{both_true}
use Rattle.frame.specs.Rules.Fireworks.{msd}
use Rattle.frame.specs.Rules.Frames.{between}
use Rattle.master_slave.specs.Rules.Slaves.{epoch_raised, Duty, writing, duty_by, pending_duty, addresses, addressed, may_write, takes_write, slave_after, slaves_after, falls_asleep, rests_after, rested}
use Rattle.cluster.specs.Rules.RoundGrounds.{round_by_lem}
use Rattle.cluster.specs.Rules.Round.{effect_of, frame_on, round_ground, round_on}
use Rattle.cluster.specs.Claims.Pending.{Pending}
use Rattle.cluster.specs.Claims.Writes.{slave_in, UnnamedTakeWrites}
use Rattle.cluster.proofs.Rounds.{round-becomes}
use Rattle.cluster.proofs.Replaced.{write-taken}
use Rattle.master_slave.proofs.Asleep.{is-awake}

-- ---- the operation

write_by : (name n r : ℕ) {pb2 : ℕ} → pb2 ≡ pb2_of n write_operation → duty_by name pb2 r ≡ writing name n r
unfolding duty_by pb2_of
write_by name n r {pb2} e =
    let operation : operation_of pb2 ≡ write_operation = omega (arith, e) in
    let file : file_number_of pb2 ≡ n = omega (arith, e) in
    rw (operation, file)

write-pending : (c : Cluster) (name n r : ℕ) → Pending c pending_flag name (pb2_of n write_operation) r → pending_duty c ≡ writing name n r
unfolding pending_duty
write-pending c name n r p =
    rw (eq-eqb c.flag pending_flag p.is_flag)
    (write_by c.pending_name n c.pending_pb3 p.is_pb2 ∙ ap (λ (m : ℕ). writing m n c.pending_pb3) p.is_name ∙ ap (λ (m : ℕ). writing name n m) p.is_pb3)

-- ---- the slaves

pub slaves-after :
    (c : Cluster) (frame : List ℕ) {o : Duty} → round_by_lem frame ≡ msd → pending_duty c ≡ o →
    (frame_on c frame).after.slaves ≡ map (rests_after o) (map (slave_after o (between frame)) c.slaves)
unfolding frame_on effect_of rested slaves_after with_slaves epoch_raised with_epoch
slaves-after c frame is p = rw (is, p)

pub map-length : (f : Slave → Slave) (ss : List Slave) → length (map f ss) ≡ length ss
map-length f [] = refl
map-length f (s ∷ ss) = rw (map-length f ss)

pub mapped_at : (f : Slave → Slave) (ss : List Slave) (i : ℕ) (d : Slave) → i < length ss → get_or (map f ss) i d ≡ f (get_or ss i d)
mapped_at f [] i d h = absurd (omega arith)
mapped_at f (s ∷ ss) zero d h = refl
mapped_at f (s ∷ ss) (suc i) d h = mapped_at f ss i d (omega arith)

-- a write puts nobody to sleep
written-awake : (name n r : ℕ) (s : Slave) → rests_after (writing name n r) s ≡ with_sleep s 0
unfolding rests_after falls_asleep
written-awake name n r s = refl

takes : (n r : ℕ) (s : Slave) → s.asleep ≡ 0 → logical_name s ≡ unnamed → has_record s n r ≡ true → n ≢ documentation → r ≢ 0x00 → takes_write unnamed n r s ≡ true
unfolding takes_write addressed addresses may_write
takes n r s awake own has file «record» =
    both_true (both_true (is-awake s awake) (eq-eqb (logical_name s) unnamed own))
    (both_true has (both_true (ap not (ne_eqb n documentation file)) (ap not (ne_eqb r 0x00 «record»))))

-- the slave at an index after an accepted MSD with a write pending
pub slave-written :
    (file frame buffer : List ℕ) (name n r i : ℕ) → Bytes file → Bytes frame → round_by_lem frame ≡ msd → round_ground file frame buffer ≡ 0 →
    Pending (decode file) pending_flag name (pb2_of n write_operation) r → i < length (decode file).slaves →
    slave_in (round_on file frame buffer).2 i ≡ with_sleep (slave_after (writing name n r) (between frame) (slave_in file i)) 0
unfolding slave_in
slave-written file frame buffer name n r i fb rb is_msd accepted pending here =
    let new = round-becomes file frame buffer fb rb accepted in
    let after : Slave → Slave = slave_after (writing name n r) (between frame) in
    let slaves : (decode (round_on file frame buffer).2).slaves ≡ map (rests_after (writing name n r)) (map after (decode file).slaves) =
    ap (λ (c : Cluster). c.slaves) new.decoded ∙ slaves-after (decode file) frame is_msd (write-pending (decode file) name n r pending)
    in
    ap (λ (ss : List Slave). get_or ss i no_slave_lem) slaves
    ∙ mapped_at (rests_after (writing name n r)) (map after (decode file).slaves) i no_slave_lem (rw (map-length after (decode file).slaves) here)
    ∙ ap (rests_after (writing name n r)) (mapped_at after (decode file).slaves i no_slave_lem here)
    ∙ written-awake name n r (after (get_or (decode file).slaves i no_slave_lem))

-- its records are those of the same slave, asleep or awake
pub slept_record : (s : Slave) (b n r : ℕ) → record_of (with_sleep s b) n r ≡ record_of s n r
unfolding record_of bytes_in with_sleep
slept_record s b n r = refl

-- ---- the claim

pub unnamed-take-writes : UnnamedTakeWrites
unnamed-take-writes file frame buffer n r fb rb w i here awake own has =
    ap (λ (t : Slave). record_of t n r) (slave-written file frame buffer unnamed n r i fb rb w.is_msd w.accepted w.pending here)
    ∙ slept_record (slave_after (writing unnamed n r) (between frame) (slave_in file i)) 0 n r
    ∙ (write-taken unnamed n r (between frame) (slave_in file i) refl (takes n r (slave_in file i) awake own has w.not_documentation w.not_header)).here
