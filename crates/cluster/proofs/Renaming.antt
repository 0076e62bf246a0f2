-- Who is renamed by a round: by the execute of record 1 of 0x08 those that its rule says, by any other nobody.
-- Assumes nothing.
use Prim.Native.Nat.{ℕ}
use native.Mathlib.Omega.{arith}
use mathlib.Core.Path.{◌≡◌, refl, ap, ◌∙◌}
use mathlib.Core.List.{List, [], ◌∷◌, map}
use lib.Dec.{eqb}
use borrow.Author.Tests.{eqb-true, eqb-false}
use Rattle.file.specs.Rules.Bytes.{All, all_empty, all_next}
use Rattle.file.specs.Rules.Layout.{pending_flag}
use Rattle.file.specs.Rules.Cluster.{Slave, Cluster, bytes_in, configuration, logical_name, logical_names, new_logical_name, file_number_of, operation_of, pb2_of}
use Rattle.file.specs.Rules.Cluster.{read_operation, write_operation, execute_operation}
use Rattle.file.specs.Rules.Legal.{LegalSlave}
use Rattle.file.specs.Rules.Changes.{with_slaves, with_epoch, with_pending}
use Rattle.file.specs.Rules.Decode.{decode}
use Rattle.file.specs.Inner.Accepted.{Becomes}
use Rattle.file.proofs.Order.{by_case}
use Rattle.file.proofs.Accepted.{accepted-becomes}
use Rattle.file.proofs.LogicalNames.{name-held}
use Rattle.frame.specs.Rules.Fireworks.{Round, multipartner, msd, msa, no_round}
use Rattle.frame.specs.Rules.Frames.{between}
use Rattle.master_slave.specs.Rules.Bus.{slots}
use Rattle.master_slave.specs.Rules.Slaves.{with_address, epoch_raised, Duty, nothing, reading, writing, comparing, baptizing, sleeping, sleep_record}
use Rattle.master_slave.specs.Rules.Slaves.{execution_of, duty_by, pending_duty, takes_name, named, slave_after, slaves_after, rests_after, rested}
use Rattle.multipartner.specs.Rules.Multipartner.{cluster_below}
use Rattle.cluster.specs.Rules.RoundGrounds.{round_by_lem}
use Rattle.multipartner.specs.Rules.Multipartner.{passed_over_lem}
use Rattle.cluster.specs.Rules.Round.{effect_of, frame_on, round_ground, round_on}
use Rattle.cluster.specs.Claims.Pending.{file_after, Pending}
use Rattle.cluster.specs.Claims.Renaming.{name_after, BaptizingRenames, OnlyBaptizingRenames, no_calls, one_more_lem, NobodyRenamed}
use Rattle.cluster.proofs.Rounds.{round_facts, round-refused, round-becomes, round-bytes}
use Rattle.master_slave.proofs.Kept.{rests_bytes}
use Rattle.cluster.proofs.Replaced.{write_keeps_name}
use Rattle.master_slave.proofs.Untouched.{files_of}
use Rattle.multipartner.proofs.Unstored.{below_other}

-- ---- a slave

-- any duty but a baptism leaves its name
duty_keeps_name : (o : Duty) → ((name : ℕ) → o ≡ baptizing name → ⊥) → (bytes : List ℕ) (s : Slave) → logical_name (slave_after o bytes s) ≡ logical_name s
duty_keeps_name nothing other bytes s = unfold slave_after in refl
duty_keeps_name (reading name n r) other bytes s = unfold slave_after in refl
duty_keeps_name (writing name n r) other bytes s = write_keeps_name name n r bytes s
duty_keeps_name (comparing name) other bytes s = unfold slave_after in refl
duty_keeps_name (baptizing name) other bytes s = absurd (other name refl)
duty_keeps_name (sleeping name) other bytes s = unfold slave_after in refl

-- a baptism gives it the name that its rule says
pub baptized : (name : ℕ) (bytes : List ℕ) {s : Slave} → LegalSlave s → logical_name (slave_after (baptizing name) bytes s) ≡ name_after name s
unfolding slave_after name_after named
baptized name bytes {s} l = by_case (takes_name name s) (λ e. rw e (name-held s (new_logical_name s) l)) (λ e. rw e)

-- ---- all slaves

slaves_keep : (f : Slave → Slave) → ((s : Slave) → logical_name (f s) ≡ logical_name s) → (ss : List Slave) → map logical_name (map f ss) ≡ map logical_name ss
slaves_keep f same [] = refl
slaves_keep f same (s ∷ ss) = rw (same s, slaves_keep f same ss)

slaves_baptized : (name : ℕ) (bytes : List ℕ) {ss : List Slave} → All LegalSlave ss → map logical_name (map (slave_after (baptizing name) bytes) ss) ≡ map (name_after name) ss
slaves_baptized name bytes all_empty = refl
slaves_baptized name bytes (all_next l ls) = rw (baptized name bytes l, slaves_baptized name bytes ls)

-- asleep or awake, they keep their names
rested_keeps : (o : Duty) (c : Cluster) → logical_names (rested o c) ≡ logical_names c
unfolding logical_names rested with_slaves logical_name
rested_keeps o c = slaves_keep (rests_after o) (λ s. rw (rests_bytes o s configuration)) c.slaves

-- the same configurations, the same names
names-alike : (ss ts : List Slave) → files_of configuration ts ≡ files_of configuration ss → map logical_name ts ≡ map logical_name ss
unfolding files_of logical_name
names-alike [] [] e = refl
names-alike [] (t ∷ ts) e = cc
names-alike (s ∷ ss) [] e = cc
names-alike (s ∷ ss) (t ∷ ts) e =
    let here : bytes_in t configuration ≡ bytes_in s configuration = cc in
    let others : files_of configuration ts ≡ files_of configuration ss = cc in
    rw (here, names-alike ss ts others)

-- ---- a frame

effect_keeps : (c : Cluster) (round : Round) (frame : List ℕ) → (round ≡ msd → (name : ℕ) → pending_duty c ≡ baptizing name → ⊥) → logical_names (effect_of c round frame).after ≡ logical_names c
unfolding effect_of logical_names with_address with_pending epoch_raised with_epoch slaves_after with_slaves
effect_keeps c (multipartner r) frame other =
    rested_keeps nothing (cluster_below (passed_over_lem c) r (epoch_raised c) slots)
    ∙ names-alike c.slaves _ (below_other (passed_over_lem c) r (epoch_raised c) slots configuration (λ h. omega arith))
effect_keeps c msd frame other =
    rested_keeps (pending_duty c) (slaves_after (pending_duty c) (between frame) (epoch_raised c))
    ∙ slaves_keep (slave_after (pending_duty c) (between frame)) (duty_keeps_name (pending_duty c) (other refl) (between frame)) c.slaves
effect_keeps c msa frame other = refl
effect_keeps c no_round frame other = refl

effect-baptizes :
    (c : Cluster) (frame : List ℕ) {name : ℕ} → All LegalSlave c.slaves → pending_duty c ≡ baptizing name →
    logical_names (effect_of c msd frame).after ≡ map (name_after name) c.slaves
unfolding effect_of logical_names epoch_raised with_epoch slaves_after with_slaves
effect-baptizes c frame {name} l is =
    rw is (rested_keeps (baptizing name) (slaves_after (baptizing name) (between frame) (epoch_raised c)) ∙ slaves_baptized name (between frame) l)

frame_keeps : (c : Cluster) (frame : List ℕ) → (round_by_lem frame ≡ msd → (name : ℕ) → pending_duty c ≡ baptizing name → ⊥) → logical_names (frame_on c frame).after ≡ logical_names c
unfolding frame_on
frame_keeps c frame other = effect_keeps c (round_by_lem frame) frame other

frame-baptizes :
    (c : Cluster) (frame : List ℕ) {name : ℕ} → round_by_lem frame ≡ msd → All LegalSlave c.slaves → pending_duty c ≡ baptizing name →
    logical_names (frame_on c frame).after ≡ map (name_after name) c.slaves
unfolding frame_on
frame-baptizes c frame is l duty = rw is (effect-baptizes c frame l duty)

-- ---- what is pending

baptizing-pending : (c : Cluster) {name : ℕ} → Pending c pending_flag name (pb2_of configuration execute_operation) 1 → pending_duty c ≡ baptizing name
unfolding pending_duty duty_by execution_of pb2_of
baptizing-pending c p = rw (p.is_flag, p.is_name, p.is_pb2, p.is_pb3)

executed : (name n r : ℕ) {own : ℕ} → execution_of own n r ≡ baptizing name → (n ≡ configuration) × (r ≡ 1) × (own ≡ name)
unfolding execution_of
executed name n r {own} is =
    by_case (eqb n configuration)
    (λ a.
    by_case (eqb r 2)
    (λ b. let e = rw (a, b) at is in let z : ◌≡◌ {A = ℕ} 0 1 = cc in absurd (omega arith))
    (λ b.
    by_case (eqb r 1)
    (λ d. let e = rw (a, b, d) at is in (eqb-true n configuration a, eqb-true r 1 d, cc))
    (λ d.
    by_case (eqb r sleep_record)
    (λ z. let e = rw (a, b, d, z) at is in let z : ◌≡◌ {A = ℕ} 0 1 = cc in absurd (omega arith))
    (λ z. let e = rw (a, b, d, z) at is in let z : ◌≡◌ {A = ℕ} 0 1 = cc in absurd (omega arith)))))
    (λ a. let e = rw a at is in let z : ◌≡◌ {A = ℕ} 0 1 = cc in absurd (omega arith))

duty_executed : (name own pb2 pb3 : ℕ) → duty_by own pb2 pb3 ≡ baptizing name → (pb2 ≡ pb2_of configuration execute_operation) × (pb3 ≡ 1) × (own ≡ name)
unfolding duty_by pb2_of
duty_executed name own pb2 pb3 is =
    by_case (eqb (operation_of pb2) read_operation)
    (λ a. let e = rw a at is in let z : ◌≡◌ {A = ℕ} 0 1 = cc in absurd (omega arith))
    (λ a.
    by_case (eqb (operation_of pb2) write_operation)
    (λ b. let e = rw (a, b) at is in let z : ◌≡◌ {A = ℕ} 0 1 = cc in absurd (omega arith))
    (λ b.
    by_case (eqb (operation_of pb2) execute_operation)
    (λ d.
    let (file, «record», same) = executed name (file_number_of pb2) pb3 (rw (a, b, d) at is) in
    let operation : operation_of pb2 ≡ execute_operation = eqb-true (operation_of pb2) execute_operation d in
    (omega arith, «record», same))
    (λ d. let e = rw (a, b, d) at is in let z : ◌≡◌ {A = ℕ} 0 1 = cc in absurd (omega arith))))

pending-baptizing : (c : Cluster) {name : ℕ} → pending_duty c ≡ baptizing name → Pending c pending_flag name (pb2_of configuration execute_operation) 1
unfolding pending_duty
pending-baptizing c {name} is =
    by_case (eqb c.flag pending_flag)
    (λ a.
    let (pb2, pb3, same) = duty_executed name c.pending_name c.pending_pb2 c.pending_pb3 (rw a at is) in
    record { is_flag = eqb-true c.flag pending_flag a; is_name = same; is_pb2 = pb2; is_pb3 = pb3 })
    (λ a. let e = rw a at is in let z : ◌≡◌ {A = ℕ} 0 1 = cc in absurd (omega arith))

-- ---- the claims

pub baptizing_renames : BaptizingRenames
baptizing_renames file frame buffer name fb rb b =
    let old : Becomes file (decode file) = accepted-becomes file fb (round_facts file frame buffer b.accepted).accepted in
    let new = round-becomes file frame buffer fb rb b.accepted in
    ap logical_names new.decoded
    ∙ frame-baptizes (decode file) frame b.is_msd old.legal.slaves (baptizing-pending (decode file) b.pending)

pub only-baptizing_renames : OnlyBaptizingRenames
only-baptizing_renames file frame buffer fb rb none =
    by_case (eqb (round_ground file frame buffer) 0)
    (λ e.
    let accepted : round_ground file frame buffer ≡ 0 = eqb-true (round_ground file frame buffer) 0 e in
    let new = round-becomes file frame buffer fb rb accepted in
    ap logical_names new.decoded
    ∙ frame_keeps (decode file) frame
    (λ is name duty. none name (record { is_msd = is; accepted = accepted; pending = pending-baptizing (decode file) duty })))
    (λ e. rw (round-refused file frame buffer (eqb-false (round_ground file frame buffer) 0 e)))

pub nobody-renamed : NobodyRenamed
unfolding file_after
nobody-renamed file [] fb all_empty no_calls = refl
nobody-renamed file (c ∷ cs) fb (all_next rb rest) (one_more_lem none later) =
    nobody-renamed (round_on file c.frame c.buffer).2 cs (round-bytes file c.frame c.buffer fb rb) rest later
    ∙ only-baptizing_renames file c.frame c.buffer fb rb none
