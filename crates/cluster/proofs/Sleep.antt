-- Who sleeps and who wakes by a round, and that a sleeping slave takes no part in one.
-- Assumes nothing.
use Prim.Native.Nat.{ℕ, zero, suc, ◌<◌}
use native.Mathlib.Omega.{arith}
use mathlib.Core.Path.{◌≡◌, refl, sym, ap, ◌∙◌, subst}
use mathlib.Core.List.{List, [], ◌∷◌, map}
use mathlib.Core.Bool.{Bool, true, false}
use lib.ListN.{length, get_or}
use lib.Dec.{eqb}
use borrow.Author.Tests.{eqb-true, eqb-false}
use Rattle.file.specs.Rules.Bytes.{Bytes, All, all_empty, all_next}
use Rattle.file.specs.Rules.Layout.{pending_flag}
use Rattle.file.specs.Rules.Cluster.{Slave, Cluster, no_slave_lem, is_awake, configuration, file_number_of, operation_of, pb2_of, read_operation, write_operation, execute_operation}
use Rattle.file.specs.Rules.Decode.{decode}
use Rattle.file.specs.Rules.Results.{done}
use Rattle.file.specs.Rules.Changes.{with_sleep, with_slaves, with_epoch, with_pending}
use Rattle.file.proofs.Order.{by_case, both_true, both_left, both_right}
use Rattle.file.proofs.Shape.{shape_count}
use Rattle.frame.specs.Rules.Fireworks.{Round, multipartner, msd, msa, no_round}
use Rattle.frame.specs.Rules.Frames.{between}
use Rattle.master_slave.specs.Rules.Bus.{Senders, bus_byte, slots, nobody}
use Rattle.master_slave.specs.Rules.Slaves.{with_address, epoch_raised, Duty, nothing, reading, writing, comparing, baptizing, sleeping, sleep_record}
use Rattle.master_slave.specs.Rules.Slaves.{execution_of, duty_by, pending_duty, addressed, reply_to, sent_to, slave_after, slaves_after, falls_asleep, rests_after}
use Rattle.master_slave.specs.Rules.Slaves.{rested}
use Rattle.multipartner.specs.Rules.Entries.{Entry}
use Rattle.multipartner.specs.Rules.Multipartner.{byte_there, sends_from, stores_at, stored_there, sent_in, received_in, cluster_below}
use Rattle.cluster.specs.Rules.RoundGrounds.{round_by_lem}
use Rattle.multipartner.specs.Rules.Multipartner.{passed_over_lem}
use Rattle.cluster.specs.Rules.Round.{effect_of, frame_on, round_ground, round_on}
use Rattle.cluster.specs.Claims.Pending.{Pending}
use Rattle.cluster.specs.Claims.Writes.{slave_in}
use Rattle.cluster.specs.Claims.Sleep.{DataWakes, MultipartnerWakes, AddressWakesNobody, MayFallAsleep, Rests, SleepPutsToSleep, SleepSilent, SleeperKeepsFiles}
use Rattle.master_slave.proofs.Bus.{answer-alike}
use Rattle.master_slave.proofs.Kept.{after_shape}
use Rattle.multipartner.proofs.StoresKept.{kept-below}
use Rattle.master_slave.proofs.Asleep.{is-awake, byte-awake, is-asleep, asleep_stays}
use Rattle.cluster.proofs.Rounds.{round-accepted, round-refused, round-becomes}
use Rattle.cluster.proofs.UnnamedWrites.{slaves-after, map-length, mapped_at}
use Rattle.cluster.proofs.Cases.{quiet_mask}
use Rattle.master_slave.proofs.Hearing.{in_slot_nil}

-- ---- what is pending

pub sleeping-pending : (c : Cluster) {name : ℕ} → Pending c pending_flag name (pb2_of configuration execute_operation) sleep_record → pending_duty c ≡ sleeping name
unfolding pending_duty duty_by execution_of pb2_of
sleeping-pending c p = rw (p.is_flag, p.is_name, p.is_pb2, p.is_pb3)

executed : (name n r : ℕ) {own : ℕ} → execution_of own n r ≡ sleeping name → (n ≡ configuration) × (r ≡ sleep_record) × (own ≡ name)
unfolding execution_of
executed name n r {own} is =
    by_case (eqb n configuration)
    (λ a.
    by_case (eqb r 2)
    (λ b. let e = rw (a, b) at is in let z : ◌≡◌ {A = ℕ} 0 1 = cc in absurd (omega arith))
    (λ b.
    by_case (eqb r 1)
    (λ d. let e = rw (a, b, d) at is in let z : ◌≡◌ {A = ℕ} 0 1 = cc in absurd (omega arith))
    (λ d.
    by_case (eqb r sleep_record)
    (λ f. let e = rw (a, b, d, f) at is in (eqb-true n configuration a, eqb-true r sleep_record f, cc))
    (λ f. let e = rw (a, b, d, f) at is in let z : ◌≡◌ {A = ℕ} 0 1 = cc in absurd (omega arith)))))
    (λ a. let e = rw a at is in let z : ◌≡◌ {A = ℕ} 0 1 = cc in absurd (omega arith))

duty_executed : (name own pb2 pb3 : ℕ) → duty_by own pb2 pb3 ≡ sleeping name → (pb2 ≡ pb2_of configuration execute_operation) × (pb3 ≡ sleep_record) × (own ≡ name)
unfolding duty_by pb2_of
duty_executed name own pb2 pb3 is =
    by_case (eqb (operation_of pb2) read_operation)
    (λ a. let e = rw a at is in let z : ◌≡◌ {A = ℕ} 0 1 = cc in absurd (omega arith))
    (λ a.
    by_case (eqb (operation_of pb2) write_operation)
    (λ b. let e = rw (a, b) at is in let z : ◌≡◌ {A = ℕ} 0 1 = cc in absurd (omega arith))
    (λ b.
    by_case (eqb (operation_of pb2) execute_operation)
    (λ d.
    let (file, «record», same) = executed name (file_number_of pb2) pb3 (rw (a, b, d) at is) in
    let operation : operation_of pb2 ≡ execute_operation = eqb-true (operation_of pb2) execute_operation d in
    (omega arith, «record», same))
    (λ d. let e = rw (a, b, d) at is in let z : ◌≡◌ {A = ℕ} 0 1 = cc in absurd (omega arith))))

pub pending-sleeping : (c : Cluster) {name : ℕ} → pending_duty c ≡ sleeping name → Pending c pending_flag name (pb2_of configuration execute_operation) sleep_record
unfolding pending_duty
pending-sleeping c {name} is =
    by_case (eqb c.flag pending_flag)
    (λ a.
    let (pb2, pb3, same) = duty_executed name c.pending_name c.pending_pb2 c.pending_pb3 (rw a at is) in
    record { is_flag = eqb-true c.flag pending_flag a; is_name = same; is_pb2 = pb2; is_pb3 = pb3 })
    (λ a. let e = rw a at is in let z : ◌≡◌ {A = ℕ} 0 1 = cc in absurd (omega arith))

-- ---- all awake

-- any duty but a sleep puts nobody to sleep
pub others_wake : (o : Duty) → ((name : ℕ) → o ≡ sleeping name → ⊥) → (s : Slave) → falls_asleep o s ≡ false
unfolding falls_asleep
others_wake nothing other s = refl
others_wake (reading name n r) other s = refl
others_wake (writing name n r) other s = refl
others_wake (comparing name) other s = refl
others_wake (baptizing name) other s = refl
others_wake (sleeping name) other s = absurd (other name refl)

rests_zero : (o : Duty) (s : Slave) → falls_asleep o s ≡ false → (rests_after o s).asleep ≡ 0
unfolding rests_after with_sleep
rests_zero o s up = rw up

all-rested : (o : Duty) → ((s : Slave) → falls_asleep o s ≡ false) → (ss : List Slave) → All (λ (s : Slave). s.asleep ≡ 0) (map (rests_after o) ss)
all-rested o up [] = all_empty
all-rested o up (s ∷ ss) = all_next (rests_zero o s (up s)) (all-rested o up ss)

pub rested-awake : (o : Duty) → ((s : Slave) → falls_asleep o s ≡ false) → (c : Cluster) → All (λ (s : Slave). s.asleep ≡ 0) (rested o c).slaves
unfolding rested with_slaves
rested-awake o up c = all-rested o up c.slaves

-- after a frame
pub data-awake : (c : Cluster) (frame : List ℕ) → round_by_lem frame ≡ msd → ((name : ℕ) → pending_duty c ≡ sleeping name → ⊥) → All (λ (s : Slave). s.asleep ≡ 0) (frame_on c frame).after.slaves
unfolding frame_on effect_of
data-awake c frame is other = rw is (rested-awake (pending_duty c) (others_wake (pending_duty c) other) _)

pub multipartner-awake : (c : Cluster) (frame : List ℕ) {r : ℕ} → round_by_lem frame ≡ multipartner r → All (λ (s : Slave). s.asleep ≡ 0) (frame_on c frame).after.slaves
unfolding frame_on effect_of
multipartner-awake c frame is = rw is (rested-awake nothing (λ s. unfold falls_asleep in refl) _)

pub address_same : (c : Cluster) (frame : List ℕ) → round_by_lem frame ≡ msa → (frame_on c frame).after.slaves ≡ c.slaves
unfolding frame_on effect_of with_address with_pending with_epoch
address_same c frame is = rw is

pub data-wakes : DataWakes
data-wakes file frame buffer fb rb accepted is none =
    let new = round-becomes file frame buffer fb rb accepted in
    subst (λ (c : Cluster). All (λ (s : Slave). s.asleep ≡ 0) c.slaves) (sym new.decoded)
    (data-awake (decode file) frame is (λ name duty. none name (record { is_msd = is; accepted = accepted; pending = pending-sleeping (decode file) duty })))

pub multipartner-wakes : MultipartnerWakes
multipartner-wakes file frame buffer r fb rb accepted is =
    let new = round-becomes file frame buffer fb rb accepted in
    subst (λ (c : Cluster). All (λ (s : Slave). s.asleep ≡ 0) c.slaves) (sym new.decoded) (multipartner-awake (decode file) frame is)

pub address-wakes-nobody : AddressWakesNobody
address-wakes-nobody file frame buffer fb rb accepted is =
    ap (λ (c : Cluster). c.slaves) (round-becomes file frame buffer fb rb accepted).decoded ∙ address_same (decode file) frame is

-- ---- who falls asleep

may_fall : (name : ℕ) (s : Slave) → falls_asleep (sleeping name) s ≡ true → MayFallAsleep name s
unfolding falls_asleep addressed
may_fall name s e =
    let here = both_left _ _ e in
    record { awake = byte-awake s (both_left _ _ here); is_addressed = both_right _ _ here; has = both_right _ _ e }

falls_then : (name : ℕ) (s : Slave) → MayFallAsleep name s → falls_asleep (sleeping name) s ≡ true
unfolding falls_asleep addressed
falls_then name s m = both_true (both_true (is-awake s m.awake) m.is_addressed) m.has

rests_one : (o : Duty) (s : Slave) → falls_asleep o s ≡ true → (rests_after o s).asleep ≡ 1
unfolding rests_after with_sleep
rests_one o s down = rw down

rests_files : (o : Duty) (s : Slave) → (rests_after o s).files ≡ s.files
unfolding rests_after with_sleep
rests_files o s = refl

pub sleep_rests_as : (name : ℕ) (s : Slave) → Rests name s (rests_after (sleeping name) s)
sleep_rests_as name s =
    record {
      falls = λ m. rests_one (sleeping name) s (falls_then name s m);
      only = λ one.
          by_case (falls_asleep (sleeping name) s)
          (λ e. may_fall name s e)
          (λ e. absurd (never (rests_zero (sleeping name) s e) one));
      wakes = λ none.
          by_case (falls_asleep (sleeping name) s)
          (λ e. absurd (none (may_fall name s e)))
          (λ e. rests_zero (sleeping name) s e);
      files = rests_files (sleeping name) s;
    }
  where
    never : {n : ℕ} → n ≡ 0 → n ≡ 1 → ⊥
    never z o = omega arith

-- the slave at an index after an accepted MSD
data-slave :
    (file frame buffer : List ℕ) {o : Duty} (i : ℕ) → Bytes file → Bytes frame → round_by_lem frame ≡ msd → round_ground file frame buffer ≡ 0 →
    pending_duty (decode file) ≡ o → i < length (decode file).slaves →
    slave_in (round_on file frame buffer).2 i ≡ rests_after o (slave_after o (between frame) (slave_in file i))
unfolding slave_in
data-slave file frame buffer {o} i fb rb is accepted duty here =
    let new = round-becomes file frame buffer fb rb accepted in
    let after : Slave → Slave = slave_after o (between frame) in
    let slaves : (decode (round_on file frame buffer).2).slaves ≡ map (rests_after o) (map after (decode file).slaves) =
    ap (λ (c : Cluster). c.slaves) new.decoded ∙ slaves-after (decode file) frame is duty
    in
    ap (λ (ss : List Slave). get_or ss i no_slave_lem) slaves
    ∙ mapped_at (rests_after o) (map after (decode file).slaves) i no_slave_lem (rw (map-length after (decode file).slaves) here)
    ∙ ap (rests_after o) (mapped_at after (decode file).slaves i no_slave_lem here)

stays_asleep : (name : ℕ) (bytes : List ℕ) (s : Slave) → slave_after (sleeping name) bytes s ≡ s
unfolding slave_after
stays_asleep name bytes s = refl

pub sleep_puts-to_sleep : SleepPutsToSleep
sleep_puts-to_sleep file frame buffer name fb rb p i here =
    let is = data-slave file frame buffer i fb rb p.is_msd p.accepted (sleeping-pending (decode file) p.pending) here in
    let same : slave_in (round_on file frame buffer).2 i ≡ rests_after (sleeping name) (slave_in file i) =
    is ∙ ap (rests_after (sleeping name)) (stays_asleep name (between frame) (slave_in file i))
    in
    subst (λ (s : Slave). Rests name (slave_in file i) s) (sym same) (sleep_rests_as name (slave_in file i))

-- nobody sends
sleep_quiet : (name : ℕ) (ss : List Slave) (slot : ℕ) → sent_to (sleeping name) ss slot ≡ nobody slot
unfolding sent_to reply_to nobody
sleep_quiet name [] slot = refl
sleep_quiet name (s ∷ ss) slot = rw (in_slot_nil slot) (sleep_quiet name ss slot)

sleep-senders :
    (c : Cluster) (frame : List ℕ) (name : ℕ) → round_by_lem frame ≡ msd → pending_duty c ≡ sleeping name → (slot : ℕ) →
    (frame_on c frame).senders slot ≡ nobody slot
unfolding frame_on effect_of
sleep-senders c frame name is duty slot = rw (is, duty) (sleep_quiet name c.slaves slot)

pub sleep_silent : SleepSilent
sleep_silent file frame buffer name p =
    let senders : Senders = (frame_on (decode file) frame).senders in
    let duty : pending_duty (decode file) ≡ sleeping name = sleeping-pending (decode file) p.pending in
    let quiet : (slot : ℕ) → senders slot ≡ nobody slot = sleep-senders (decode file) frame name p.is_msd duty in (
      rw (round-accepted file frame buffer p.accepted) (ap (λ (n : ℕ). done n) (quiet_mask senders quiet)),
      rw (round-accepted file frame buffer p.accepted) (answer-alike buffer (get_or frame 0 0) senders nobody quiet),
    )

-- ---- a sleeping slave takes no part

module _ (passed : Entry → Bool) (round slot : ℕ) (s : Slave) (asleep : is_awake s ≡ false) where
  pub sends-nothing : byte_there s (sends_from passed round slot s) ≡ []
  unfolding sends_from byte_there
  sends-nothing = rw asleep

  stores-nothing : (b : ℕ) → stored_there s (stores_at passed round slot s) b ≡ s
  unfolding stores_at stored_there
  stores-nothing b = rw asleep

-- the slave at an index below the slots of a multipartner round
received_same : (passed : Entry → Bool) (round slot : ℕ) (c : Cluster) (sent : List ℕ) (i : ℕ) → i < length c.slaves → is_awake (get_or c.slaves i no_slave_lem) ≡ false →
    get_or (received_in passed round slot c sent).slaves i no_slave_lem ≡ get_or c.slaves i no_slave_lem
unfolding received_in with_slaves
received_same passed round slot c [] i here asleep = refl
received_same passed round slot c (b ∷ bs) i here asleep =
    mapped_at (λ (s : Slave). stored_there s (stores_at passed round slot s) (bus_byte (b ∷ bs))) c.slaves i no_slave_lem here
    ∙ stores-nothing passed round slot (get_or c.slaves i no_slave_lem) asleep (bus_byte (b ∷ bs))

below-same : (passed : Entry → Bool) (round : ℕ) (c : Cluster) (n i : ℕ) → i < length c.slaves → is_awake (get_or c.slaves i no_slave_lem) ≡ false →
    get_or (cluster_below passed round c n).slaves i no_slave_lem ≡ get_or c.slaves i no_slave_lem
unfolding cluster_below
below-same passed round c zero i here asleep = refl
below-same passed round c (suc n) i here asleep =
    let before : Cluster = cluster_below passed round c n in
    let same : get_or before.slaves i no_slave_lem ≡ get_or c.slaves i no_slave_lem = below-same passed round c n i here asleep in
    received_same passed round n before (sent_in passed round n before) i
    (subst (λ (k : ℕ). i < k) (shape_count (kept-below passed round c n).shape) here)
    (ap is_awake same ∙ asleep)
    ∙ same

-- the slave at an index after any accepted frame
rested-at : (o : Duty) (c : Cluster) (i : ℕ) → i < length c.slaves → get_or (rested o c).slaves i no_slave_lem ≡ rests_after o (get_or c.slaves i no_slave_lem)
unfolding rested with_slaves
rested-at o c i here = mapped_at (rests_after o) c.slaves i no_slave_lem here

after-at : (o : Duty) (bytes : List ℕ) (c : Cluster) (i : ℕ) → i < length c.slaves → get_or (slaves_after o bytes c).slaves i no_slave_lem ≡ slave_after o bytes (get_or c.slaves i no_slave_lem)
unfolding slaves_after with_slaves
after-at o bytes c i here = mapped_at (slave_after o bytes) c.slaves i no_slave_lem here

effect_files : (c : Cluster) (round : Round) (frame : List ℕ) (i : ℕ) → i < length c.slaves → is_awake (get_or c.slaves i no_slave_lem) ≡ false →
    (get_or (effect_of c round frame).after.slaves i no_slave_lem).files ≡ (get_or c.slaves i no_slave_lem).files
unfolding effect_of with_address with_pending epoch_raised with_epoch
effect_files c (multipartner r) frame i here asleep =
    let below : Cluster = cluster_below (passed_over_lem c) r (epoch_raised c) slots in
    ap (λ (s : Slave). s.files) (rested-at nothing below i (subst (λ (k : ℕ). i < k) (shape_count (kept-below (passed_over_lem c) r (epoch_raised c) slots).shape) here))
    ∙ rests_files nothing (get_or below.slaves i no_slave_lem)
    ∙ ap (λ (s : Slave). s.files) (below-same (passed_over_lem c) r (epoch_raised c) slots i here asleep)
effect_files c msd frame i here asleep =
    let o : Duty = pending_duty c in
    let after : Cluster = slaves_after o (between frame) (epoch_raised c) in
    ap (λ (s : Slave). s.files) (rested-at o after i (subst (λ (k : ℕ). i < k) (shape_count (after_shape o (between frame) (epoch_raised c))) here))
    ∙ rests_files o (get_or after.slaves i no_slave_lem)
    ∙ ap (λ (s : Slave). s.files) (after-at o (between frame) (epoch_raised c) i here ∙ asleep_stays (get_or c.slaves i no_slave_lem) asleep o (between frame))
effect_files c msa frame i here asleep = refl
effect_files c no_round frame i here asleep = refl

frame-files : (c : Cluster) (frame : List ℕ) (i : ℕ) → i < length c.slaves → is_awake (get_or c.slaves i no_slave_lem) ≡ false →
    (get_or (frame_on c frame).after.slaves i no_slave_lem).files ≡ (get_or c.slaves i no_slave_lem).files
unfolding frame_on
frame-files c frame i here asleep = effect_files c (round_by_lem frame) frame i here asleep

pub sleeper_keeps_files : SleeperKeepsFiles
unfolding slave_in
sleeper_keeps_files file frame buffer fb rb i here one =
    by_case (eqb (round_ground file frame buffer) 0)
    (λ e.
    let new = round-becomes file frame buffer fb rb (eqb-true (round_ground file frame buffer) 0 e) in
    ap (λ (c : Cluster). (get_or c.slaves i no_slave_lem).files) new.decoded
    ∙ frame-files (decode file) frame i here (is-asleep (get_or (decode file).slaves i no_slave_lem) one))
    (λ e. rw (round-refused file frame buffer (eqb-false (round_ground file frame buffer) 0 e)))
