-- Sleeping slaves leave no mark on a round: who is awake sends, and becomes, what it would if there were no others.
-- Assumes nothing.
use Prim.Native.Nat.{ℕ, zero, suc}
use mathlib.Core.Path.{◌≡◌, refl, sym, ap, ◌∙◌}
use mathlib.Core.List.{List, [], ◌∷◌, map}
use mathlib.Core.Bool.{Bool}
use lib.ListN.{get_or}
use lib.Dec.{eqb}
use Rattle.file.specs.Rules.Cluster.{Slave, Cluster}
use Rattle.file.specs.Rules.Decode.{decode}
use Rattle.file.specs.Rules.Results.{done}
use Rattle.file.specs.Rules.Changes.{put_in_slave, with_slaves, with_epoch, with_pending}
use Rattle.file.proofs.Order.{by_case}
use Rattle.frame.specs.Rules.Fireworks.{Round, multipartner, msd, msa, no_round}
use Rattle.frame.specs.Rules.Frames.{between}
use Rattle.master_slave.specs.Rules.Bus.{Senders, anyone, bus_byte, slots, sender_mask}
use Rattle.master_slave.specs.Rules.Slaves.{with_address, epoch_raised, Duty, nothing, pending_duty, sent_to, slave_after, slaves_after, rests_after, rested}
use Rattle.multipartner.specs.Rules.Entries.{Entry}
use Rattle.multipartner.specs.Rules.Multipartner.{SlaveByte, nowhere, byte_of, stores_at, stored_there, sent_by, sent_in, received_in, cluster_below, sent_during}
use Rattle.cluster.specs.Rules.RoundGrounds.{round_by_lem}
use Rattle.multipartner.specs.Rules.Multipartner.{passed_over_lem}
use Rattle.cluster.specs.Rules.Round.{effect_of, frame_on}
use Rattle.cluster.specs.Claims.Sleep.{awake_among, awake_alone, SleepersSilent, where_awake, AwakeAsAlone}
use Rattle.master_slave.proofs.Bus.{mask-alike, answer-alike}
use Rattle.master_slave.proofs.Hearing.{in_slot_nil}
use Rattle.master_slave.proofs.Asleep.{awake-byte, asleep_quiet}
use Rattle.cluster.proofs.Rounds.{round-accepted, round-becomes}
use Rattle.cluster.proofs.Sleep.{sends-nothing}

-- ---- the slaves that are awake, in lists

-- at their places in the same list they stand themselves
where_same : (ss : List Slave) → where_awake ss ss ≡ awake_among ss
unfolding where_awake awake_among
where_same [] = refl
where_same (s ∷ ss) = rw (where_same ss)

where_map : (f : Slave → Slave) (ss ts : List Slave) → where_awake ss (map f ts) ≡ map f (where_awake ss ts)
unfolding where_awake
where_map f [] ts = refl
where_map f (s ∷ ss) [] = refl
where_map f (s ∷ ss) (t ∷ ts) = by_case (eqb s.asleep 0) (λ e. rw (e, where_map f ss ts)) (λ e. rw (e, where_map f ss ts))

-- a change that wakes nobody and puts nobody to sleep
abbrev KeepsAwake : (Slave → Slave) → Type 0
KeepsAwake f = (s : Slave) → eqb (f s).asleep 0 ≡ eqb s.asleep 0

awake-map : (f : Slave → Slave) → KeepsAwake f → (ss : List Slave) → awake_among (map f ss) ≡ map f (awake_among ss)
unfolding awake_among
awake-map f keeps [] = refl
awake-map f keeps (s ∷ ss) = rw (keeps s) (by_case (eqb s.asleep 0) (λ e. rw (e, awake-map f keeps ss)) (λ e. rw (e, awake-map f keeps ss)))

where_mapped : (f : Slave → Slave) → KeepsAwake f → (rs ts : List Slave) → where_awake (map f rs) ts ≡ where_awake rs ts
unfolding where_awake
where_mapped f keeps [] ts = refl
where_mapped f keeps (s ∷ ss) [] = refl
where_mapped f keeps (s ∷ ss) (t ∷ ts) = rw (keeps s, where_mapped f keeps ss ts)

-- ---- a master-slave round

sent-awake : (o : Duty) (ss : List Slave) (slot : ℕ) → sent_to o ss slot ≡ sent_to o (awake_among ss) slot
unfolding sent_to awake_among
sent-awake o [] slot = refl
sent-awake o (s ∷ ss) slot =
    by_case (eqb s.asleep 0)
    (λ e. rw (e, sent-awake o ss slot))
    (λ e. rw (e, asleep_quiet s (sym (awake-byte s) ∙ e) o, in_slot_nil slot) (sent-awake o ss slot))

duty-slaves :
    (o : Duty) (bytes : List ℕ) (ss : List Slave) →
    where_awake ss (map (rests_after o) (map (slave_after o bytes) ss)) ≡ map (rests_after o) (map (slave_after o bytes) (awake_among ss))
duty-slaves o bytes ss =
    where_map (rests_after o) ss (map (slave_after o bytes) ss)
    ∙ ap (map (rests_after o)) (where_map (slave_after o bytes) ss ss ∙ ap (map (slave_after o bytes)) (where_same ss))

-- ---- a multipartner round, slot by slot

stored-awake : (s : Slave) (place : SlaveByte) (b : ℕ) → eqb (stored_there s place b).asleep 0 ≡ eqb s.asleep 0
unfolding stored_there put_in_slave
stored-awake s nowhere b = refl
stored-awake s (byte_of n k) b = refl

module _ (passed : Entry → Bool) (round : ℕ) where
  sent_by-awake : (slot : ℕ) (ss : List Slave) → sent_by passed round slot ss ≡ sent_by passed round slot (awake_among ss)
  unfolding sent_by awake_among
  sent_by-awake slot [] = refl
  sent_by-awake slot (s ∷ ss) =
      by_case (eqb s.asleep 0)
      (λ e. rw (e, sent_by-awake slot ss))
      (λ e. rw (e, sends-nothing passed round slot s (sym (awake-byte s) ∙ e)) (sent_by-awake slot ss))

  -- the second cluster has the slaves that are awake in the first, at the places where the round began with such slaves
  record Alone (began : List Slave) (c d : Cluster) : Type 0 where
    awake : d.slaves ≡ awake_among c.slaves
    places : (ts : List Slave) → where_awake c.slaves ts ≡ where_awake began ts

  sent_in_alone : (slot : ℕ) {began : List Slave} (c d : Cluster) → Alone began c d → sent_in passed round slot c ≡ sent_in passed round slot d
  unfolding sent_in
  sent_in_alone zero c d a = refl
  sent_in_alone (suc slot) c d a = rw a.awake (sent_by-awake (suc slot) c.slaves)

  received-alone :
      (slot : ℕ) {began : List Slave} (c d : Cluster) (sent : List ℕ) → Alone began c d →
      Alone began (received_in passed round slot c sent) (received_in passed round slot d sent)
  unfolding received_in with_slaves
  received-alone slot c d [] a = a
  received-alone slot c d (b ∷ bs) a =
      let store : Slave → Slave = λ (s : Slave). stored_there s (stores_at passed round slot s) (bus_byte (b ∷ bs)) in
      let keeps : KeepsAwake store = λ s. stored-awake s (stores_at passed round slot s) (bus_byte (b ∷ bs)) in
      record {
        awake = ap (map store) a.awake ∙ sym (awake-map store keeps c.slaves);
        places = λ ts. where_mapped store keeps c.slaves ts ∙ a.places ts;
      }

  below-alone :
      {began : List Slave} (c d : Cluster) → Alone began c d → (n : ℕ) →
      Alone began (cluster_below passed round c n) (cluster_below passed round d n)
  unfolding cluster_below
  below-alone c d a zero = a
  below-alone {began} c d a (suc n) =
      let all : Cluster = cluster_below passed round c n in
      let others : Cluster = cluster_below passed round d n in
      let here : Alone began all others = below-alone c d a n in
      rw (sent_in_alone n all others here) (received-alone n all others (sent_in passed round n others) here)

  during-alone :
      {began : List Slave} (c d : Cluster) → Alone began c d → (slot : ℕ) →
      sent_during passed round c slot ≡ sent_during passed round d slot
  unfolding sent_during
  during-alone c d a slot = sent_in_alone slot (cluster_below passed round c slot) (cluster_below passed round d slot) (below-alone c d a slot)

  -- at the end, all awake
  after-alone :
      {began : List Slave} (c d : Cluster) → Alone began c d →
      where_awake began (rested nothing (cluster_below passed round c slots)).slaves ≡ (rested nothing (cluster_below passed round d slots)).slaves
  unfolding rested with_slaves
  after-alone {began} c d a =
      let end : Alone began (cluster_below passed round c slots) (cluster_below passed round d slots) = below-alone c d a slots in
      let last : List Slave = (cluster_below passed round c slots).slaves in
      where_map (rests_after nothing) began last
      ∙ ap (map (rests_after nothing)) (sym (end.places last) ∙ where_same last ∙ sym end.awake)

-- ---- any frame

abbrev without : Cluster → Cluster
without c = with_slaves c (awake_among c.slaves)

alone : (c : Cluster) (passed : Entry → Bool) (r : ℕ) → Alone passed r c.slaves (epoch_raised c) (epoch_raised (without c))
unfolding epoch_raised with_epoch with_slaves
alone c passed r = record { awake = refl; places = λ ts. refl }

effect-senders :
    (c : Cluster) (round : Round) (frame : List ℕ) (slot : ℕ) →
    (effect_of c round frame).senders slot ≡ (effect_of (without c) round frame).senders slot
unfolding effect_of passed_over_lem epoch_raised with_epoch with_slaves pending_duty
effect-senders c (multipartner r) frame slot =
    during-alone (passed_over_lem c) r (epoch_raised c) (epoch_raised (without c)) (alone c (passed_over_lem c) r) slot
effect-senders c msd frame slot = sent-awake (pending_duty c) c.slaves slot
effect-senders c msa frame slot = refl
effect-senders c no_round frame slot = refl

effect-slaves :
    (c : Cluster) (round : Round) (frame : List ℕ) →
    where_awake c.slaves (effect_of c round frame).after.slaves ≡ (effect_of (without c) round frame).after.slaves
unfolding effect_of passed_over_lem epoch_raised with_epoch with_slaves pending_duty with_address with_pending rested slaves_after
effect-slaves c (multipartner r) frame = after-alone (passed_over_lem c) r (epoch_raised c) (epoch_raised (without c)) (alone c (passed_over_lem c) r)
effect-slaves c msd frame = duty-slaves (pending_duty c) (between frame) c.slaves
effect-slaves c msa frame = where_same c.slaves
effect-slaves c no_round frame = where_same c.slaves

frame-senders : (c : Cluster) (frame : List ℕ) (slot : ℕ) → (frame_on c frame).senders slot ≡ (frame_on (without c) frame).senders slot
unfolding frame_on
frame-senders c frame slot = effect-senders c (round_by_lem frame) frame slot

frame-slaves :
    (c : Cluster) (frame : List ℕ) →
    where_awake c.slaves (frame_on c frame).after.slaves ≡ (frame_on (without c) frame).after.slaves
unfolding frame_on
frame-slaves c frame = effect-slaves c (round_by_lem frame) frame

-- ---- on a file

pub sleepers_silent : SleepersSilent
unfolding awake_alone
sleepers_silent file frame buffer accepted =
    let all : Senders = (frame_on (decode file) frame).senders in
    let others : Senders = (frame_on (without (decode file)) frame).senders in
    let same : (slot : ℕ) → all slot ≡ others slot = frame-senders (decode file) frame in
    record {
      mask = rw (round-accepted file frame buffer accepted) (ap (λ (n : ℕ). done n) (masks_alike all others same));
      bytes = rw (round-accepted file frame buffer accepted) (answer-alike buffer (get_or frame 0 0) all others same);
    }
  where
    masks_alike : (r q : Senders) → ((slot : ℕ) → r slot ≡ q slot) → sender_mask r ≡ sender_mask q
    masks_alike r q alike = unfold sender_mask in mask-alike r q slots (λ slot. ap anyone (alike slot))

pub awake_as_alone : AwakeAsAlone
unfolding awake_alone
awake_as_alone file frame buffer fb rb accepted =
    ap (λ (c : Cluster). where_awake (decode file).slaves c.slaves) (round-becomes file frame buffer fb rb accepted).decoded
    ∙ frame-slaves (decode file) frame
