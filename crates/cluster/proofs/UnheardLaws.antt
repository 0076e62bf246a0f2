-- A frame that nobody hears: it leaves what the same frame leaves where someone does, and whether someone may be asleep then.
-- Assumes nothing.
use Prim.Native.Nat.{ℕ}
use native.Mathlib.Omega.{arith}
use mathlib.Core.Path.{◌≡◌, refl, sym, ap, ◌∙◌, subst}
use mathlib.Core.List.{List, [], ◌∷◌, map}
use mathlib.Core.Bool.{Bool, true, false, not}
use lib.ListN.{length}
use lib.Dec.{eqb}
use borrow.Author.Tests.{eq-eqb, ne_eqb, not-true}
use Rattle.file.specs.Rules.Bytes.{All, all_empty, all_next}
use Rattle.file.specs.Rules.Results.{done, result_of}
use Rattle.file.specs.Rules.Cluster.{Slave, Cluster}
use Rattle.file.specs.Rules.Changes.{with_sleep, with_slaves, with_epoch}
use Rattle.file.specs.Inner.Accepted.{Becomes}
use Rattle.file.specs.declared.types.Refusal.{Refusal}
use Rattle.file.proofs.Order.{by_case, clash}
use Rattle.file.proofs.Results.{no_ground, same-value, that_ground}
use Rattle.frame.specs.Rules.Fireworks.{msd, msa}
use Rattle.frame.specs.Rules.Frames.{between}
use Rattle.frame.specs.Inner.FrameAnswers.{firework_round}
use Rattle.frame.specs.declared.firework.Firework.{Firework}
use Rattle.frame.specs.declared.firework.Firework.TheVariants as fireworks
use Rattle.master_slave.specs.declared.types.RecordAddress.{RecordAddress}
use Rattle.master_slave.specs.declared.types.DataBytes.{DataBytes}
use Rattle.master_slave.specs.declared.pending.Duty.{Duty as CodeDuty}
use Rattle.master_slave.specs.declared.pending.Duty.TheVariants as duties
use Rattle.master_slave.specs.Rules.Slaves.{Duty, nothing, epoch_raised, pending_duty, slave_after, slaves_after, falls_asleep, rests_after, rested}
use Rattle.cluster.specs.Rules.RoundGrounds.{round_by_lem}
use Rattle.master_slave.specs.Rules.Effect.{Effect}
use Rattle.cluster.specs.Rules.Round.{Answer, effect_of, frame_on}
use Rattle.cluster.specs.Inner.EachGround.{firework_size, frame_ground}
use Rattle.master_slave.specs.Inner.Duties.{data_effect}
use Rattle.multipartner.specs.Inner.Slots.{multipartner_effect}
use Rattle.master_slave.specs.Inner.Carried.{Carried}
use Rattle.cluster.specs.Inner.Exchanged.{answer_to, left_by_lem, Taken}
use Rattle.master_slave.specs.Inner.Duties.{duty_at, data_in}
use Rattle.cluster.specs.Inner.RoundAnswers.{data_read}
use Rattle.cluster.specs.Inner.Unheard.{is_done, MaySleep, Left, LeftUnheard}
use Rattle.master_slave.specs.Inner.Duties.{puts_to_sleep, leaves_slaves}
use Rattle.master_slave.proofs.DataLaws.{after_same, awake-alike, stays_up}
use Rattle.cluster.proofs.Sleep.{rested-awake, address_same, multipartner-awake}
use Rattle.cluster.proofs.FrameCall.{no_ground_ten, round_is, ground_eleven, ground_none, frame_effect}
use Rattle.file.specs.Inner.Refusals.{Answered, refusal_number}
use Rattle.std.specs.Prelude.{Ok, Err}
use Rattle.std.specs.Prelude.{Option, Some, None}

-- ---- the data part

-- a duty that leaves the slaves as they are, in a cluster in which everyone is awake
leaves_each : (a : RecordAddress) (d : CodeDuty) → leaves_slaves d ≡ true → (bytes : List ℕ) (s : Slave) → slave_after (duty_at d a) bytes s ≡ s
unfolding duty_at slave_after
leaves_each a duties.Nothing t bytes s = refl
leaves_each a duties.Read t bytes s = refl
leaves_each a duties.Write t bytes s = clash t refl
leaves_each a duties.Compare t bytes s = refl
leaves_each a duties.Baptize t bytes s = clash t refl
leaves_each a duties.Sleep t bytes s = clash t refl

leaves_up : (d : CodeDuty) → leaves_slaves d ≡ true → puts_to_sleep d ≡ false
leaves_up duties.Nothing t = refl
leaves_up duties.Read t = refl
leaves_up duties.Write t = clash t refl
leaves_up duties.Compare t = refl
leaves_up duties.Baptize t = clash t refl
leaves_up duties.Sleep t = clash t refl

stays_awake : (s : Slave) → s.asleep ≡ 0 → rests_after nothing s ≡ s
unfolding rests_after with_sleep falls_asleep
stays_awake s up = ap (with_sleep s) (sym up)

all-awake : (ss : List Slave) → All (λ (s : Slave). s.asleep ≡ 0) ss → map (rests_after nothing) ss ≡ ss
all-awake [] all_empty = refl
all-awake (s ∷ ss) (all_next up more) = rw (stays_awake s up, all-awake ss more)

rested-same : (c : Cluster) → All (λ (s : Slave). s.asleep ≡ 0) c.slaves → rested nothing c ≡ c
unfolding rested with_slaves
rested-same c up = rw (all-awake c.slaves up)

data-same :
    (c : Cluster) (a : RecordAddress) (d : CodeDuty) (bytes : List ℕ) → leaves_slaves d ≡ true →
    All (λ (s : Slave). s.asleep ≡ 0) c.slaves → rested (duty_at d a) (slaves_after (duty_at d a) bytes c) ≡ c
data-same c a d bytes t up =
    ap (rested (duty_at d a)) (after_same (duty_at d a) bytes c (leaves_each a d t bytes))
    ∙ sym (awake-alike (duty_at d a) c (stays_up a d (leaves_up d t)))
    ∙ rested-same c up

module _ (c : Cluster) (a : RecordAddress) (d : CodeDuty) (bytes : List ℕ) (is : duty_at d a ≡ pending_duty c) {t : Bool} where
  pub left_alone : {f : List ℕ} {sleepers : Bool} → t ≡ leaves_slaves d → t ≡ true → MaySleep sleepers c → not sleepers ≡ true → Becomes f (epoch_raised c) → Left (data_effect c bytes).after false f
  unfolding epoch_raised with_epoch
  left_alone {f} {sleepers} test leaves may none h =
      let up : All (λ (s : Slave). s.asleep ≡ 0) c.slaves = may (not-true sleepers none) in
      let same : rested (pending_duty c) (slaves_after (pending_duty c) bytes (epoch_raised c)) ≡ epoch_raised c =
      subst (λ (o : Duty). rested o (slaves_after o bytes (epoch_raised c)) ≡ epoch_raised c) is (data-same (epoch_raised c) a d bytes (sym test ∙ leaves) up)
      in
      record { becomes = subst (λ (x : Cluster). Becomes f x) (sym same) h; awake = λ _. subst (λ (x : Cluster). All (λ (s : Slave). s.asleep ≡ 0) x.slaves) (sym same) up }

  pub left_carried : {firework : ℕ} {old new : List ℕ} {mask : ℕ} {g : List ℕ} → t ≡ puts_to_sleep d → Carried (data_effect c bytes) firework old new mask g → Left (data_effect c bytes).after t g
  left_carried test k =
      record {
        becomes = k.becomes;
        awake = λ up. rested-awake (pending_duty c) (λ s. subst (λ (o : Duty). falls_asleep o s ≡ false) is (stays_up a d (sym test ∙ up) s)) _;
      }

-- ---- one frame

module _ (c : Cluster) (frame : List ℕ) where
  pub left-refused : {f : List ℕ} {g : ℕ} {sleepers : Bool} → Becomes f c → g ≡ frame_ground c frame → (g ≡ 0 → ⊥) → MaySleep sleepers c → LeftUnheard c frame false sleepers f
  unfolding left_by_lem
  left-refused h e n may =
      let no' : eqb (frame_ground c frame) 0 ≡ false = ne_eqb (frame_ground c frame) 0 (λ z. n (e ∙ z)) in
      record { fits = sym no'; left = record { becomes = rw no' h; awake = rw no' may } }

  pub left-done : {f : List ℕ} {sleepers : Bool} → frame_ground c frame ≡ 0 → Left (frame_on c frame).after sleepers f → LeftUnheard c frame true sleepers f
  unfolding left_by_lem
  left-done z h =
      let yes' : eqb (frame_ground c frame) 0 ≡ true = eq-eqb (frame_ground c frame) 0 z in
      record { fits = sym yes'; left = record { becomes = rw yes' h.becomes; awake = rw yes' h.awake } }

-- a data frame, by what was read of it
module _ (c : Cluster) (frame : List ℕ) {f : List ℕ} {x : Answered DataBytes} {sleepers : Bool} (e : data_read x ≡ result_of (frame_ground c frame) (between frame)) where
  pub unheard_refused : {why : Refusal} → Becomes f c → x ≡ Err why → MaySleep sleepers c → LeftUnheard c frame false sleepers f
  unfolding data_read
  unheard_refused {why} h is may =
      let reason = that_ground (between frame) (refusal_number why) (frame_ground c frame) (rw is at e) in
      left-refused c frame h reason.0 reason.1 may

  pub unheard_taken : {bytes : DataBytes} → round_by_lem frame ≡ msd → x ≡ Ok bytes → Left (data_effect c (data_in bytes)).after sleepers f → LeftUnheard c frame true sleepers f
  unfolding data_read frame_on effect_of
  unheard_taken {bytes} is_data is h =
      let there : done (data_in bytes) ≡ result_of (frame_ground c frame) (between frame) = rw is at e in
      let same : data_in bytes ≡ between frame = same-value (between frame) (frame_ground c frame) there in
      let effect : frame_on c frame ≡ data_effect c (between frame) = rw is_data in
      left-done c frame (no_ground (between frame) (frame_ground c frame) there)
      (subst (λ (y : Effect). Left y.after sleepers f) (sym effect) (subst (λ (l : List ℕ). Left (data_effect c l).after sleepers f) same h))

-- any frame, by its firework
done-fits : (c : Cluster) (frame : List ℕ) → is_done (answer_to c frame) ≡ eqb (frame_ground c frame) 0
unfolding answer_to is_done
done-fits c frame = by_case (eqb (frame_ground c frame) 0) (λ e. rw e) (λ e. rw e)

address-left : (c : Cluster) (frame : List ℕ) → round_by_lem frame ≡ msa → (left_by_lem c frame).slaves ≡ c.slaves
unfolding left_by_lem
address-left c frame is = by_case (eqb (frame_ground c frame) 0) (λ e. rw e (address_same c frame is)) (λ e. rw e)

pub unheard-address :
    (c : Cluster) (frame : List ℕ) {f : List ℕ} {answer : Answer} {t sleepers : Bool} → round_by_lem frame ≡ msa → Taken c frame answer f → t ≡ is_done answer →
    MaySleep sleepers c → LeftUnheard c frame t sleepers f
unheard-address c frame is k test may =
    record {
      fits = test ∙ ap is_done k.answers ∙ done-fits c frame;
      left = record {
        becomes = k.becomes;
        awake = λ none. subst (All (λ (s : Slave). s.asleep ≡ 0)) (sym (address-left c frame is)) (may none);
      };
    }

module _ (c : Cluster) (frame : List ℕ) (w : Option Firework) (is : firework_round w ≡ round_by_lem frame) {f : List ℕ} where
  pub unheard_none : {sleepers : Bool} → Becomes f c → w ≡ None → MaySleep sleepers c → LeftUnheard c frame false sleepers f
  unheard_none h e may = left-refused c frame h (no_ground_ten frame w is c e) (λ z. omega arith) may

  module _ {opened : Firework} (e : w ≡ Some opened) {r : ℕ} (k : opened ≡ fireworks.Multipartner r) where
    pub unheard_long : {sleepers : Bool} → Becomes f c → (length frame ≡ firework_size → ⊥) → MaySleep sleepers c → LeftUnheard c frame false sleepers f
    unheard_long h other may = left-refused c frame h (ground_eleven frame w is e k c other) (λ z. omega arith) may

    pub unheard_multipartner : {firework : ℕ} {old new : List ℕ} {mask : ℕ} → length frame ≡ firework_size → Carried (multipartner_effect c r) firework old new mask f → LeftUnheard c frame true false f
    unheard_multipartner one carried =
        left-done c frame (ground_none frame w is e k c one)
        (record { becomes = subst (λ (y : Effect). Becomes f y.after) (sym (frame_effect frame w is e k c)) carried.becomes; awake = λ _. multipartner-awake c frame (round_is frame w is e k) })
