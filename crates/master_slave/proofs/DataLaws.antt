-- The data part of a master-slave round: the duty, and what each duty comes to.
-- Assumes nothing.
use Prim.Native.Nat.{ℕ}
use native.Mathlib.Omega.{arith}
use mathlib.Core.Path.{◌≡◌, refl, sym, ap, ◌∙◌, subst}
use mathlib.Core.List.{List, [], ◌∷◌, map}
use mathlib.Core.Bool.{Bool, true, false, not}
use borrow.Author.Tests.{eq-eqb, ne_eqb, not-true, not-false}
use Rattle.file.specs.Rules.Layout.{pending_flag}
use Rattle.file.specs.Rules.Cluster.{Slave, Cluster}
use Rattle.file.specs.Rules.Decode.{decode}
use Rattle.file.specs.Rules.Changes.{with_slaves, with_epoch}
use Rattle.file.specs.Inner.Typed.{file_in, record_in, name_in_lem}
use Rattle.file.specs.Inner.Accepted.{Becomes, Placed, PendingIs}
use Rattle.file.proofs.Order.{clash, both_false_right}
use Rattle.file.proofs.Surveyed.{placed-kept}
use Rattle.frame.specs.Rules.Fireworks.{data_firework}
use Rattle.master_slave.specs.declared.types.RecordAddress.{RecordAddress}
use Rattle.master_slave.specs.declared.pending.Duty.{Duty as CodeDuty}
use Rattle.master_slave.specs.declared.pending.Duty.TheVariants as duties
use Rattle.master_slave.specs.Rules.Bus.{sender_mask, answer_bytes, answer_in, nobody}
use Rattle.master_slave.specs.Rules.Slaves.{Duty, nothing, writing, comparing, baptizing, sleeping, duty_by, pending_duty}
use Rattle.master_slave.specs.Rules.Slaves.{epoch_raised, may_write, takes_write, reply_to, sent_to, slave_after, slaves_after, falls_asleep, rests_after, rested}
use Rattle.master_slave.specs.Inner.Duties.{data_effect, reading_at, writing_at, duty_at, duty_for, duty_effect, puts_to_sleep}
use Rattle.master_slave.specs.Inner.Carried.{senders_to, Heard, Carried}
use Rattle.master_slave.proofs.Bus.{counting_start, counting_done}
use Rattle.master_slave.proofs.Hearing.{heard-nobody, heard-mask, in_slot_nil}
use Rattle.master_slave.proofs.Kept.{after_shape, slave_after-kept}
use Rattle.master_slave.proofs.SlaveLaws.{data-bytes}

-- ---- the duty: one law for each way

pub pending-nothing : (c : Cluster) {flag name n operation r : ℕ} → PendingIs c flag name n operation r → (flag ≡ pending_flag → ⊥) → nothing ≡ pending_duty c
unfolding pending_duty
pending-nothing c p h = rw (ne_eqb c.flag pending_flag (λ e. h (p.flag_is ∙ e)))

pub pending-for :
    (c : Cluster) (a : RecordAddress) {flag operation : ℕ} {o : Duty} →
    PendingIs c flag (name_in_lem a.name) (file_in a.number) operation (record_in a.«record») → flag ≡ pending_flag → o ≡ duty_for operation a →
    o ≡ pending_duty c
unfolding pending_duty duty_by duty_for
pending-for c a p waits e = e ∙ rw (eq-eqb c.flag pending_flag (sym p.flag_is ∙ waits), p.name_is, p.file_is, p.operation_is, p.record_is)

-- ---- what may be written

pub may_true : (n r : ℕ) {t : Bool} → t ≡ may_write n r → not t ≡ false → may_write n r ≡ true
may_true n r {t = t} e y = sym e ∙ not-false t y

-- a write that may not change its record changes nothing
map_same : (f : Slave → Slave) → ((s : Slave) → f s ≡ s) → (ss : List Slave) → map f ss ≡ ss
map_same f same [] = refl
map_same f same (s ∷ ss) = rw (same s, map_same f same ss)

pub after_same : (o : Duty) (bytes : List ℕ) (c : Cluster) → ((s : Slave) → slave_after o bytes s ≡ s) → slaves_after o bytes c ≡ c
unfolding slaves_after with_slaves
after_same o bytes c same = rw (map_same (slave_after o bytes) same c.slaves)

unwritable : (name n r : ℕ) (bytes : List ℕ) (s : Slave) → may_write n r ≡ false → slave_after (writing name n r) bytes s ≡ s
unfolding slave_after takes_write
unwritable name n r bytes s no' = rw (both_false_right _ (both_false_right _ no'))

pub write_forbidden : {f : List ℕ} {c : Cluster} (name n r : ℕ) {t : Bool} (bytes : List ℕ) → Becomes f c → t ≡ may_write n r → not t ≡ true → Becomes f (slaves_after (writing name n r) bytes c)
write_forbidden {f} {c} name n r {t} bytes h is no' =
    subst (λ (d : Cluster). Becomes f d) (sym (after_same (writing name n r) bytes c (λ s. unwritable name n r bytes s (sym is ∙ not-true t no')))) h

-- ---- what each duty comes to

pub sent-nothing : (o : Duty) → ((s : Slave) → reply_to o s ≡ []) → (ss : List Slave) (slot : ℕ) → sent_to o ss slot ≡ []
unfolding sent_to
sent-nothing o quiet [] slot = refl
sent-nothing o quiet (s ∷ ss) slot = rw (quiet s, in_slot_nil slot, sent-nothing o quiet ss slot)

no_mask : 0 ≡ sender_mask (senders_to 0)
unfolding sender_mask
no_mask = counting_done (counting_start 0) (omega arith) (omega arith)

-- a duty that changes no slave, and one in which nobody sends
done-sending :
    (o : Duty) {f : List ℕ} {c : Cluster} (bytes : List ℕ) {old new : List ℕ} {last mask : ℕ} → Becomes f c → ((s : Slave) → slave_after o bytes s ≡ s) →
    Heard (sent_to o c.slaves) data_firework old new last → mask ≡ sender_mask (senders_to last) →
    Carried (duty_effect o bytes c) data_firework old new mask f
unfolding duty_effect
done-sending o {f} {c} bytes h same heard m =
    record {
      senders = heard-mask heard m;
      buffer = heard.buffer;
      becomes = subst (λ (d : Cluster). Becomes f d) (sym (after_same o bytes c same)) h;
    }

done-silently :
    (o : Duty) {f : List ℕ} (c : Cluster) (bytes : List ℕ) {old new : List ℕ} → ((s : Slave) → reply_to o s ≡ []) → Becomes f (slaves_after o bytes c) →
    new ≡ answer_in old (answer_bytes data_firework nobody) →
    Carried (duty_effect o bytes c) data_firework old new 0 f
unfolding duty_effect
done-silently o c bytes quiet after b =
    let heard = heard-nobody (sent_to o c.slaves) (sent-nothing o quiet c.slaves) b in
    record { senders = heard-mask heard no_mask; buffer = heard.buffer; becomes = after }

module _ (c : Cluster) (d : CodeDuty) (a : RecordAddress) (bytes : List ℕ) {old new : List ℕ} where
  effect_is :
      {e : CodeDuty} {file : List ℕ} {mask : ℕ} → d ≡ e → Carried (duty_effect (duty_at e a) bytes c) data_firework old new mask file →
      Carried (duty_effect (duty_at d a) bytes c) data_firework old new mask file
  effect_is {file = file} {mask} is k = subst (λ (e : CodeDuty). Carried (duty_effect (duty_at e a) bytes c) data_firework old new mask file) (sym is) k

  pub nothing-done : {f : List ℕ} → d ≡ duties.Nothing → Becomes f c → new ≡ answer_in old (answer_bytes data_firework nobody) → Carried (duty_effect (duty_at d a) bytes c) data_firework old new 0 f
  unfolding duty_at slave_after reply_to
  nothing-done {f} is h b =
      effect_is is (done-silently nothing c bytes (λ s. refl) (subst (λ (x : Cluster). Becomes f x) (sym (after_same nothing bytes c (λ s. refl))) h) b)

  pub read_done :
      {f : List ℕ} {last mask : ℕ} → d ≡ duties.Read → Becomes f c → Heard (sent_to (reading_at a) c.slaves) data_firework old new last →
      mask ≡ sender_mask (senders_to last) → Carried (duty_effect (duty_at d a) bytes c) data_firework old new mask f
  unfolding duty_at slave_after
  read_done is h heard m = effect_is is (done-sending (reading_at a) bytes h (λ s. refl) heard m)

  pub compare-done :
      {f : List ℕ} {last mask : ℕ} → d ≡ duties.Compare → Becomes f c → Heard (sent_to (comparing (name_in_lem a.name)) c.slaves) data_firework old new last →
      mask ≡ sender_mask (senders_to last) → Carried (duty_effect (duty_at d a) bytes c) data_firework old new mask f
  unfolding duty_at slave_after
  compare-done is h heard m = effect_is is (done-sending (comparing (name_in_lem a.name)) bytes h (λ s. refl) heard m)

  pub write_done :
      {file : List ℕ} → d ≡ duties.Write → new ≡ answer_in old (answer_bytes data_firework nobody) → Becomes file (slaves_after (writing_at a) bytes c) →
      Carried (duty_effect (duty_at d a) bytes c) data_firework old new 0 file
  unfolding duty_at reply_to
  write_done is b after = effect_is is (done-silently (writing_at a) c bytes (λ s. refl) after b)

  pub baptize-done :
      {file : List ℕ} → d ≡ duties.Baptize → new ≡ answer_in old (answer_bytes data_firework nobody) →
      Becomes file (slaves_after (baptizing (name_in_lem a.name)) [] c) → Carried (duty_effect (duty_at d a) bytes c) data_firework old new 0 file
  unfolding duty_at reply_to slaves_after slave_after
  baptize-done is b after = effect_is is (done-silently (baptizing (name_in_lem a.name)) c bytes (λ s. refl) after b)

  pub sleep_done : {f : List ℕ} → d ≡ duties.Sleep → Becomes f c → new ≡ answer_in old (answer_bytes data_firework nobody) → Carried (duty_effect (duty_at d a) bytes c) data_firework old new 0 f
  unfolding duty_at slave_after reply_to
  sleep_done {f} is h b =
      let o : Duty = sleeping (name_in_lem a.name) in
      effect_is is (done-silently o c bytes (λ s. refl) (subst (λ (x : Cluster). Becomes f x) (sym (after_same o bytes c (λ s. refl))) h) b)

-- ---- who is awake afterwards

-- everyone, but after a sleep
pub awake-alike : (o : Duty) (c : Cluster) → ((s : Slave) → falls_asleep o s ≡ false) → rested nothing c ≡ rested o c
unfolding rested
awake-alike o c up = ap (with_slaves c) (map-alike c.slaves)
  where
    idle : (s : Slave) → falls_asleep nothing s ≡ false
    idle s = unfold falls_asleep in refl

    same : (s : Slave) → rests_after nothing s ≡ rests_after o s
    same s = unfold rests_after in rw (up s, idle s)

    map-alike : (ss : List Slave) → map (rests_after nothing) ss ≡ map (rests_after o) ss
    map-alike [] = refl
    map-alike (s ∷ ss) = rw (same s, map-alike ss)

pub writing-wakes : (name n r : ℕ) (c : Cluster) → rested nothing c ≡ rested (writing name n r) c
writing-wakes name n r c = awake-alike (writing name n r) c (λ s. unfold falls_asleep in refl)

-- by what a duty of the code is
pub stays_up : (a : RecordAddress) (d : CodeDuty) → puts_to_sleep d ≡ false → (s : Slave) → falls_asleep (duty_at d a) s ≡ false
unfolding duty_at falls_asleep
stays_up a duties.Nothing up s = refl
stays_up a duties.Read up s = refl
stays_up a duties.Write up s = refl
stays_up a duties.Compare up s = refl
stays_up a duties.Baptize up s = refl
stays_up a duties.Sleep up s = clash refl up

is_sleep : (a : RecordAddress) (d : CodeDuty) → puts_to_sleep d ≡ true → duty_at d a ≡ sleeping (name_in_lem a.name)
unfolding duty_at
is_sleep a duties.Nothing down = clash down refl
is_sleep a duties.Read down = clash down refl
is_sleep a duties.Write down = clash down refl
is_sleep a duties.Compare down = clash down refl
is_sleep a duties.Baptize down = clash down refl
is_sleep a duties.Sleep down = refl

module _ (c : Cluster) (a : RecordAddress) (d : CodeDuty) {t : Bool} (is : t ≡ puts_to_sleep d) {file : List ℕ} where
  pub duty_wakes : t ≡ false → Becomes file (rested nothing c) → Becomes file (rested (duty_at d a) c)
  duty_wakes up h = subst (λ (x : Cluster). Becomes file x) (awake-alike (duty_at d a) c (stays_up a d (sym is ∙ up))) h

  pub duty_rests : t ≡ true → Becomes file (rested (sleeping (name_in_lem a.name)) c) → Becomes file (rested (duty_at d a) c)
  duty_rests down h = subst (λ (o : Duty). Becomes file (rested o c)) (sym (is_sleep a d (sym is ∙ down))) h

-- ---- the file with the epoch raised

-- with the duty done
pub done-placed :
    {f g places : List ℕ} (o : Duty) (bytes : List ℕ) {firework : ℕ} {old new : List ℕ} {mask : ℕ} → Placed f places →
    Carried (duty_effect o bytes (decode f)) firework old new mask g → Placed g places
unfolding duty_effect slaves_after with_slaves
done-placed {f} o bytes p k = placed-kept p k.becomes refl (after_shape o bytes (decode f))

-- and with who falls asleep asleep, everyone else awake
pub raised-done :
    {f : List ℕ} (c : Cluster) {o : Duty} (bytes : List ℕ) {firework : ℕ} {old new : List ℕ} {mask : ℕ} {g file : List ℕ} → o ≡ pending_duty c →
    Becomes f (epoch_raised c) → Carried (duty_effect o bytes (decode f)) firework old new mask g →
    Becomes file (rested o (decode g)) → Carried (data_effect c bytes) firework old new mask file
unfolding duty_effect epoch_raised with_epoch
raised-done c bytes is h k rests =
    let there = rw (is, h.decoded) at k in
    record { senders = there.senders; buffer = there.buffer; becomes = rw (is, there.becomes.decoded) at rests }

pub ruleset pending_ways = (pending-nothing, pending-for)

pub ruleset writes = (write_forbidden, may_true, slave_after-kept, data-bytes)
