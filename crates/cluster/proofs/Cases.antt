-- The document's cases M6 to M9, as facts of the round definition: on every file that the round accepts, with the operation pending
-- that the case names.
-- Assumes nothing.
use Prim.Native.Nat.{ℕ, ◌+◌}
use native.Mathlib.Omega.{arith}
use mathlib.Core.Path.{◌≡◌, refl, sym, ap, ◌∙◌}
use mathlib.Core.List.{List, [], ◌∷◌, ◌++◌, append-nil}
use mathlib.Core.Bool.{true, false}
use lib.ListN.{get_or}
use lib.Dec.{eqb, leb}
use borrow.Author.Tests.{eqb-true, eqb-false, le-leb, lt-leb}
use Rattle.file.specs.Rules.Order.{both}
use Rattle.file.specs.Rules.Results.{done}
use Rattle.file.specs.Rules.Cluster.{Slave, Cluster, is_awake, record_of, logical_name, physical_name, comparison_value, unnamed}
use Rattle.file.specs.Rules.Decode.{decode}
use Rattle.file.proofs.Order.{by_case}
use Rattle.frame.specs.Rules.Check.{check_of, data_check}
use Rattle.frame.specs.Rules.Fireworks.{data_firework, round_of, round_in}
use Rattle.master_slave.specs.Rules.Bus.{Senders, joined, bus_byte, anyone, slots, mask_below_lem, sender_mask, slot_bytes, answer_bytes, answer_in, nobody}
use Rattle.master_slave.specs.Rules.Slaves.{addressed, addresses, is_unnamed, Duty, reading, comparing, pending_duty, answers_read, read_reply, answers_compare, reply_to, in_slot, sent_to}
use Rattle.cluster.specs.Rules.RoundGrounds.{round_by_lem}
use Rattle.cluster.specs.Rules.Round.{effect_of, frame_on, round_ground, round_on}
use Rattle.cluster.specs.Claims.Cases.{data_round, RoundCases}
use Rattle.master_slave.proofs.Bus.{mask-alike, mask-nobody, answer-alike, senders_to_yes, senders_to_no}
use Rattle.master_slave.specs.Inner.Carried.{senders_to}
use Rattle.master_slave.proofs.Hearing.{in_slot_yes, in_slot_no, in_slot_nil}
use Rattle.master_slave.proofs.DataLaws.{sent-nothing}
use Rattle.master_slave.proofs.Asleep.{is-awake}
use Rattle.cluster.proofs.Rounds.{round-accepted}

-- who sends, by the pending operation
senders-are : (c : Cluster) {o : Duty} → pending_duty c ≡ o → (frame_on c data_round).senders ≡ sent_to o c.slaves
unfolding frame_on effect_of round_by_lem round_of round_in
senders-are c p = rw p

module _ (file buffer : List ℕ) (fits : round_ground file data_round buffer ≡ 0) {o : Duty} (p : pending_duty (decode file) ≡ o) where
  pub round-mask : (round_on file data_round buffer).0 ≡ done (sender_mask (sent_to o (decode file).slaves))
  round-mask = rw (round-accepted file data_round buffer fits) (ap (λ (r : Senders). done (sender_mask r)) (senders-are (decode file) p))

  pub round-buffer : (round_on file data_round buffer).1 ≡ answer_in buffer (answer_bytes data_firework (sent_to o (decode file).slaves))
  round-buffer = rw (round-accepted file data_round buffer fits) (ap (λ (r : Senders). answer_in buffer (answer_bytes data_firework r)) (senders-are (decode file) p))

-- ---- M6 and M7: an execute of 0x08 record 2 at 0xFF

unnamed_compares : (s : Slave) → is_awake s ≡ true → is_unnamed s ≡ true → answers_compare unnamed s ≡ leb (comparison_value s) (physical_name s)
unfolding answers_compare addressed addresses is_unnamed both
unnamed_compares s awake e = rw (awake, e)

-- a sleeping slave is silent
asleep_silent : (s : Slave) → is_awake s ≡ false → answers_compare unnamed s ≡ false
unfolding answers_compare addressed both
asleep_silent s asleep = rw asleep

-- M6: "physical name equal to IDCV replies"
pub m6_reply : (s : Slave) → s.asleep ≡ 0 → is_unnamed s ≡ true → physical_name s ≡ comparison_value s → reply_to (comparing unnamed) s ≡ 0x00 ∷ []
unfolding reply_to
m6_reply s awake e same = rw (unnamed_compares s (is-awake s awake) e, le-leb (comparison_value s) (physical_name s) (omega (arith, same)))

-- M7: "one less is silent"
pub m7_reply : (s : Slave) → is_unnamed s ≡ true → physical_name s + 1 ≡ comparison_value s → reply_to (comparing unnamed) s ≡ []
unfolding reply_to
m7_reply s e less =
    by_case (is_awake s)
    (λ a. rw (unnamed_compares s a e, lt-leb (comparison_value s) (physical_name s) (omega (arith, less))))
    (λ a. rw (asleep_silent s a))

-- where nobody sends the mask is 0
pub quiet_mask : (r : Senders) → ((slot : ℕ) → r slot ≡ nobody slot) → sender_mask r ≡ 0
unfolding sender_mask
quiet_mask r quiet = mask-alike r nobody slots (λ s. ap anyone (quiet s)) ∙ sym mask-nobody

one_sender : (o : Duty) (s : Slave) → reply_to o s ≡ 0x00 ∷ [] → (slot : ℕ) → anyone (sent_to o (s ∷ []) slot) ≡ anyone (senders_to 1 slot)
unfolding sent_to
one_sender o s e slot =
    by_case (eqb slot 1)
    (λ t. let is : slot ≡ 1 = eqb-true slot 1 t in rw (e, append-nil, is) (in_slot_yes (0x00 ∷ []) 1 (omega arith) (omega arith) ∙ sym (senders_to_yes 1 1 (omega arith) (omega arith))))
    (λ t. let other : slot ≡ 1 → ⊥ = eqb-false slot 1 t in rw (e, append-nil) (in_slot_no (0x00 ∷ []) slot (λ h. omega arith) ∙ sym (senders_to_no 1 slot (λ h. omega arith))))

one-mask : (o : Duty) (s : Slave) → reply_to o s ≡ 0x00 ∷ [] → sender_mask (sent_to o (s ∷ [])) ≡ 2
unfolding sender_mask senders_to mask_below_lem anyone both
one-mask o s e = mask-alike (sent_to o (s ∷ [])) (senders_to 1) slots (one_sender o s e)

no_sender : (o : Duty) (s : Slave) → reply_to o s ≡ [] → (slot : ℕ) → sent_to o (s ∷ []) slot ≡ nobody slot
unfolding sent_to nobody
no_sender o s e slot = rw (e, in_slot_nil slot)

-- the same of a slave alone on the bus, for every physical name: bit 1 and nothing else, or nothing
pub m6 :
    (file buffer : List ℕ) → round_ground file data_round buffer ≡ 0 → pending_duty (decode file) ≡ comparing unnamed → (s : Slave) → (decode file).slaves ≡ s ∷ [] →
    s.asleep ≡ 0 → is_unnamed s ≡ true → physical_name s ≡ comparison_value s →
    (round_on file data_round buffer).0 ≡ done 2
m6 file buffer fits p s alone awake e same =
    round-mask file buffer fits p ∙ ap (λ (n : ℕ). done n) (ap (λ (ss : List Slave). sender_mask (sent_to (comparing unnamed) ss)) alone ∙ one-mask (comparing unnamed) s (m6_reply s awake e same))

pub m7 :
    (file buffer : List ℕ) → round_ground file data_round buffer ≡ 0 → pending_duty (decode file) ≡ comparing unnamed → (s : Slave) → (decode file).slaves ≡ s ∷ [] →
    is_unnamed s ≡ true → physical_name s + 1 ≡ comparison_value s →
    (round_on file data_round buffer).0 ≡ done 0
m7 file buffer fits p s alone e less =
    round-mask file buffer fits p ∙
    ap (λ (n : ℕ). done n)
    (ap (λ (ss : List Slave). sender_mask (sent_to (comparing unnamed) ss)) alone ∙
    quiet_mask (sent_to (comparing unnamed) (s ∷ [])) (no_sender (comparing unnamed) s (m7_reply s e less)))

-- ---- M6 and M7 among other slaves

anyone_right : (xs ys : List ℕ) → anyone ys ≡ 1 → anyone (xs ++ ys) ≡ 1
unfolding anyone
anyone_right [] ys h = h
anyone_right (x ∷ xs) ys h = refl

anyone_neither : (xs ys : List ℕ) → anyone xs ≡ 0 → anyone ys ≡ 0 → anyone (xs ++ ys) ≡ 0
unfolding anyone
anyone_neither [] ys g h = h
anyone_neither (x ∷ xs) ys g h = absurd (omega (arith, g))

replies_among : (o : Duty) (s : Slave) (before after : List Slave) → reply_to o s ≡ 0x00 ∷ [] → anyone (sent_to o (before ++ s ∷ after) 1) ≡ 1
unfolding sent_to in_slot anyone
replies_among o s [] after e = rw e
replies_among o s (x ∷ xs) after e = anyone_right (in_slot (reply_to o x) 1) (sent_to o (xs ++ s ∷ after) 1) (replies_among o s xs after e)

one_slot : (name : ℕ) (x : Slave) (slot : ℕ) → (slot ≡ 1 → ⊥) → anyone (in_slot (reply_to (comparing name) x) slot) ≡ 0
unfolding reply_to
one_slot name x slot other =
    by_case (answers_compare name x)
    (λ t. rw t (in_slot_no (0x00 ∷ []) slot (λ h. omega arith)))
    (λ t. rw t (in_slot_no [] slot (λ h. omega arith)))

quiet_elsewhere : (name : ℕ) (ss : List Slave) (slot : ℕ) → (slot ≡ 1 → ⊥) → anyone (sent_to (comparing name) ss slot) ≡ 0
unfolding sent_to anyone
quiet_elsewhere name [] slot other = refl
quiet_elsewhere name (x ∷ xs) slot other = anyone_neither (in_slot (reply_to (comparing name) x) slot) (sent_to (comparing name) xs slot) (one_slot name x slot other) (quiet_elsewhere name xs slot other)

sender-among :
    (name : ℕ) (s : Slave) (before after : List Slave) → reply_to (comparing name) s ≡ 0x00 ∷ [] → (slot : ℕ) →
    anyone (sent_to (comparing name) (before ++ s ∷ after) slot) ≡ anyone (senders_to 1 slot)
sender-among name s before after e slot =
    by_case (eqb slot 1)
    (λ t. let is : slot ≡ 1 = eqb-true slot 1 t in rw is (replies_among (comparing name) s before after e ∙ sym (senders_to_yes 1 1 (omega arith) (omega arith))))
    (λ t. let other : slot ≡ 1 → ⊥ = eqb-false slot 1 t in quiet_elsewhere name (before ++ s ∷ after) slot other ∙ sym (senders_to_no 1 slot (λ h. omega arith)))

mask_among : (name : ℕ) (s : Slave) (before after : List Slave) → reply_to (comparing name) s ≡ 0x00 ∷ [] → sender_mask (sent_to (comparing name) (before ++ s ∷ after)) ≡ 2
unfolding sender_mask senders_to mask_below_lem anyone both
mask_among name s before after e = mask-alike (sent_to (comparing name) (before ++ s ∷ after)) (senders_to 1) slots (sender-among name s before after e)

pub silent_among : (o : Duty) (s : Slave) (before after : List Slave) → reply_to o s ≡ [] → (slot : ℕ) → sent_to o (before ++ s ∷ after) slot ≡ sent_to o (before ++ after) slot
unfolding sent_to
silent_among o s [] after e slot = rw (e, in_slot_nil slot)
silent_among o s (x ∷ xs) after e slot = rw (silent_among o s xs after e slot)

-- M6 beside any other slaves: bit 1 and nothing else
pub m6-among :
    (file buffer : List ℕ) → round_ground file data_round buffer ≡ 0 → pending_duty (decode file) ≡ comparing unnamed → (s : Slave) (before after : List Slave) →
    (decode file).slaves ≡ before ++ s ∷ after → s.asleep ≡ 0 → is_unnamed s ≡ true → physical_name s ≡ comparison_value s →
    (round_on file data_round buffer).0 ≡ done 2
m6-among file buffer fits p s before after among awake e same =
    round-mask file buffer fits p ∙ ap (λ (n : ℕ). done n) (ap (λ (ss : List Slave). sender_mask (sent_to (comparing unnamed) ss)) among ∙ mask_among unnamed s before after (m6_reply s awake e same))

-- M7 beside any other slaves: the slots hold what the others send, as if the slave were not there
pub m7_among : (s : Slave) (before after : List Slave) → is_unnamed s ≡ true → physical_name s + 1 ≡ comparison_value s → (slot : ℕ) →
    sent_to (comparing unnamed) (before ++ s ∷ after) slot ≡ sent_to (comparing unnamed) (before ++ after) slot
m7_among s before after e less = silent_among (comparing unnamed) s before after (m7_reply s e less)

-- ---- M8: "0xF0 and 0x3C give 0x30"

pub m8_byte : bus_byte (0xF0 ∷ 0x3C ∷ []) ≡ 0x30
unfolding bus_byte joined
m8_byte = refl

-- two slaves that answer a read, their records beginning with these bytes: slot 1 holds 0x30
pub m8 :
    (file buffer : List ℕ) → round_ground file data_round buffer ≡ 0 → (name n r : ℕ) → pending_duty (decode file) ≡ reading name n r → (s t : Slave) →
    (decode file).slaves ≡ s ∷ t ∷ [] → answers_read name n r s ≡ true → answers_read name n r t ≡ true →
    {bs cs : List ℕ} → record_of s n r ≡ 0xF0 ∷ bs → record_of t n r ≡ 0x3C ∷ cs → get_or (round_on file data_round buffer).1 1 0 ≡ 0x30
unfolding answer_in answer_bytes slot_bytes sent_to in_slot reply_to read_reply
m8 file buffer fits name n r p s t two a b e f =
    ap (λ (l : List ℕ). get_or l 1 0) (round-buffer file buffer fits p) ∙ ap (λ (ss : List Slave). bus_byte (sent_to (reading name n r) ss 1)) two ∙ rw (a, b, e, f) m8_byte

-- request 1, "0x49 for a read reply": each of two slaves that answer a read folds it into its own check, and slot 5 holds the and of these
pub read-checks :
    (file buffer : List ℕ) → round_ground file data_round buffer ≡ 0 → (name n r : ℕ) → pending_duty (decode file) ≡ reading name n r → (s t : Slave) →
    (decode file).slaves ≡ s ∷ t ∷ [] → answers_read name n r s ≡ true → answers_read name n r t ≡ true →
    {a b c d e f g h : ℕ} → record_of s n r ≡ a ∷ b ∷ c ∷ d ∷ [] → record_of t n r ≡ e ∷ f ∷ g ∷ h ∷ [] →
    get_or (round_on file data_round buffer).1 5 0 ≡ bus_byte (check_of 0x49 (a ∷ b ∷ c ∷ d ∷ []) ∷ check_of 0x49 (e ∷ f ∷ g ∷ h ∷ []) ∷ [])
unfolding answer_in answer_bytes slot_bytes sent_to in_slot reply_to read_reply data_check
read-checks file buffer fits name n r p s t two one other here there =
    ap (λ (l : List ℕ). get_or l 5 0) (round-buffer file buffer fits p) ∙ ap (λ (ss : List Slave). bus_byte (sent_to (reading name n r) ss 5)) two ∙ rw (one, other, here, there) refl

-- ---- M9: "a read at 0xFF is silent"

pub m9_reply : (n r : ℕ) (s : Slave) → reply_to (reading unnamed n r) s ≡ []
unfolding reply_to answers_read addressed addresses is_unnamed both
m9_reply n r s =
    by_case (is_awake s) (λ a. by_case (eqb (logical_name s) unnamed) (λ e. rw (a, e)) (λ e. rw (a, e))) (λ a. rw a)

pub m9 : (file buffer : List ℕ) → round_ground file data_round buffer ≡ 0 → (n r : ℕ) → pending_duty (decode file) ≡ reading unnamed n r →
    ((round_on file data_round buffer).0 ≡ done 0) × ((round_on file data_round buffer).1 ≡ answer_in buffer (answer_bytes data_firework nobody))
unfolding nobody
m9 file buffer fits n r p =
    let quiet : (slot : ℕ) → sent_to (reading unnamed n r) (decode file).slaves slot ≡ nobody slot = sent-nothing (reading unnamed n r) (m9_reply n r) (decode file).slaves in (
      round-mask file buffer fits p ∙ ap (λ (k : ℕ). done k) (quiet_mask (sent_to (reading unnamed n r) (decode file).slaves) quiet),
      round-buffer file buffer fits p ∙ answer-alike buffer data_firework (sent_to (reading unnamed n r) (decode file).slaves) nobody quiet,
    )

-- together
pub round-cases : RoundCases
round-cases = record { m6 = m6; m7 = m7; m8 = m8; checks = read-checks; m9 = m9 }
