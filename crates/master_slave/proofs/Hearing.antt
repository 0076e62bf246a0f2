-- The replies of all slaves, one slave after the other: what a loop along the slaves keeps of buffer and slots, and one law for a
-- slave.
-- Assumes nothing.
use Prim.Native.Nat.{ℕ, zero, suc, ◌+◌, ◌≤◌, ◌<◌}
use native.Mathlib.Omega.{arith}
use native.Mathlib.Numerals.{add-one}
use mathlib.Core.Path.{◌≡◌, refl, sym, ap, ◌∙◌}
use mathlib.Core.Logic.{◌⊎◌, inl, inr, ⊎_elim}
use mathlib.Core.List.{List, [], ◌∷◌, ◌++◌, append_assoc, append-nil}
use mathlib.Core.Bool.{true}
use lib.ListN.{length, get_or, take, drop, length-append, length-take, length-drop}
use lib.Seq.{take-suc, take_all, drop_at, drop-nil}
use lib.Dec.{leb, ltb}
use borrow.Author.Tests.{leb-true, leb-false, ltb-true, ltb-false}
use Rattle.file.specs.Rules.Bytes.{part}
use Rattle.file.specs.Rules.Cluster.{Slave, Cluster, has_record, record_of}
use Rattle.file.specs.Inner.Places.{no_slave_lem, slave_of}
use Rattle.file.proofs.Order.{by_case, both_right}
use Rattle.file.proofs.Puts.{has_record-fits}
use Rattle.master_slave.specs.Rules.Bus.{Senders, anyone, slots, sender_mask, answer_bytes, answer_in, nobody}
use Rattle.master_slave.specs.Rules.Slaves.{Duty, nothing, reading, writing, comparing, baptizing, sleeping, answers_read, read_reply, answers_compare, reply_to, in_slot, sent_to}
use Rattle.master_slave.specs.Inner.Carried.{senders_to, said, Heard, reach_of, Replied}
use Rattle.master_slave.proofs.Bus.{answer_bytes-length, answer-length, answer-alike, answer-said, senders_to_yes, senders_to_no, mask-alike}

-- ---- the rule, slave by slave

sent_to-append : (o : Duty) (ss ts : List Slave) (slot : ℕ) → sent_to o (ss ++ ts) slot ≡ sent_to o ss slot ++ sent_to o ts slot
unfolding sent_to
sent_to-append o [] ts slot = refl
sent_to-append o (s ∷ ss) ts slot = rw (sent_to-append o ss ts slot) (sym (append_assoc (in_slot (reply_to o s) slot) (sent_to o ss slot) (sent_to o ts slot)))

pub sent_to-next : (o : Duty) (ss : List Slave) (i slot : ℕ) → i < length ss → sent_to o (take (suc i) ss) slot ≡ sent_to o (take i ss) slot ++ in_slot (reply_to o (get_or ss i no_slave_lem)) slot
unfolding sent_to
sent_to-next o ss i slot h =
    rw (take-suc ss i no_slave_lem h)
    (sent_to-append o (take i ss) (get_or ss i no_slave_lem ∷ []) slot ∙
    ap (λ (l : List ℕ). sent_to o (take i ss) slot ++ l) (append-nil (in_slot (reply_to o (get_or ss i no_slave_lem)) slot)))

-- every reply is empty or of one length
unfoldable pub size_of : Duty → ℕ
size_of nothing = 0
size_of (reading name n r) = 5
size_of (writing name n r) = 0
size_of (comparing name) = 1
size_of (baptizing name) = 0
size_of (sleeping name) = 0

pub record_of-length : (s : Slave) (n r : ℕ) → has_record s n r ≡ true → length (record_of s n r) ≡ 4
unfolding record_of part
record_of-length s n r has = simp (length-take, length-drop) (omega (arith, has_record-fits s n r has))

pub reply-size : (o : Duty) (s : Slave) → (reply_to o s ≡ []) ⊎ (length (reply_to o s) ≡ size_of o)
unfolding reply_to size_of read_reply answers_read
reply-size nothing s = inl refl
reply-size (reading name n r) s =
    by_case (answers_read name n r s)
    (λ e. inr (rw e (length-append (record_of s n r) _ ∙ rw (record_of-length s n r (both_right _ _ (both_right _ _ e))))))
    (λ e. inl (rw e))
reply-size (writing name n r) s = inl refl
reply-size (comparing name) s = by_case (answers_compare name s) (λ e. inr (rw e)) (λ e. inl (rw e))
reply-size (baptizing name) s = inl refl
reply-size (sleeping name) s = inl refl

pub size_few : (o : Duty) → size_of o < 64
unfolding size_of
size_few nothing = omega arith
size_few (reading name n r) = omega arith
size_few (writing name n r) = omega arith
size_few (comparing name) = omega arith
size_few (baptizing name) = omega arith
size_few (sleeping name) = omega arith

-- ---- the slots that someone sent in

anyone-append : (xs ys : List ℕ) → anyone ys ≡ 0 → anyone (xs ++ ys) ≡ anyone xs
unfolding anyone
anyone-append [] ys e = e
anyone-append (x ∷ xs) ys e = refl

anyone_more : (xs ys : List ℕ) → anyone ys ≡ 1 → anyone (xs ++ ys) ≡ 1
unfolding anyone
anyone_more [] ys e = e
anyone_more (x ∷ xs) ys e = refl

some-there : (l : List ℕ) (j : ℕ) → j < length l → anyone (take 1 (drop j l)) ≡ 1
unfolding anyone
some-there [] j h = absurd (omega arith)
some-there (x ∷ xs) zero h = refl
some-there (x ∷ xs) (suc j) h = some-there xs j (omega arith)

none-there : (l : List ℕ) (j : ℕ) → length l ≤ j → anyone (take 1 (drop j l)) ≡ 0
unfolding anyone
none-there [] j h = rw drop-nil
none-there (x ∷ xs) zero h = absurd (omega arith)
none-there (x ∷ xs) (suc j) h = none-there xs j (omega arith)

pub in_slot_yes : (reply : List ℕ) (slot : ℕ) → 1 ≤ slot → slot ≤ length reply → anyone (in_slot reply slot) ≡ 1
unfolding in_slot
in_slot_yes reply zero low high = absurd (omega arith)
in_slot_yes reply (suc k) low high = some-there reply k (omega arith)

pub in_slot_no : (reply : List ℕ) (slot : ℕ) → (1 ≤ slot → length reply < slot) → anyone (in_slot reply slot) ≡ 0
unfolding in_slot anyone
in_slot_no reply zero out = refl
in_slot_no reply (suc k) out = none-there reply k (omega (arith, out (omega arith)))

pub in_slot_nil : (slot : ℕ) → in_slot [] slot ≡ []
unfolding in_slot
in_slot_nil zero = refl
in_slot_nil (suc k) = rw drop-nil

-- nobody has sent yet
pub heard-nobody : (r : Senders) {firework : ℕ} {old new : List ℕ} → ((slot : ℕ) → r slot ≡ []) → new ≡ answer_in old (answer_bytes firework nobody) → Heard r firework old new 0
unfolding nobody anyone
heard-nobody r {firework} {old} none e =
    record {
      few = omega arith;
      reach = λ slot. rw (none slot) (sym (senders_to_no 0 slot (λ h. omega arith)));
      buffer = e ∙ answer-alike old firework nobody r (λ k. sym (none k));
    }

-- one more slave, which sends nothing
heard-quiet :
    {r t : Senders} {firework : ℕ} {old new new' : List ℕ} {last next : ℕ} → Heard r firework old new last → ((slot : ℕ) → t slot ≡ r slot) → new' ≡ new →
    next ≡ last → Heard t firework old new' next
heard-quiet {r} {t} {firework} {old} h same b n =
    record {
      few = rw n h.few;
      reach = λ slot. rw n (ap anyone (same slot) ∙ h.reach slot);
      buffer = b ∙ h.buffer ∙ answer-alike old firework r t (λ k. sym (same k));
    }

-- one more slave, which sends from slot 1 at least as far as all before it
heard_more : {r t : Senders} {firework : ℕ} {old new new' : List ℕ} {last next : ℕ} (reply : List ℕ) → Heard r firework old new last → ((slot : ℕ) → t slot ≡ r slot ++ in_slot reply slot) →
    new' ≡ said new 1 reply → next ≡ length reply → last ≤ length reply → length reply < 64 → Heard t firework old new' next
unfolding in_slot
heard_more {r} {t} {firework} {old} {last = last} {next} reply h more b n far few =
    record {
      few = omega arith;
      reach =
          λ slot. rw n
          (by_case (ltb 0 slot)
          (λ p. by_case (leb slot (length reply)) (λ q. inside slot (ltb-true 0 slot p) (leb-true _ _ q)) (λ q. outside slot (λ _. leb-false _ _ q)))
          (λ p. outside slot (λ l. omega (arith, ltb-false 0 slot p, l))));
      buffer = b ∙ ap (λ (l : List ℕ). said l 1 reply) h.buffer ∙ answer-said old firework r t reply (omega arith) (λ j. more (suc j));
    }
  where
    inside : (slot : ℕ) → 1 ≤ slot → slot ≤ length reply → anyone (t slot) ≡ anyone (senders_to (length reply) slot)
    inside slot low high =
        ap anyone (more slot) ∙ anyone_more (r slot) (in_slot reply slot) (in_slot_yes reply slot low high) ∙ sym (senders_to_yes (length reply) slot low high)

    outside : (slot : ℕ) → (1 ≤ slot → length reply < slot) → anyone (t slot) ≡ anyone (senders_to (length reply) slot)
    outside slot out =
        ap anyone (more slot) ∙ anyone-append (r slot) (in_slot reply slot) (in_slot_no reply slot out) ∙ h.reach slot
        ∙ senders_to_no last slot (λ l. omega (arith, out l)) ∙ sym (senders_to_no (length reply) slot out)

-- ---- the loop

-- a buffer answered in again
answer_again : (old : List ℕ) (firework : ℕ) (r : Senders) (bytes : List ℕ) → answer_in (answer_in old (answer_bytes firework r)) bytes ≡ answer_in old bytes
unfolding answer_in
answer_again old firework r bytes =
    ap (λ (l : List ℕ). bytes ++ l) (drop_at (answer_bytes firework r) (drop slots old) slots (answer_bytes-length firework r))

pub record Hearing (o : Duty) (c : Cluster) (firework : ℕ) (old new : List ℕ) (i last : ℕ) : Type 0 where
  pub some : 0 < size_of o
  pub most : i ≤ length c.slaves
  pub long : slots ≤ length old
  pub bound : last ≤ size_of o
  pub heard : Heard (sent_to o (take i c.slaves)) firework old new last

pub hearing-start :
    (o : Duty) (c : Cluster) {firework : ℕ} (old : List ℕ) {new : List ℕ} → 0 < size_of o → slots ≤ length old → new ≡ answer_in old (answer_bytes firework nobody) →
    Hearing o c firework new new 0 0
unfolding sent_to
hearing-start o c {firework} old {new} some long e =
    record {
      some = some;
      most = omega arith;
      long = rw e (rw (answer-length old firework nobody long) long);
      bound = omega arith;
      heard = heard-nobody (sent_to o []) (λ slot. refl) (e ∙ sym (rw e (answer_again old firework nobody (answer_bytes firework nobody))));
    }

module _ {o : Duty} {c : Cluster} {firework : ℕ} {old new : List ℕ} {i last : ℕ} (h : Hearing o c firework old new i last) where
  pub hearing-next :
      {count : ℕ} → count ≡ length c.slaves → i < count → {new' : List ℕ} {next : ℕ} → Replied (reply_to o (slave_of c i)) new new' last next →
      Hearing o c firework old new' (i + 1) next
  unfolding slave_of said reach_of
  hearing-next all within {new'} {next} t =
      let more : i < length c.slaves = omega arith in
      ⊎_elim
      (λ (quiet : reply_to o (get_or c.slaves i no_slave_lem) ≡ []).
      let stay : next ≡ last = rw quiet at t.reach in
      let same : (slot : ℕ) → sent_to o (take (i + 1) c.slaves) slot ≡ sent_to o (take i c.slaves) slot =
      λ slot. rw (add-one i, sent_to-next o c.slaves i slot more, quiet, in_slot_nil slot, append-nil)
      in
      record {
        some = h.some;
        most = omega arith;
        long = h.long;
        bound = rw stay h.bound;
        heard = heard-quiet h.heard same (rw quiet at t.buffer) stay;
      })
      (λ (full : length (reply_to o (get_or c.slaves i no_slave_lem)) ≡ size_of o).
      let reply : List ℕ = reply_to o (get_or c.slaves i no_slave_lem) in
      let reached : next ≡ length reply = t.reach ∙ reach-some last reply (omega (arith, h.some)) in
      record {
        some = h.some;
        most = omega arith;
        long = h.long;
        bound = omega arith;
        heard = heard_more reply h.heard (λ slot. rw (add-one i) (sent_to-next o c.slaves i slot more)) t.buffer reached (omega (arith, h.bound)) (omega (arith, size_few o));
      })
      (reply-size o (get_or c.slaves i no_slave_lem))
    where
      reach-some : (l : ℕ) (reply : List ℕ) → 0 < length reply → reach_of l reply ≡ length reply
      reach-some l [] p = absurd (omega arith)
      reach-some l (b ∷ bs) p = refl

  pub hearing_done : (entry : List ℕ) → old ≡ answer_in entry (answer_bytes firework nobody) → {count : ℕ} → count ≡ length c.slaves → count ≤ i → Heard (sent_to o c.slaves) firework entry new last
  hearing_done entry e all over =
      let whole : take i c.slaves ≡ c.slaves = take_all i c.slaves (omega arith) in
      let r : Senders = sent_to o (take i c.slaves) in
      let heard : Heard r firework entry new last =
      record {
        few = h.heard.few;
        reach = h.heard.reach;
        buffer = h.heard.buffer ∙ ap (λ (l : List ℕ). answer_in l (answer_bytes firework r)) e ∙ answer_again entry firework nobody (answer_bytes firework r);
      }
      in
      rw whole at heard

-- the mask, by the last slot that someone sent in
pub heard-mask : {r : Senders} {firework : ℕ} {old new : List ℕ} {last mask : ℕ} → Heard r firework old new last → mask ≡ sender_mask (senders_to last) → mask ≡ sender_mask r
unfolding sender_mask
heard-mask {r} {last = last} h e = e ∙ mask-alike (senders_to last) r slots (λ s. sym (h.reach s))
