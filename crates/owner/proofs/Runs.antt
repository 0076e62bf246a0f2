-- Who sends in a round as it runs, and who the plan has: no receive stores in a round file or in 0x08, and none changes a file's length;
-- and where no slave has a multiplexed send, a round passes over an entry that the plan does not, or does not pass over one that the plan
-- does, only where that entry is a multiplexed receive.
-- Assumes nothing.
use Rattle.std.proofs.Common.{ℕ, zero, suc, ◌-◌, ◌≤◌, ◌<◌, arith, ◌≡◌, refl, sym, ap, ◌∙◌, subst, List, [], ◌∷◌, ◌++◌, map, Bool, true, false, not, cond, length, get_or, replicate, eqb, leb, leb-false, eqb-true, eq-eqb, ne_eqb}
use borrow.Author.Tests.{eqb-false}
use Rattle.file.specs.Rules.Order.{both, either}
use Rattle.file.specs.Rules.Cluster.{Slave, Cluster, is_awake, bytes_in, last_record, logical_name, configuration}
use Rattle.file.specs.Rules.Changes.{with_epoch}
use Rattle.file.specs.Inner.Places.{SameFiles, SameShape, no_slaves, same_slave}
use Rattle.file.proofs.Order.{by_case, clash, both_true, both_right, both_false_left, both_false_right, both_false_next, either_false_left, either_false_right}
use Rattle.file.proofs.Shape.{files-bytes-length}
use Rattle.master_slave.specs.Rules.Bus.{slots}
use Rattle.master_slave.specs.Rules.Slaves.{is_unnamed, epoch_raised}
use Rattle.multipartner.specs.Rules.Entries.{Entry, entry_at, is_multiplexed, sends, ends, covers, out_of_turn, eligible, Acting, no_entry, acts, acting, acting_from}
use Rattle.multipartner.specs.Rules.Multipartner.{SlaveByte, nowhere, byte_of, within, send_place, plans_from, sends_from, byte_there, sent_by, sent_in, cluster_below, sent_during}
use Rattle.multipartner.specs.Rules.Multipartner.{passed_over_lem}
use Rattle.cluster.specs.Claims.Sleep.{awake_among}
use Rattle.multipartner.proofs.EntryLaws.{plain_turn, multiplexed_either, eligible-covers}
use Rattle.multipartner.proofs.StoresKept.{kept-below}
use Rattle.master_slave.proofs.Asleep.{awake-byte}
use Rattle.master_slave.proofs.Untouched.{files_of}
use Rattle.multipartner.proofs.Unstored.{below_other, below-awake}
use Rattle.owner.specs.Rules.Plan.{rounds, is_owned, is_multiplexed_receive, is_there, sends_in, senders_among, senders_in, some_below, two_send_in, two_send}
use Rattle.owner.specs.Rules.Plan.{some_entry_from, some_entry, some_entry_of, is_multiplexed_send, multiplexed_send}
use Rattle.owner.specs.Rules.OwnerFile.{name_of, owner_of, last_owned}
use Rattle.owner.specs.Claims.PlannedRounds as claims
use Rattle.owner.specs.Claims.PlannedRounds.{sent_as_run, sends_as_run, may_receive, AsPlanned, next_slave, SendAsPlanned, CountAsPlanned, OwnsSlot, SenderOwns}
use Rattle.owner.specs.Claims.PlannedRounds.{OwnerRuns, nobody_sends, one_may_send, OwnersRun, Plain, PlainCountAsPlanned, PlainAsPlanned, PlainOwnerRuns}
use Rattle.owner.specs.Claims.PlannedRounds.{none_sends, one_sends, PlainOwnersRun}

-- ---- a multiplexed entry that does not send is a receive

receive_there : (e : Entry) → is_multiplexed e.operation ≡ true → is_multiplexed_send e ≡ false → (sends e.operation ≡ false) × (is_multiplexed_receive e ≡ true)
receive_there e m none = (silent, unfold is_multiplexed_receive in both_true m (multiplexed_either e.operation m ∙ ap not silent))
  where
    silent : sends e.operation ≡ false
    silent = both_false_next _ m (unfold is_multiplexed_send in none)

-- ---- two searches that pass over multiplexed entries alone

abbrev OnlyMultiplexed : (Entry → Bool) → Type 0
OnlyMultiplexed passed = (e : Entry) → is_multiplexed e.operation ≡ false → passed e ≡ false

round-only : (c : Cluster) → OnlyMultiplexed (passed_over_lem c)
unfolding passed_over_lem out_of_turn
round-only c e plain = ap not (plain_turn (epoch_raised c).epoch e.operation e.multiplex plain)

plan_only : OnlyMultiplexed is_multiplexed_receive
unfolding is_multiplexed_receive
plan_only e plain = both_false_left _ plain

module _ (passed : Entry → Bool) (only : OnlyMultiplexed passed) (slot : ℕ) where
  -- an entry that is not multiplexed is eligible in both or in neither, and so is one that does not cover the slot
  plain_eligible : (e : Entry) → is_multiplexed e.operation ≡ false → eligible passed e slot ≡ eligible is_multiplexed_receive e slot
  unfolding eligible
  plain_eligible e plain = rw (only e plain, plan_only e plain)

  same-eligible : (e : Entry) → both (is_multiplexed e.operation) (covers e slot) ≡ false → eligible passed e slot ≡ eligible is_multiplexed_receive e slot
  same-eligible e out =
      by_case (is_multiplexed e.operation)
      (λ m.
      let past : covers e slot ≡ false = both_false_next _ m out in
      eligible-covers passed e slot past ∙ sym (eligible-covers is_multiplexed_receive e slot past))
      (λ m. plain_eligible e m)

  -- where no multiplexed entry covers the slot, the same entry acts
  same-acting : (rodl : List ℕ) (k n : ℕ) → some_entry_from (λ (e : Entry). both (is_multiplexed e.operation) (covers e slot)) rodl k n ≡ false
      → acting_from passed rodl slot k n ≡ acting_from is_multiplexed_receive rodl slot k n
  unfolding acting_from some_entry_from
  same-acting rodl k zero none = refl
  same-acting rodl k (suc n) none =
      by_case (ends (entry_at rodl k).operation)
      (λ t. rw t)
      (λ t.
      let left : either (both (is_multiplexed (entry_at rodl k).operation) (covers (entry_at rodl k) slot))
      (some_entry_from (λ (e : Entry). both (is_multiplexed e.operation) (covers e slot)) rodl (suc k) n) ≡ false =
      rw t at none
      in
      rw (t, same-eligible (entry_at rodl k) (either_false_left _ _ left), same-acting rodl (suc k) n (either_false_right _ _ left)))

  module _ (s : Slave) where
    abbrev sending : Acting → Bool
    sending a = is_there (send_place s slot a)

    silent_acts : (e : Entry) → sends e.operation ≡ false → sending (acts e) ≡ false
    unfolding send_place is_there
    silent_acts e silent = rw (both_false_left (within s e slot) silent)

    -- where there is no multiplexed send, who sends by the one search does so by the plan's: that passes over every multiplexed receive
    send-acting : (rodl : List ℕ) (k n : ℕ) → some_entry_from is_multiplexed_send rodl k n ≡ false
        → sending (acting_from passed rodl slot k n) ≡ true → sending (acting_from is_multiplexed_receive rodl slot k n) ≡ true
    unfolding acting_from some_entry_from
    send-acting rodl k zero none e = e
    send-acting rodl k (suc n) none e =
        by_case (ends (entry_at rodl k).operation)
        (λ t. rw t (rw t at e))
        (λ t.
        let left : either (is_multiplexed_send (entry_at rodl k)) (some_entry_from is_multiplexed_send rodl (suc k) n) ≡ false = rw t at none in
        let goes : sending (cond (eligible passed (entry_at rodl k) slot) (acts (entry_at rodl k)) (acting_from passed rodl slot (suc k) n)) ≡ true = rw t at e in
        rw t (here (either_false_left _ _ left) (λ q. send-acting rodl (suc k) n (either_false_right _ _ left) q) goes))
      where
        over : is_multiplexed_receive (entry_at rodl k) ≡ true → eligible is_multiplexed_receive (entry_at rodl k) slot ≡ false
        over r = unfold eligible in both_false_right _ (ap not r)

        here : is_multiplexed_send (entry_at rodl k) ≡ false
            → (sending (acting_from passed rodl slot (suc k) n) ≡ true → sending (acting_from is_multiplexed_receive rodl slot (suc k) n) ≡ true)
            → sending (cond (eligible passed (entry_at rodl k) slot) (acts (entry_at rodl k)) (acting_from passed rodl slot (suc k) n)) ≡ true
            → sending (cond (eligible is_multiplexed_receive (entry_at rodl k) slot) (acts (entry_at rodl k)) (acting_from is_multiplexed_receive rodl slot (suc k) n)) ≡ true
        here unsent rest goes =
            by_case (is_multiplexed (entry_at rodl k).operation)
            (λ m.
            let is = receive_there (entry_at rodl k) m unsent in
            rw (over is.1)
            (rest (by_case (eligible passed (entry_at rodl k) slot) (λ q. clash (rw q at goes) (silent_acts (entry_at rodl k) is.0)) (λ q. rw q at goes))))
            (λ m.
            let same = plain_eligible (entry_at rodl k) m in
            by_case (eligible is_multiplexed_receive (entry_at rodl k) slot)
            (λ q. rw q (rw (same ∙ q) at goes))
            (λ q. rw q (rest (rw (same ∙ q) at goes))))

-- ---- tests of the entries before the end

module _ (first second third : Entry → Bool) (follows : (e : Entry) → first e ≡ false → second e ≡ false → third e ≡ false) where
  none_from : (rodl : List ℕ) (k n : ℕ) → some_entry_from first rodl k n ≡ false → some_entry_from second rodl k n ≡ false → some_entry_from third rodl k n ≡ false
  unfolding some_entry_from
  none_from rodl k zero p q = refl
  none_from rodl k (suc n) p q =
      by_case (ends (entry_at rodl k).operation)
      (λ t. rw t)
      (λ t.
      let one : either (first (entry_at rodl k)) (some_entry_from first rodl (suc k) n) ≡ false = rw t at p in
      let two : either (second (entry_at rodl k)) (some_entry_from second rodl (suc k) n) ≡ false = rw t at q in
      rw (
        t,
        follows (entry_at rodl k) (either_false_left _ _ one) (either_false_left _ _ two),
        none_from rodl (suc k) n (either_false_right _ _ one) (either_false_right _ _ two),
      ) (unfold either in refl))

  none-entry : (round : ℕ) (s : Slave) → some_entry first round s ≡ false → some_entry second round s ≡ false → some_entry third round s ≡ false
  unfolding some_entry
  none-entry round s p q =
      by_case (is_unnamed s)
      (λ t. both_false_left _ (ap not t))
      (λ t. both_false_right _ (none_from (bytes_in s round) 1 (last_record (bytes_in s round)) (both_false_next _ (ap not t) p) (both_false_next _ (ap not t) q)))

-- ---- a slave by its round file

module _ (passed : Entry → Bool) (only : OnlyMultiplexed passed) (round slot : ℕ) where
  send-planned : (s : Slave) → some_entry is_multiplexed_send round s ≡ false → is_there (plans_from passed round slot s) ≡ true → sends_in round slot s ≡ true
  unfolding sends_in plans_from acting some_entry
  send-planned s none e =
      by_case (is_unnamed s)
      (λ t. rw t (rw t at e))
      (λ t. rw t (send-acting passed only slot s (bytes_in s round) 1 (last_record (bytes_in s round)) (both_false_next _ (ap not t) none) (rw t at e)))

  plans_same : (s : Slave) → some_entry (λ (e : Entry). both (is_multiplexed e.operation) (covers e slot)) round s ≡ false
      → plans_from passed round slot s ≡ plans_from is_multiplexed_receive round slot s
  unfolding plans_from acting some_entry
  plans_same s none =
      by_case (is_unnamed s)
      (λ t. rw t)
      (λ t. rw (t, same-acting passed only slot (bytes_in s round) 1 (last_record (bytes_in s round)) (both_false_next _ (ap not t) none)))

-- a slave that has no multiplexed send, and no multiplexed receive that covers the slot, has no multiplexed entry that covers it
uncovered : (round slot : ℕ) (s : Slave) → some_entry is_multiplexed_send round s ≡ false → may_receive round slot s ≡ false
    → some_entry (λ (e : Entry). both (is_multiplexed e.operation) (covers e slot)) round s ≡ false
unfolding may_receive
uncovered round slot s =
    none-entry is_multiplexed_send (λ (e : Entry). both (is_multiplexed_receive e) (covers e slot)) (λ (e : Entry). both (is_multiplexed e.operation) (covers e slot)) out round s
  where
    out : (e : Entry) → is_multiplexed_send e ≡ false → both (is_multiplexed_receive e) (covers e slot) ≡ false → both (is_multiplexed e.operation) (covers e slot) ≡ false
    out e unsent past =
        by_case (is_multiplexed e.operation)
        (λ m. both_false_right _ (both_false_next _ (receive_there e m unsent).1 past))
        (λ m. both_false_left _ m)

-- a slave sends where it is planned to, if it is awake
sends-there : (passed : Entry → Bool) (round slot : ℕ) (s : Slave) → is_there (sends_from passed round slot s) ≡ both (eqb s.asleep 0) (is_there (plans_from passed round slot s))
unfolding sends_from is_there both
sends-there passed round slot s = rw (awake-byte s) (by_case (is_awake s) (λ a. rw a) (λ a. rw a))

-- slave by slave, of any list
module _ (passed : Entry → Bool) (only : OnlyMultiplexed passed) (round slot : ℕ) where
  as_planned : (ss : List Slave) → some_entry_of is_multiplexed_send round ss ≡ false
      → AsPlanned round slot ss (map (λ (s : Slave). is_there (sends_from passed round slot s)) ss)
  unfolding some_entry_of
  as_planned [] none = claims.no_slaves
  as_planned (s ∷ ss) none =
      let unsent : some_entry is_multiplexed_send round s ≡ false = either_false_left _ _ none in
      next_slave (λ e. send-planned passed only round slot s unsent (both_right _ _ (sym (sends-there passed round slot s) ∙ e)))
      (λ awake free e. sends-there passed round slot s ∙ both_true (eq-eqb s.asleep 0 awake) (sends_free unsent free e)) (as_planned ss (either_false_right _ _ none))
    where
      sends_free : some_entry is_multiplexed_send round s ≡ false → may_receive round slot s ≡ false → sends_in round slot s ≡ true → is_there (plans_from passed round slot s) ≡ true
      sends_free unsent free e = ap is_there (plans_same passed only round slot s (uncovered round slot s unsent free)) ∙ (unfold sends_in in e)

-- ---- a slave whose 0x08 and round file are the same, with files of the same lengths, awake or asleep as it was

place-alike : (s t : Slave) → SameFiles s.files t.files → (slot : ℕ) (a : Acting) → send_place t slot a ≡ send_place s slot a
unfolding send_place within bytes_in
place-alike s t same slot no_entry = refl
place-alike s t same slot (acts e) = rw (files-bytes-length e.file same)

slave-alike : (passed : Entry → Bool) (s t : Slave) → SameFiles s.files t.files → (round slot : ℕ) → bytes_in t configuration ≡ bytes_in s configuration → bytes_in t round ≡ bytes_in s round
    → is_awake t ≡ is_awake s → sends_from passed round slot t ≡ sends_from passed round slot s
unfolding sends_from plans_from is_unnamed logical_name
slave-alike passed s t same round slot config rodl awake = rw (awake, config, rodl, place-alike s t same slot)

-- ---- all slaves

first-same : {A : Type 0} {a b : A} {xs ys : List A} → (a ∷ xs) ≡ (b ∷ ys) → a ≡ b
first-same e = cc

others_same : {A : Type 0} {a b : A} {xs ys : List A} → (a ∷ xs) ≡ (b ∷ ys) → xs ≡ ys
others_same e = cc

slaves-alike : (passed : Entry → Bool) {ss ts : List Slave} → SameShape ss ts → (round slot : ℕ) → files_of configuration ts ≡ files_of configuration ss → files_of round ts ≡ files_of round ss
    → map is_awake ts ≡ map is_awake ss → map (sends_from passed round slot) ts ≡ map (sends_from passed round slot) ss
unfolding files_of
slaves-alike passed no_slaves round slot config rodl awake = refl
slaves-alike passed (same_slave {s = s} {t = t} same rest) round slot config rodl awake =
    rw (
      slave-alike passed s t same round slot (first-same config) (first-same rodl) (first-same awake),
      slaves-alike passed rest round slot (others_same config) (others_same rodl) (others_same awake),
    )

map-after : {A B C : Type 0} (g : B → C) (f : A → B) (l : List A) → map (λ (a : A). g (f a)) l ≡ map g (map f l)
map-after g f [] = refl
map-after g f (a ∷ l) = ap (λ (r : List _). g (f a) ∷ r) (map-after g f l)

-- ---- how many send

trues : List Bool → ℕ
trues [] = 0
trues (true ∷ bs) = suc (trues bs)
trues (false ∷ bs) = trues bs

sent-one : (s : Slave) (p : SlaveByte) (rest : List ℕ) (bs : List Bool) → length rest ≡ trues bs → length (byte_there s p ++ rest) ≡ trues (is_there p ∷ bs)
unfolding byte_there is_there trues
sent-one s nowhere rest bs e = e
sent-one s (byte_of n k) rest bs e = ap suc e

sent-count : (passed : Entry → Bool) (round slot : ℕ) (ss : List Slave) → length (sent_by passed round slot ss) ≡ trues (map (λ (s : Slave). is_there (sends_from passed round slot s)) ss)
unfolding sent_by trues
sent-count passed round slot [] = refl
sent-count passed round slot (s ∷ ss) =
    sent-one s (sends_from passed round slot s) (sent_by passed round slot ss) (map (λ (t : Slave). is_there (sends_from passed round slot t)) ss) (sent-count passed round slot ss)

plan_one : (s : Slave) (sends : Bool) (rest : List Slave) (bs : List Bool) → length rest ≡ trues bs → length (cond sends (s ∷ rest) rest) ≡ trues (sends ∷ bs)
unfolding trues
plan_one s true rest bs e = ap suc e
plan_one s false rest bs e = e

plan_count : (round slot : ℕ) (ss : List Slave) → length (senders_among round slot ss) ≡ trues (map (sends_in round slot) ss)
unfolding senders_among trues
plan_count round slot [] = refl
plan_count round slot (s ∷ ss) = plan_one s (sends_in round slot s) (senders_among round slot ss) (map (sends_in round slot) ss) (plan_count round slot ss)

-- those of them that are awake
awake-count : (round slot : ℕ) (ss : List Slave) → length (awake_among (senders_among round slot ss)) ≡ trues (map (λ (s : Slave). both (eqb s.asleep 0) (sends_in round slot s)) ss)
unfolding senders_among awake_among trues
awake-count round slot [] = refl
awake-count round slot (s ∷ ss) =
    by_case (sends_in round slot s)
    (λ p.
    by_case (eqb s.asleep 0)
    (λ a.
    let here : both (eqb s.asleep 0) (sends_in round slot s) ≡ true = both_true a p in
    rw (here, p, a) (ap suc (awake-count round slot ss)))
    (λ a. let none : both (eqb s.asleep 0) (sends_in round slot s) ≡ false = both_false_left _ a in rw (none, p, a) (awake-count round slot ss)))
    (λ p. let none : both (eqb s.asleep 0) (sends_in round slot s) ≡ false = both_false_right _ p in rw (none, p) (awake-count round slot ss))

-- no more send than are planned
fewer-one : (p q : Bool) (ps qs : List Bool) → (p ≡ true → q ≡ true) → trues ps ≤ trues qs → trues (p ∷ ps) ≤ trues (q ∷ qs)
unfolding trues
fewer-one false false ps qs follows l = l
fewer-one false true ps qs follows l = omega arith
fewer-one true false ps qs follows l = clash (follows refl) refl
fewer-one true true ps qs follows l = omega arith

count-few : {round slot : ℕ} {ss : List Slave} {bs : List Bool} → AsPlanned round slot ss bs → trues bs ≤ trues (map (sends_in round slot) ss)
unfolding trues
count-few claims.no_slaves = omega arith
count-few {round} {slot} (next_slave {s = s} {sends = b} {ss = ss} {others = bs} p q rest) =
    fewer-one b (sends_in round slot s) bs (map (sends_in round slot) ss) p (count-few rest)

-- ---- the round as it runs

module _ (c : Cluster) (round : ℕ) (few : round < rounds) (slot : ℕ) where
  abbrev running : Cluster
  running = cluster_below (passed_over_lem c) round (epoch_raised c) slot

  alike : map (sends_from (passed_over_lem c) round slot) running.slaves ≡ map (sends_from (passed_over_lem c) round slot) c.slaves
  unfolding epoch_raised with_epoch
  alike =
      slaves-alike (passed_over_lem c) (kept-below (passed_over_lem c) round (epoch_raised c) slot).shape round slot
      (below_other (passed_over_lem c) round (epoch_raised c) slot configuration (λ l. absurd (omega arith)))
      (below_other (passed_over_lem c) round (epoch_raised c) slot round (λ l. absurd (omega arith)))
      (below-awake (passed_over_lem c) round (epoch_raised c) slot)

  runs-alike : sends_as_run c round slot ≡ map (λ (s : Slave). is_there (sends_from (passed_over_lem c) round slot s)) c.slaves
  unfolding sends_as_run
  runs-alike =
      map-after is_there (sends_from (passed_over_lem c) round slot) running.slaves
      ∙ (ap (map is_there) alike ∙ sym (map-after is_there (sends_from (passed_over_lem c) round slot) c.slaves))

  runs_as_planned : some_entry_of is_multiplexed_send round c.slaves ≡ false → AsPlanned round slot c.slaves (sends_as_run c round slot)
  runs_as_planned none = rw runs-alike (as_planned (passed_over_lem c) (round-only c) round slot c.slaves none)

-- who sends, counted; nobody does in slot 0
runs-count : (c : Cluster) (round slot : ℕ) → length (sent_as_run c round (suc slot)) ≡ trues (sends_as_run c round (suc slot))
unfolding sent_as_run sent_during sent_in sends_as_run
runs-count c round slot = sent-count (passed_over_lem c) round (suc slot) (cluster_below (passed_over_lem c) round (epoch_raised c) (suc slot)).slaves

runs-few : (c : Cluster) (round : ℕ) → round < rounds → some_entry_of is_multiplexed_send round c.slaves ≡ false → (slot : ℕ)
    → length (sent_as_run c round (suc slot)) ≤ length (senders_among round (suc slot) c.slaves)
runs-few c round few none slot =
    omega (arith, runs-count c round slot, plan_count round (suc slot) c.slaves, count-few (runs_as_planned c round few (suc slot) none))

pub no_length : {A : Type 0} (l : List A) → length l ≡ 0 → l ≡ []
no_length [] e = refl
no_length (a ∷ l) e = absurd (omega (arith, e))

trues_none : (m : ℕ) → trues (replicate m false) ≡ 0
unfolding trues
trues_none zero = refl
trues_none (suc m) = trues_none m

trues_at : (n m : ℕ) (b : Bool) → trues (replicate n false ++ b ∷ replicate m false) ≡ cond b 1 0
unfolding trues
trues_at zero m true = ap suc (trues_none m)
trues_at zero m false = trues_none m
trues_at (suc n) m b = trues_at n m b

-- ---- one sender

-- a slave is the only one of a list that is planned
record Only (round slot : ℕ) (ss : List Slave) (who : Slave) : Type 0 where
  pub before : List Slave
  pub after : List Slave
  pub stands : ss ≡ before ++ who ∷ after
  pub only : map (sends_in round slot) ss ≡ replicate (length before) false ++ true ∷ replicate (length after) false

empty_full : {P A : Type 0} {a : A} {l : List A} → (a ∷ l) ≡ [] → P
empty_full e = let z : ◌≡◌ {A = ℕ} 0 1 = cc in absurd (omega arith)

none-sends : (round slot : ℕ) (ss : List Slave) → senders_among round slot ss ≡ [] → map (sends_in round slot) ss ≡ replicate (length ss) false
unfolding senders_among
none-sends round slot [] e = refl
none-sends round slot (s ∷ ss) e =
    by_case (sends_in round slot s) (λ q. empty_full (rw q at e)) (λ q. rw (q, none-sends round slot ss (rw q at e)))

one-sends : (round slot : ℕ) (ss : List Slave) (who : Slave) → senders_among round slot ss ≡ (who ∷ []) → Only round slot ss who
unfolding senders_among
one-sends round slot [] who e = empty_full (sym e)
one-sends round slot (s ∷ ss) who e =
    by_case (sends_in round slot s)
    (λ q.
    let here : (s ∷ senders_among round slot ss) ≡ (who ∷ []) = rw q at e in
    record { before = []; after = ss; stands = rw (first-same here); only = rw (q, none-sends round slot ss (others_same here)) })
    (λ q. later q (one-sends round slot ss who (rw q at e)))
  where
    later : sends_in round slot s ≡ false → Only round slot ss who → Only round slot (s ∷ ss) who
    later q o =
        record {
          before = s ∷ o.before;
          after = o.after;
          stands = ap (λ (l : List Slave). s ∷ l) o.stands;
          only = rw (q, o.only);
        }

-- a planned slave of a list with fewer than two is alone
sender_alone : (round slot : ℕ) (before after : List Slave) (s : Slave) → sends_in round slot s ≡ true → length (senders_among round slot (before ++ s ∷ after)) < 2
    → senders_among round slot (before ++ s ∷ after) ≡ (s ∷ [])
unfolding senders_among
sender_alone round slot [] after s e few =
    let one : length (s ∷ senders_among round slot after) < 2 = rw e at few in
    rw (e, no_length (senders_among round slot after) (omega arith))
sender_alone round slot (b ∷ before) after s e few =
    by_case (sends_in round slot b)
    (λ q.
    let two : length (b ∷ senders_among round slot (before ++ s ∷ after)) < 2 = rw q at few in
    let alone : senders_among round slot (before ++ s ∷ after) ≡ (s ∷ []) = sender_alone round slot before after s e (omega arith) in
    absurd (omega (arith, ap length alone)))
    (λ q. rw q (sender_alone round slot before after s e (rw q at few)))

-- who sends by its place in the list is planned
planned-there : {round slot : ℕ} (before after : List Slave) (s : Slave) {bs : List Bool} → AsPlanned round slot (before ++ s ∷ after) bs
    → get_or bs (length before) false ≡ true → sends_in round slot s ≡ true
planned-there [] after s (next_slave p q rest) e = p e
planned-there (b ∷ before) after s (next_slave p q rest) e = planned-there before after s rest e

-- where nobody is planned nobody sends, and where one is, that one alone may
silent_one : (b : Bool) {planned : Bool} → (b ≡ true → planned ≡ true) → planned ≡ false → b ≡ false
silent_one false follows e = refl
silent_one true follows e = clash (follows refl) e

silent_all : {round slot : ℕ} {ss : List Slave} {bs : List Bool} → AsPlanned round slot ss bs → map (sends_in round slot) ss ≡ replicate (length ss) false → bs ≡ replicate (length ss) false
silent_all claims.no_slaves e = refl
silent_all (next_slave {sends = b} p q rest) e = rw (silent_one b p (first-same e), silent_all rest (others_same e))

heads_same : {a b : Bool} {xs ys : List Bool} → a ≡ b → xs ≡ ys → (a ∷ xs) ≡ (b ∷ ys)
heads_same p q = cc

record OneMay (round slot : ℕ) (before after : List Slave) (s : Slave) (bs : List Bool) : Type 0 where
  pub sends : Bool
  pub others : bs ≡ replicate (length before) false ++ sends ∷ replicate (length after) false
  pub does : s.asleep ≡ 0 → may_receive round slot s ≡ false → sends ≡ true

one-may : {round slot : ℕ} (before after : List Slave) (s : Slave) {bs : List Bool} → AsPlanned round slot (before ++ s ∷ after) bs
    → map (sends_in round slot) (before ++ s ∷ after) ≡ replicate (length before) false ++ true ∷ replicate (length after) false → OneMay round slot before after s bs
one-may [] after s (next_slave {sends = b} p q rest) e =
    record { sends = b; others = ap (λ (l : List Bool). b ∷ l) (silent_all rest (others_same e)); does = λ awake free. q awake free (first-same e) }
one-may (x ∷ before) after s (next_slave {sends = b} p q rest) e =
    let o = one-may before after s rest (others_same e) in
    record { sends = o.sends; others = heads_same (silent_one b p (first-same e)) o.others; does = o.does }

-- ---- the owners

none_below : (test : ℕ → Bool) (n : ℕ) → some_below test n ≡ false → (k : ℕ) → k < n → test k ≡ false
unfolding some_below
none_below test zero e k l = absurd (omega arith)
none_below test (suc n) e k l =
    by_case (eqb k n)
    (λ q. let same : k ≡ n = eqb-true k n q in rw same (either_false_right _ _ e))
    (λ q. none_below test n (either_false_left _ _ e) k (below (eqb-false k n q)))
  where
    below : (k ≡ n → ⊥) → k < n
    below other = omega arith

few-senders : (ss : List Slave) → two_send ss ≡ false → (round : ℕ) → round < rounds → is_owned round ≡ true → (slot : ℕ) → slot < slots → length (senders_in round slot ss) < 2
few-senders ss one round few owned slot l =
    leb-false 2 (length (senders_in round slot ss)) (none_below (λ (k : ℕ). leb 2 (length (senders_in round k ss))) slots in_round slot l)
  where
    there : both (is_owned round) (two_send_in round ss) ≡ false
    there = none_below (λ (k : ℕ). both (is_owned k) (two_send_in k ss)) rounds (unfold two_send in one) round few

    in_round : some_below (λ (k : ℕ). leb 2 (length (senders_in round k ss))) slots ≡ false
    in_round = unfold two_send_in in both_false_next _ owned there

-- 23 in the round that it is about
none_multiplexed : (ss : List Slave) → multiplexed_send ss ≡ false → (round : ℕ) → round < rounds → is_owned round ≡ true → some_entry_of is_multiplexed_send round ss ≡ false
none_multiplexed ss none round few owned =
    both_false_next _ owned (none_below (λ (k : ℕ). both (is_owned k) (some_entry_of is_multiplexed_send k ss)) rounds (unfold multiplexed_send in none) round few)

pub send_as_planned : SendAsPlanned
send_as_planned c none round few owned slot some l = runs_as_planned c round few slot (none_multiplexed c.slaves none round few owned)

pub count_as_planned : CountAsPlanned
unfolding sent_as_run sent_during sent_in senders_in
count_as_planned c none round few owned zero = omega arith
count_as_planned c none round few owned (suc slot) = runs-few c round few (none_multiplexed c.slaves none round few owned) slot

-- one that is planned and awake, and of which no multiplexed receive covers the slot, is counted
first-counts : (b : Bool) (bs : List Bool) → b ≡ true → 1 ≤ trues (b ∷ bs)
unfolding trues
first-counts true bs e = omega arith
first-counts false bs e = clash e refl

next-counts : (b : Bool) (bs : List Bool) → 1 ≤ trues bs → 1 ≤ trues (b ∷ bs)
unfolding trues
next-counts true bs l = omega arith
next-counts false bs l = l

planned-counts : {round slot : ℕ} (before after : List Slave) (s : Slave) {bs : List Bool} → AsPlanned round slot (before ++ s ∷ after) bs
    → s.asleep ≡ 0 → may_receive round slot s ≡ false → sends_in round slot s ≡ true → 1 ≤ trues bs
planned-counts [] after s (next_slave {sends = b} {others = bs} p q rest) awake free e = first-counts b bs (q awake free e)
planned-counts (x ∷ before) after s (next_slave {sends = b} {others = bs} p q rest) awake free e = next-counts b bs (planned-counts before after s rest awake free e)

pub someone-sends : (c : Cluster) → multiplexed_send c.slaves ≡ false → (round : ℕ) → round < rounds → is_owned round ≡ true → (slot : ℕ) → 0 < slot → slot < slots
    → (before after : List Slave) (s : Slave) → c.slaves ≡ before ++ s ∷ after → s.asleep ≡ 0 → sends_in round slot s ≡ true → may_receive round slot s ≡ false
    → sent_as_run c round slot ≡ [] → ⊥
someone-sends c none round few owned zero some l before after s stands awake e free silent = omega arith
someone-sends c none round few owned (suc slot) some l before after s stands awake e free silent =
    let planned : AsPlanned round (suc slot) (before ++ s ∷ after) (sends_as_run c round (suc slot)) =
    subst (λ (l : List Slave). AsPlanned round (suc slot) l (sends_as_run c round (suc slot))) stands (send_as_planned c none round few owned (suc slot) some l)
    in
    omega (arith, runs-count c round slot, planned-counts before after s planned awake free e, ap length silent)

-- a slot with a sender is not past the last
last-listed : (round : ℕ) (ss : List Slave) (slot : ℕ) → (length (senders_in round slot ss) ≡ 0 → ⊥) → (n : ℕ) → slot ≤ n → slot ≤ last_owned round ss n
unfolding last_owned
last-listed round ss slot some zero l = l
last-listed round ss slot some (suc n) l =
    by_case (eqb slot (suc n))
    (λ e. let same : slot ≡ suc n = eqb-true slot (suc n) e in rw (ne_eqb (length (senders_in round (suc n) ss)) 0 (here same)) l)
    (λ e.
    by_case (eqb (length (senders_in round (suc n) ss)) 0)
    (λ q. rw q (last-listed round ss slot some n (below (eqb-false slot (suc n) e))))
    (λ q. rw q l))
  where
    here : slot ≡ suc n → length (senders_in round (suc n) ss) ≡ 0 → ⊥
    here same none = some (rw same none)

    below : (slot ≡ suc n → ⊥) → slot ≤ n
    below other = omega arith

-- the one planned is the owner
alone_owns : (ss : List Slave) (master round slot : ℕ) (s : Slave) → senders_among round (suc slot) ss ≡ (s ∷ []) → suc slot < slots → OwnsSlot ss master round (suc slot) s
unfolding owner_of name_of senders_in
alone_owns ss master round slot s alone l =
    record {
      listed = last-listed round ss (suc slot) some (slots - 1) (omega arith);
      owner = ap name_of alone;
    }
  where
    some : length (senders_in round (suc slot) ss) ≡ 0 → ⊥
    some z = let one : length (senders_in round (suc slot) ss) ≡ 1 = unfold senders_in in ap length alone in omega arith

pub sender_owns : SenderOwns
sender_owns c none one master round few owned zero some l before after s stands e = absurd (omega arith)
sender_owns c none one master round few owned (suc slot) some l before after s stands e =
    alone_owns c.slaves master round slot s
    (rw stands (sender_alone round (suc slot) before after s (planned-there before after s planned e) (rw stands at fewer))) l
  where
    planned : AsPlanned round (suc slot) (before ++ s ∷ after) (sends_as_run c round (suc slot))
    planned = subst (λ (l : List Slave). AsPlanned round (suc slot) l (sends_as_run c round (suc slot))) stands (send_as_planned c none round few owned (suc slot) some l)

    fewer : length (senders_among round (suc slot) c.slaves) < 2
    fewer = unfold senders_in in few-senders c.slaves one round few owned (suc slot) l

-- what the plan's senders in a slot, none or one, say of the round as it runs
module _ (c : Cluster) (round : ℕ) (few : round < rounds) (none : some_entry_of is_multiplexed_send round c.slaves ≡ false) (slot : ℕ) where
  by_senders : (xs : List Slave) → senders_among round (suc slot) c.slaves ≡ xs → length xs < 2 → OwnerRuns c round (suc slot) (name_of xs)
  unfolding name_of
  by_senders [] e small = nobody_sends (no_length (sent_as_run c round (suc slot)) (omega (arith, runs-few c round few none slot, ap length e)))
  by_senders (x ∷ []) e small =
      let o : Only round (suc slot) c.slaves x = one-sends round (suc slot) c.slaves x e in
      let stands : c.slaves ≡ o.before ++ x ∷ o.after = o.stands in
      let may : OneMay round (suc slot) o.before o.after x (sends_as_run c round (suc slot)) =
      one-may o.before o.after x (subst (λ (l : List Slave). AsPlanned round (suc slot) l (sends_as_run c round (suc slot))) stands (runs_as_planned c round few (suc slot) none))
      (ap (map (sends_in round (suc slot))) (sym stands) ∙ o.only)
      in
      one_may_send o.before o.after x may.sends stands
      (runs-count c round slot ∙ (ap trues may.others ∙ trues_at (length o.before) (length o.after) may.sends)) may.others may.does
  by_senders (x ∷ y ∷ xs) e small = absurd (omega arith)

-- where 20 does not hold, and 23 not in this round
owner_in_round : (c : Cluster) → two_send c.slaves ≡ false → (master round : ℕ) → round < rounds → is_owned round ≡ true → some_entry_of is_multiplexed_send round c.slaves ≡ false
    → (slot : ℕ) → 0 < slot → slot < slots → OwnerRuns c round slot (owner_of master round c.slaves slot)
unfolding owner_of senders_in
owner_in_round c one master round few owned none zero some l = absurd (omega arith)
owner_in_round c one master round few owned none (suc slot) some l =
    by_senders c round few none slot (senders_among round (suc slot) c.slaves) refl (few-senders c.slaves one round few owned (suc slot) l)

pub owners-run : OwnersRun
owners-run c none one master round few owned slot some l =
    owner_in_round c one master round few owned (none_multiplexed c.slaves none round few owned) slot some l

-- ---- without multiplexed entries

module _ (round : ℕ) where
  abbrev multiplexed : Entry → Bool
  multiplexed e = is_multiplexed e.operation

  -- there is no multiplexed send, and no multiplexed entry that covers a slot
  plain_unsent : (s : Slave) → some_entry multiplexed round s ≡ false → some_entry is_multiplexed_send round s ≡ false
  plain_unsent s e = none-entry multiplexed multiplexed is_multiplexed_send (λ x p q. unfold is_multiplexed_send in both_false_left _ p) round s e e

  plain_none : (ss : List Slave) → some_entry_of multiplexed round ss ≡ false → some_entry_of is_multiplexed_send round ss ≡ false
  unfolding some_entry_of
  plain_none [] e = refl
  plain_none (s ∷ ss) e = rw (plain_unsent s (either_false_left _ _ e), plain_none ss (either_false_right _ _ e)) (unfold either in refl)

  plain_free : (slot : ℕ) (before after : List Slave) (s : Slave) → some_entry_of multiplexed round (before ++ s ∷ after) ≡ false → may_receive round slot s ≡ false
  unfolding may_receive some_entry_of
  plain_free slot [] after s e =
      none-entry multiplexed multiplexed (λ (x : Entry). both (is_multiplexed_receive x) (covers x slot))
      (λ x p q. both_false_left _ (unfold is_multiplexed_receive in both_false_left _ p)) round s (either_false_left _ _ e) (either_false_left _ _ e)
  plain_free slot (b ∷ before) after s e = plain_free slot before after s (either_false_right _ _ e)

  plain_plans : (passed : Entry → Bool) → OnlyMultiplexed passed → (slot : ℕ) (ss : List Slave) → some_entry_of multiplexed round ss ≡ false
      → map (λ (s : Slave). is_there (sends_from passed round slot s)) ss ≡ map (λ (s : Slave). both (eqb s.asleep 0) (sends_in round slot s)) ss
  unfolding some_entry_of sends_in
  plain_plans passed only slot [] e = refl
  plain_plans passed only slot (s ∷ ss) e = rw (sends-there passed round slot s, plans_same passed only round slot s out, plain_plans passed only slot ss (either_false_right _ _ e))
    where
      out : some_entry (λ (x : Entry). both (is_multiplexed x.operation) (covers x slot)) round s ≡ false
      out =
          none-entry multiplexed multiplexed (λ (x : Entry). both (is_multiplexed x.operation) (covers x slot)) (λ x p q. both_false_left _ p) round s
          (either_false_left _ _ e) (either_false_left _ _ e)

plain_alike : (c : Cluster) (round : ℕ) → round < rounds → Plain c round → (slot : ℕ) → sends_as_run c round slot ≡ map (λ (s : Slave). both (eqb s.asleep 0) (sends_in round slot s)) c.slaves
plain_alike c round few plain slot = runs-alike c round few slot ∙ plain_plans round (passed_over_lem c) (round-only c) slot c.slaves plain

pub plain_as_planned : PlainAsPlanned
plain_as_planned c round few plain slot some l = plain_alike c round few plain slot

pub plain_count_as_planned : PlainCountAsPlanned
unfolding sent_as_run sent_during sent_in senders_in awake_among
plain_count_as_planned c round few plain zero = refl
plain_count_as_planned c round few plain (suc slot) =
    runs-count c round slot ∙ (ap trues (plain_alike c round few plain (suc slot)) ∙ sym (awake-count round (suc slot) c.slaves))

-- what stands behind so many of a list
at_length : (f : Slave → Bool) (before after : List Slave) (s : Slave) (b : Bool) (rest : List Bool) → replicate (length before) false ++ b ∷ rest ≡ map f (before ++ s ∷ after) → b ≡ f s
at_length f [] after s b rest e = first-same e
at_length f (x ∷ before) after s b rest e = at_length f before after s b rest (others_same e)

-- request 4's theorem, by the one above: the owner sends if it is awake, since no multiplexed receive of its covers the slot
plain_owner : (c : Cluster) (round : ℕ) → round < rounds → Plain c round → (slot : ℕ) {owner : ℕ} → OwnerRuns c round (suc slot) owner → PlainOwnerRuns c round (suc slot) owner
plain_owner c round few plain slot (nobody_sends e) = none_sends e
plain_owner c round few plain slot (one_may_send before after s sends stands most is does) =
    let does-as : Slave → Bool = λ (x : Slave). both (eqb x.asleep 0) (sends_in round (suc slot) x) in
    let here : sends ≡ both (eqb s.asleep 0) (sends_in round (suc slot) s) =
    at_length does-as before after s sends (replicate (length after) false) (sym is ∙ plain_alike c round few plain (suc slot) ∙ ap (map does-as) stands)
    in
    let own : sends ≡ eqb s.asleep 0 =
    by_case (eqb s.asleep 0)
    (λ a. does (eqb-true s.asleep 0 a) (plain_free round (suc slot) before after s (rw stands at plain)) ∙ sym a)
    (λ a. here ∙ (both_false_left _ a ∙ sym a))
    in
    let one : sends_as_run c round (suc slot) ≡ replicate (length before) false ++ eqb s.asleep 0 ∷ replicate (length after) false = rw own at is in
    one_sends before after s stands (rw own at most) one

pub plain_owners-run : PlainOwnersRun
plain_owners-run c one master round few owned plain zero some l = absurd (omega arith)
plain_owners-run c one master round few owned plain (suc slot) some l =
    plain_owner c round few plain slot (owner_in_round c one master round few owned (plain_none round c.slaves plain) (suc slot) some l)
