-- The slots in which one slave sends, entry by entry; and its name put into a row.
-- Assumes nothing.
use Rattle.std.proofs.Common.{ℕ, zero, suc, ◌+◌, ◌-◌, ◌/◌, ◌^◌, ◌≤◌, ◌<◌, arith, ◌≡◌, refl, sym, ap, ◌∙◌, subst, List, Bool, true, false, not, cond, length, get_or, set, length-set, get_or-set_same, get_or-set_other, eqb, eq-eqb, ne_eqb, eqb-true, ltb-true}
use lib.Bits.{bit_and, and_le_l}
use borrow.Author.Tests.{eqb-false}
use Rattle.file.specs.Rules.Order.{both, either}
use Rattle.file.specs.Rules.Layout.{record_size}
use Rattle.file.specs.Rules.Cluster.{Slave, bytes_in}
use Rattle.file.specs.Rules.Decode.{decode}
use Rattle.file.specs.Inner.Places.{slave_of}
use Rattle.file.specs.Inner.Accepted.{AcceptedFile, slave_count}
use Rattle.file.specs.Inner.Typed.{file_in}
use Rattle.file.specs.declared.types.FileNumber.{FileNumber}
use Rattle.file.proofs.Order.{by_case, both_left, both_right, both_false_left, both_false_right}
use Rattle.file.proofs.ReaderLaws.{length_limit}
use Rattle.master_slave.specs.Rules.Bus.{slots}
use Rattle.master_slave.specs.Rules.Slaves.{is_unnamed}
use Rattle.multipartner.specs.Rules.Entries.{Entry, entry_of, entry_there, entry_at, is_multiplexed, ends, covers, sends, eligible, Acting, no_entry, acts, acting_from}
use Rattle.multipartner.specs.Rules.Multipartner.{within, send_place}
use Rattle.multipartner.specs.Inner.EntryForm.{file_numbers}
use Rattle.multipartner.specs.Inner.Slots.{PlannedFileIs, planned_entries}
use Rattle.multipartner.proofs.EntryLaws.{sends_deaf}
use Rattle.multipartner.proofs.OpenLaws.{acting-end, acting-none, planned-few, RestOf, rest-start, rest-within, rest-next, rest-entry}
use Rattle.multipartner.proofs.SearchLaws.{planned-sends}
use Rattle.owner.specs.Rules.Plan.{is_multiplexed_receive, is_there, sends_in, some_entry_from, some_entry, is_multiplexed_send}
use Rattle.owner.specs.Inner.Masks.{is_set}
use Rattle.owner.specs.Inner.OwnerEntries.{is_single, Kept, would_send, EntryOf, hidden_with, sends_with, EntryTaken}
use Rattle.owner.specs.declared.entries.SlavePlan.{SlavePlan}
use Rattle.owner.specs.Inner.Planned.{planned_in, SlavePlanned, OwnerPut}
use Rattle.owner.proofs.MaskLaws.{either_false, both-all, set-none, set_first, set-later, FirstIs}

-- ---- the acting entry, by the slots that are covered

there-acts : (s : Slave) (x : Entry) (slot : ℕ) → is_there (send_place s slot (acts x)) ≡ both (sends x.operation) (within s x slot)
unfolding send_place is_there
there-acts s x slot = by_case (both (sends x.operation) (within s x slot)) (λ e. rw e) (λ e. rw e)

there-none : (s : Slave) (slot : ℕ) → is_there (send_place s slot no_entry) ≡ false
unfolding send_place is_there
there-none s slot = refl

-- what an entry leaves to those after it
left_over : (sent hidden cover send rest : Bool)
    → either sent (both (not hidden) (cond cover send rest)) ≡ either (either sent (both (both cover send) (not hidden))) (both (not (either hidden cover)) rest)
unfolding either both
left_over true h c s r = refl
left_over false true true true r = refl
left_over false true true false r = refl
left_over false true false s r = refl
left_over false false true true r = refl
left_over false false true false r = refl
left_over false false false s r = refl

either-none : (a b : Bool) → either a (both b false) ≡ a
unfolding either both
either-none true b = refl
either-none false true = refl
either-none false false = refl

-- ---- an entry before the end that passes a test, record by record

module _ (test : Entry → Bool) (rodl : List ℕ) (k : ℕ) where
  some-none : (n : ℕ) → n ≡ 0 → some_entry_from test rodl k n ≡ false
  unfolding some_entry_from
  some-none n e = rw e

  some_end : (n : ℕ) → 0 < n → ends (entry_at rodl k).operation ≡ true → some_entry_from test rodl k n ≡ false
  unfolding some_entry_from
  some_end zero l e = absurd (omega arith)
  some_end (suc n) l e = rw e

  some_next : {n m : ℕ} → n ≡ suc m → ends (entry_at rodl k).operation ≡ false
      → some_entry_from test rodl k n ≡ either (test (entry_at rodl k)) (some_entry_from test rodl (suc k) m)
  unfolding some_entry_from
  some_next more e = rw (more, e)

-- an unnamed slave runs no entries
some_runs : (test : Entry → Bool) (round : ℕ) (s : Slave) → some_entry test round s ≡ some_entry_from test (bytes_in s round) 1 (planned_entries round s)
unfolding some_entry planned_entries some_entry_from both
some_runs test round s = by_case (is_unnamed s) (λ t. rw t) (λ t. rw t)

either_more : (a b c : Bool) → either a (either b c) ≡ either (either a b) c
unfolding either
either_more true b c = refl
either_more false b c = refl

-- ---- the entries that are passed over

-- who sends is not passed over
covered_sends : (x : Entry) (slot : ℕ) (inside : Bool)
    → both (covers x slot) (both (sends x.operation) inside) ≡ both (eligible is_multiplexed_receive x slot) (both (sends x.operation) inside)
covered_sends x slot inside =
    by_case (sends x.operation)
    (λ t. ap (λ (b : Bool). both b (both (sends x.operation) inside)) (sym (taken t)))
    (λ t. both_false_right _ (both_false_left _ t) ∙ sym (both_false_right _ (both_false_left _ t)))
  where
    taken : sends x.operation ≡ true → eligible is_multiplexed_receive x slot ≡ covers x slot
    taken t = unfold eligible is_multiplexed_receive in rw (both_false_right (is_multiplexed x.operation) (sends_deaf x.operation t)) (both-all (covers x slot))

-- an operation below the ends is none
low_goes : (n : ℕ) → n < 6 → ends n ≡ false
unfolding ends either
low_goes n l = rw (ne_eqb n 6 (λ e. omega (arith, e)), ne_eqb n 7 (λ e. omega (arith, e)))

-- with the entries that are left from record k on: a slot is planned if it is so already, or no entry so far hides it and the one that
-- acts among those that are left sends there; and there is a multiplexed send if one was found already, or is left
pub record Planning (f : List ℕ) (round s covered planned : ℕ) (multiplexed : Bool) (at end : ℕ) : Type 0 where
  pub becomes : AcceptedFile f
  pub k : ℕ
  pub left : ℕ
  pub rest : RestOf (decode f) round s (planned_entries round (slave_of (decode f) s)) k left at end
  pub same : (slot : ℕ) → slot < slots
      → planned_in round (slave_of (decode f) s) slot
      ≡ either (is_set planned slot)
      (both (not (is_set covered slot)) (is_there (send_place (slave_of (decode f) s) slot (acting_from is_multiplexed_receive (bytes_in (slave_of (decode f) s) round) slot k left))))
  pub sought : some_entry is_multiplexed_send round (slave_of (decode f) s) ≡ either multiplexed (some_entry_from is_multiplexed_send (bytes_in (slave_of (decode f) s) round) k left)

pub planning_start : {f : List ℕ} {round s start end : ℕ} → AcceptedFile f → PlannedFileIs (decode f) round s start end → Planning f round s 1 0 false start end
planning_start {f} {round} {s} h is =
    record {
      becomes = h;
      k = 1;
      left = planned_entries round (slave_of (decode f) s);
      rest = rest-start (planned-few round (slave_of (decode f) s)) is;
      same = first;
      sought = unfold either in some_runs is_multiplexed_send round (slave_of (decode f) s);
    }
  where
    first : (slot : ℕ) → slot < slots
        → planned_in round (slave_of (decode f) s) slot
        ≡ either (is_set 0 slot)
        (both (not (is_set 1 slot))
        (is_there (send_place (slave_of (decode f) s) slot (acting_from is_multiplexed_receive (bytes_in (slave_of (decode f) s) round) slot 1 (planned_entries round (slave_of (decode f) s))))))
    first zero l = unfold planned_in either both in rw (set-none 0, set_first)
    first (suc slot) l =
        unfold planned_in sends_in either both in
        rw (set-none (suc slot), set-later (suc slot) (omega arith))
        (ap is_there (sym (planned-sends is_multiplexed_receive round (suc slot) (slave_of (decode f) s))))

module _ {f : List ℕ} {round s covered planned : ℕ} {multiplexed : Bool} {at end : ℕ} (h : Planning f round s covered planned multiplexed at end) where
  abbrev rodl : List ℕ
  rodl = bytes_in (slave_of (decode f) s) round

  abbrev own : Slave
  own = slave_of (decode f) s

  -- nothing acts among the entries that are left
  planned-all : ((slot : ℕ) → acting_from is_multiplexed_receive rodl slot h.k h.left ≡ no_entry) → some_entry_from is_multiplexed_send rodl h.k h.left ≡ false
      → SlavePlanned round own planned multiplexed
  planned-all none nought =
      record {
        slots =
            record {
              each = λ slot l.
                  sym (h.same slot l
                  ∙ ap (λ (x : Bool). either (is_set planned slot) (both (not (is_set covered slot)) x))
                  (ap (λ (a : Acting). is_there (send_place own slot a)) (none slot) ∙ there-none own slot)
                  ∙ either-none (is_set planned slot) (not (is_set covered slot)));
            };
        multiplexes = sym (h.sought ∙ (ap (either multiplexed) nought ∙ either_false multiplexed));
      }

  pub planning_done : end ≤ at → SlavePlanned round own planned multiplexed
  planning_done over =
      let nought : h.left ≡ 0 = omega (arith, h.rest.span) in
      planned-all (λ slot. acting-none is_multiplexed_receive rodl slot h.k h.left nought) (some-none is_multiplexed_send rodl h.k h.left nought)

  module _ (more : at < end) where
    some_left : 0 < h.left
    some_left = omega (arith, h.rest.span)

    pub entry-within : at + record_size ≤ length f
    entry-within = let inside = rest-within h.becomes h.rest in omega (arith, inside.within, inside.whole)

    pub entry-low : at < 2 ^ 32
    entry-low = omega (arith, entry-within, length_limit h.becomes)

    same-entry : entry_there f at ≡ entry_at rodl h.k
    same-entry = rest-entry h.becomes h.rest some_left

    operation-there : get_or f (at + 2) 0 / 16 ≡ (entry_at rodl h.k).operation
    unfolding entry_there entry_of
    operation-there = ap (λ (x : Entry). x.operation) same-entry

    module _ {t : Bool} (is : t ≡ ends (get_or f (at + 2) 0 / 16)) where
      ends_there : t ≡ ends (entry_at rodl h.k).operation
      ends_there = is ∙ ap ends operation-there

      pub planning_end : t ≡ true → SlavePlanned round own planned multiplexed
      planning_end stop =
          let stops = sym ends_there ∙ stop in
          planned-all (λ slot. acting-end is_multiplexed_receive rodl slot h.k h.left some_left stops)
          (some_end is_multiplexed_send rodl h.k h.left some_left stops)

    -- the entry that acts is this one where it is eligible, else one of those after it
    acts-next : {n : ℕ} → h.left ≡ suc n → ends (entry_at rodl h.k).operation ≡ false → (slot : ℕ)
        → is_there (send_place own slot (acting_from is_multiplexed_receive rodl slot h.k h.left))
        ≡ cond (eligible is_multiplexed_receive (entry_at rodl h.k) slot) (both (sends (entry_at rodl h.k).operation) (within own (entry_at rodl h.k) slot))
        (is_there (send_place own slot (acting_from is_multiplexed_receive rodl slot (suc h.k) n)))
    unfolding acting_from
    acts-next fewer goes slot =
        rw (fewer, goes)
        (by_case (eligible is_multiplexed_receive (entry_at rodl h.k) slot) (λ c. rw c (there-acts own (entry_at rodl h.k) slot)) (λ c. rw c))

    -- after an entry that is no end
    pub planning_next : {u : Bool} {hidden sent number size : ℕ} → ends (entry_at rodl h.k).operation ≡ false
        → EntryTaken own (entry_there f at) covered planned multiplexed hidden sent u number size → Planning f round s hidden sent u (at + 4) end
    planning_next {u} {hidden} {sent} {number} {size} goes_on_lem before =
        let fewer : h.left ≡ suc (h.left - 1) = omega (arith, some_left) in
        record {
          becomes = h.becomes;
          k = suc h.k;
          left = h.left - 1;
          rest = rest-next h.becomes h.rest fewer;
          same = λ slot l.
              h.same slot l
              ∙ ap (λ (x : Bool). either (is_set planned slot) (both (not (is_set covered slot)) x)) (acts-next fewer goes_on_lem slot)
              ∙ left_over (is_set planned slot) (is_set covered slot) (eligible is_multiplexed_receive (entry_at rodl h.k) slot)
              (both (sends (entry_at rodl h.k).operation) (within own (entry_at rodl h.k) slot))
              (is_there (send_place own slot (acting_from is_multiplexed_receive rodl slot (suc h.k) (h.left - 1))))
              ∙ sym (bits slot l);
          sought =
              h.sought
              ∙ (ap (either multiplexed) (some_next is_multiplexed_send rodl h.k fewer goes_on_lem)
              ∙ (either_more multiplexed (is_multiplexed_send (entry_at rodl h.k)) _
              ∙ ap (λ (b : Bool). either b (some_entry_from is_multiplexed_send rodl (suc h.k) (h.left - 1))) (sym taken.multiplexes)));
        }
      where
        taken : EntryTaken own (entry_at rodl h.k) covered planned multiplexed hidden sent u number size
        taken = subst (λ (x : Entry). EntryTaken own x covered planned multiplexed hidden sent u number size) same-entry before

        sent-bit : (slot : ℕ) → slot < slots
            → is_set sent slot
            ≡ either (is_set planned slot)
            (both (both (eligible is_multiplexed_receive (entry_at rodl h.k) slot) (both (sends (entry_at rodl h.k).operation) (within own (entry_at rodl h.k) slot)))
            (not (is_set covered slot)))
        sent-bit slot l =
            taken.sending.each slot l
            ∙ (unfold sends_with would_send in
            ap (λ (b : Bool). either (is_set planned slot) (both b (not (is_set covered slot)))) (covered_sends (entry_at rodl h.k) slot (within own (entry_at rodl h.k) slot)))

        hidden_bit : (slot : ℕ) → slot < slots → is_set hidden slot ≡ either (is_set covered slot) (eligible is_multiplexed_receive (entry_at rodl h.k) slot)
        hidden_bit slot l = taken.hides.each slot l ∙ (unfold hidden_with in refl)

        bits : (slot : ℕ) → slot < slots
            → either (is_set sent slot) (both (not (is_set hidden slot)) (is_there (send_place own slot (acting_from is_multiplexed_receive rodl slot (suc h.k) (h.left - 1)))))
            ≡ either
            (either (is_set planned slot)
            (both (both (eligible is_multiplexed_receive (entry_at rodl h.k) slot) (both (sends (entry_at rodl h.k).operation) (within own (entry_at rodl h.k) slot)))
            (not (is_set covered slot))))
            (both (not (either (is_set covered slot) (eligible is_multiplexed_receive (entry_at rodl h.k) slot)))
            (is_there (send_place own slot (acting_from is_multiplexed_receive rodl slot (suc h.k) (h.left - 1)))))
        bits slot l = rw (sent-bit slot l, hidden_bit slot l)

    -- one of one slot is no end
    single_goes : is_single (get_or f (at + 2) 0) ≡ true → ends (entry_at rodl h.k).operation ≡ false
    unfolding is_single
    single_goes single = ap ends (sym operation-there) ∙ low_goes (get_or f (at + 2) 0 / 16) (ltb-true (get_or f (at + 2) 0 / 16) 6 (both_left _ _ single))

    module _ {u : Bool} {hidden sent number size : ℕ} (taken : EntryTaken own (entry_there f at) covered planned multiplexed hidden sent u number size) where
      pub planning_single : {t : Bool} → t ≡ is_single (get_or f (at + 2) 0) → t ≡ true → Planning f round s hidden sent u (at + 4) end
      planning_single is one = planning_next (single_goes (sym is ∙ one)) taken

      pub planning_other : {t : Bool} → t ≡ ends (get_or f (at + 2) 0 / 16) → t ≡ false → Planning f round s hidden sent u (at + 4) end
      planning_other is goes = planning_next (ap ends (sym operation-there) ∙ (sym is ∙ goes)) taken

-- the loop along a slave's entries, for whatever round they are planned, with the size that is kept
pub record Working (f : List ℕ) (s start end : ℕ) (plan : SlavePlan) (at : ℕ) : Type 0 where
  pub planning : (round : ℕ) → PlannedFileIs (decode f) round s start end → Planning f round s plan.hidden plan.sends plan.multiplexed at end
  pub kept : Kept (slave_of (decode f) s) (file_in plan.number) plan.size

pub working_start : (f : List ℕ) (s start end : ℕ) → AcceptedFile f → {none : FileNumber} → file_numbers ≤ file_in none
    → Working f s start end (record { hidden = 1; sends = 0; multiplexed = false; number = none; size = 0 }) start
working_start f s start end h no_file = record { planning = λ round is. planning_start h is; kept = record { known = λ l. absurd (omega arith) } }

module _ {f : List ℕ} {s start end : ℕ} {plan : SlavePlan} {at : ℕ} (h : Working f s start end plan at) where
  module _ {round : ℕ} (is : PlannedFileIs (decode f) round s start end) where
    pub working_done : end ≤ at → SlavePlanned round (slave_of (decode f) s) plan.sends plan.multiplexed
    working_done over = planning_done (h.planning round is) over

    module _ (more : at < end) where
      pub working_within : at + 4 ≤ length f
      working_within = entry-within (h.planning round is) more

      pub working_low : at < 2 ^ 32
      working_low = entry-low (h.planning round is) more

      pub working_entry : AcceptedFile f → s < slave_count f → EntryOf f s at (file_in plan.number) plan.size
      working_entry accepted listed = record { accepted = accepted; listed = listed; inside = working_within; kept = h.kept }

      pub working_end : {t : Bool} → t ≡ ends (get_or f (at + 2) 0 / 16) → t ≡ true → SlavePlanned round (slave_of (decode f) s) plan.sends plan.multiplexed
      working_end = planning_end (h.planning round is) more

  -- one entry more
  module _ (more : at < end) {r new : SlavePlan}
      (taken : EntryTaken (slave_of (decode f) s) (entry_there f at) plan.hidden plan.sends plan.multiplexed r.hidden r.sends r.multiplexed (file_in r.number) r.size)
      (same : new ≡ r) where
    pub working_single : {t : Bool} → t ≡ is_single (get_or f (at + 2) 0) → t ≡ true → Working f s start end new (at + 4)
    working_single is one =
        subst (λ (p : SlavePlan). Working f s start end p (at + 4)) (sym same)
        (record { planning = λ round lies. planning_single (h.planning round lies) more taken is one; kept = taken.kept })

    pub working_other : {t : Bool} → t ≡ ends (get_or f (at + 2) 0 / 16) → t ≡ false → Working f s start end new (at + 4)
    working_other is goes =
        subst (λ (p : SlavePlan). Working f s start end p (at + 4)) (sym same)
        (record { planning = λ round lies. planning_other (h.planning round lies) more taken is goes; kept = taken.kept })

-- ---- a name put into a row

pub record Putting (old row : List ℕ) (mask name rest : ℕ) : Type 0 where
  pub room : length row ≡ length old
  pub small : rest ≤ mask
  pub among : (t : ℕ) → is_set rest t ≡ true → is_set mask t ≡ true
  pub put : (t : ℕ) → t < slots → get_or row t 0 ≡ cond (both (is_set mask t) (not (is_set rest t))) name (get_or old t 0)

pub putting_start : (row : List ℕ) (mask name : ℕ) → Putting row row mask name mask
putting_start row mask name =
    record {
      room = refl;
      small = omega arith;
      among = λ t is. is;
      put = λ t l. by_case (is_set mask t) (λ e. rw e (unfold both in refl)) (λ e. rw e (unfold both in refl));
    }

module _ {old row : List ℕ} {mask name rest : ℕ} (h : Putting old row mask name rest) where
  pub putting_next : {first : ℕ} → length old ≡ slots → first < slots → FirstIs rest first → Putting old (set row first name) mask name (bit_and rest (rest - 1))
  putting_next {first} long few is =
      record {
        room = length-set row first name ∙ h.room;
        small = omega (arith, h.small, and_le_l rest (rest - 1));
        among = λ t still. h.among t (both_right _ _ (sym (is.others t) ∙ still));
        put = λ t l. by_case (eqb t first) (λ e. here t (eqb-true t first e)) (λ e. other t l e);
      }
    where
      here : (t : ℕ) → t ≡ first → get_or (set row first name) t 0 ≡ cond (both (is_set mask t) (not (is_set (bit_and rest (rest - 1)) t))) name (get_or old t 0)
      here t e =
          rw (e, get_or-set_same row first name 0 (omega (arith, h.room)), is.others first, eq-eqb first first refl, h.among first is.here) (unfold both in refl)

      other : (t : ℕ) → t < slots → eqb t first ≡ false → get_or (set row first name) t 0 ≡ cond (both (is_set mask t) (not (is_set (bit_and rest (rest - 1)) t))) name (get_or old t 0)
      other t l e =
          rw (get_or-set_other row first t name 0 (eqb-false t first e), is.others t, e) (unfold both in h.put t l)

  pub putting_done : rest ≡ 0 → OwnerPut old row mask name
  putting_done over =
      record {
        room = h.room;
        at = λ t l. h.put t l ∙ ap (λ (x : Bool). cond x name (get_or old t 0)) (all t);
      }
    where
      all : (t : ℕ) → both (is_set mask t) (not (is_set rest t)) ≡ is_set mask t
      all t = rw (over, set-none t) (both-all (is_set mask t))
