-- A round's owners and masks, slave by slave.
-- Assumes nothing.
use Rattle.std.proofs.Common.{ℕ, zero, suc, ◌+◌, ◌/◌, ◌%◌, ◌^◌, ◌≤◌, ◌<◌, arith, add-one, ◌≡◌, refl, sym, ap, ◌∙◌, subst, List, [], ◌∷◌, ◌++◌, Bool, true, false, not, cond, ◌||◌, length, get_or, set, take, replicate, length-set, get_or-set_other, take_all, eqb, leb, ne_eqb, le-leb}
use lib.ListN.{length-replicate, get_or-replicate}
use lib.Bits.{bit_and, bit_or, bit_xor, and_zero_l, and_zero_r, or_zero_r}
use Rattle.file.specs.Rules.Order.{both, either}
use Rattle.file.specs.Rules.Cluster.{Slave, Cluster, bytes_in, last_record, logical_name}
use Rattle.file.specs.Inner.Places.{no_slave_lem, slave_of}
use Rattle.file.proofs.Order.{by_case, both_false_right}
use Rattle.master_slave.specs.Rules.Bus.{slots}
use Rattle.master_slave.specs.Rules.Slaves.{is_unnamed}
use Rattle.multipartner.specs.Rules.Entries.{Entry, acting_from, acting}
use Rattle.multipartner.specs.Rules.Multipartner.{send_place, plans_from}
use Rattle.owner.specs.Rules.Plan.{rounds, is_there, sends_in, senders_among, senders_in, some_entry_from, some_entry, some_entry_of, is_multiplexed_send}
use Rattle.owner.specs.Rules.OwnerFile.{no_owner, name_of, owner_of}
use Rattle.owner.specs.Inner.Masks.{is_set}
use Rattle.owner.specs.Inner.Held.{AllHold}
use Rattle.owner.specs.declared.plan.RoundPlan.{RoundPlan}
use Rattle.owner.specs.Inner.Planned.{planned_in, SlavePlanned, OwnerPut, someone, two_there, RoundPlanned, RoundPlanning, SlaveAdded}
use Rattle.owner.proofs.MaskLaws.{or_either, either_false, set_or, set_and, set_free, set-none}

-- ---- one slave more

-- the slave alone, if it sends
abbrev alone : Bool → Slave → List Slave
alone sends s = cond sends (s ∷ []) []

among_next : (round slot : ℕ) (ss : List Slave) (n : ℕ) → n < length ss
    → senders_among round slot (take (suc n) ss) ≡ senders_among round slot (take n ss) ++ alone (sends_in round slot (get_or ss n no_slave_lem)) (get_or ss n no_slave_lem)
unfolding senders_among
among_next round slot [] n l = absurd (omega arith)
among_next round slot (s ∷ ss) zero l = by_case (sends_in round slot s) (λ e. rw e) (λ e. rw e)
among_next round slot (s ∷ ss) (suc n) l =
    by_case (sends_in round slot s)
    (λ e. rw e (ap (λ (x : List Slave). s ∷ x) (among_next round slot ss n (omega arith))))
    (λ e. rw e (among_next round slot ss n (omega arith)))

senders-next : (round : ℕ) (ss : List Slave) (n : ℕ) → n < length ss → (slot : ℕ)
    → senders_in round slot (take (suc n) ss) ≡ senders_in round slot (take n ss) ++ alone (planned_in round (get_or ss n no_slave_lem) slot) (get_or ss n no_slave_lem)
unfolding senders_in planned_in
senders-next round ss n l zero = refl
senders-next round ss n l (suc slot) = among_next round (suc slot) ss n l

more_none : (n : ℕ) → eqb (suc n) 0 ≡ false
more_none n = ne_eqb (suc n) 0 (λ e. omega (arith, e))

two-least : (n : ℕ) → leb 2 (suc (suc n)) ≡ true
two-least n = le-leb 2 (suc (suc n)) (omega arith)

some_next : (before : List Slave) (s : Slave) (sends : Bool) → not (eqb (length (before ++ alone sends s)) 0) ≡ either (not (eqb (length before) 0)) sends
unfolding either
some_next [] s true = refl
some_next [] s false = refl
some_next (b ∷ bs) s sends = rw (more_none (length (bs ++ alone sends s)), more_none (length bs))

two-next : (before : List Slave) (s : Slave) (sends : Bool)
    → leb 2 (length (before ++ alone sends s)) ≡ either (leb 2 (length before)) (both (not (eqb (length before) 0)) sends)
unfolding either both
two-next [] s true = refl
two-next [] s false = refl
two-next (a ∷ []) s true = refl
two-next (a ∷ []) s false = refl
two-next (a ∷ b ∷ bs) s sends = rw (two-least (length (bs ++ alone sends s)), two-least (length bs))

name-next : (before : List Slave) (s : Slave) (sends : Bool)
    → name_of (before ++ alone sends s) ≡ cond (both sends (not (not (eqb (length before) 0)))) (logical_name s) (name_of before)
unfolding name_of both
name-next [] s true = refl
name-next [] s false = refl
name-next (b ∷ bs) s true = rw (more_none (length bs))
name-next (b ∷ bs) s false = refl

some-one_more : (test : Entry → Bool) (round : ℕ) (ss : List Slave) (n : ℕ) → n < length ss
    → some_entry_of test round (take (suc n) ss) ≡ either (some_entry_of test round (take n ss)) (some_entry test round (get_or ss n no_slave_lem))
unfolding some_entry_of either
some-one_more test round [] n l = absurd (omega arith)
some-one_more test round (s ∷ ss) zero l = by_case (some_entry test round s) (λ e. rw e) (λ e. rw e)
some-one_more test round (s ∷ ss) (suc n) l =
    by_case (some_entry test round s) (λ e. rw e) (λ e. rw e (some-one_more test round ss n (omega arith)))

-- ---- a slave without a file for the round

absent_plan : (round : ℕ) (s : Slave) → length (bytes_in s round) ≡ 0 → SlavePlanned round s 0 false
absent_plan round s none =
    record { slots = record { each = λ slot l. set-none slot ∙ sym (planned slot) }; multiplexes = sym sought }
  where
    no_record : last_record (bytes_in s round) ≡ 0
    no_record = unfold last_record in rw none

    planned : (slot : ℕ) → planned_in round s slot ≡ false
    planned zero = unfold planned_in in refl
    planned (suc slot) =
        unfold planned_in sends_in plans_from acting in
        rw no_record (unfold acting_from send_place in by_case (is_unnamed s) (λ t. rw t (unfold is_there in refl)) (λ t. rw t (unfold is_there in refl)))

    sought : some_entry is_multiplexed_send round s ≡ false
    sought = unfold some_entry in rw no_record (unfold some_entry_from in both_false_right _ refl)

put-none : (row : List ℕ) (free name : ℕ) → OwnerPut row row (bit_and 0 free) name
put-none row free name = record { room = refl; at = λ slot l. rw (and_zero_l free, set-none slot) }

-- ---- the loop

pub round-start : (ss : List Slave) (round : ℕ) (zeros : List ℕ) (master : ℕ) → zeros ≡ replicate slots no_owner
    → RoundPlanning ss (get_or (set zeros 0 master) 0 0) round (set zeros 0 master) 0 0 false 0
round-start ss round zeros master is =
    record {
      most = omega arith;
      planned =
          record {
            room = length-set zeros 0 master ∙ (ap length is ∙ length-replicate slots no_owner);
            owners = first;
            sends = record { each = λ slot l. set-none slot ∙ nobody slot };
            twice = record { each = λ slot l. set-none slot ∙ none slot };
            multiplexes = unfold some_entry_of in refl;
          };
    }
  where
    first : (slot : ℕ) → slot < slots → get_or (set zeros 0 master) slot 0 ≡ owner_of (get_or (set zeros 0 master) 0 0) round (take 0 ss) slot
    first zero l = unfold owner_of in refl
    first (suc slot) l =
        unfold owner_of senders_in senders_among name_of in
        get_or-set_other zeros 0 (suc slot) master 0 (λ e. omega (arith, e)) ∙ (ap (λ (x : List ℕ). get_or x (suc slot) 0) is ∙ get_or-replicate slots (suc slot) no_owner 0 l)

    nobody : (slot : ℕ) → false ≡ someone round (take 0 ss) slot
    nobody zero = unfold someone senders_in in refl
    nobody (suc slot) = unfold someone senders_in senders_among in refl

    none : (slot : ℕ) → false ≡ two_there round (take 0 ss) slot
    none zero = unfold two_there senders_in in refl
    none (suc slot) = unfold two_there senders_in senders_among in refl

module _ {ss : List Slave} {master round : ℕ} {row : List ℕ} {senders clashes : ℕ} {multiplexed : Bool} {n : ℕ} (h : RoundPlanning ss master round row senders clashes multiplexed n) where
  module _ {mask : ℕ} {found : Bool} {new : List ℕ} {name : ℕ} (more : n < length ss) (plan : SlavePlanned round (get_or ss n no_slave_lem) mask found)
      (own : name ≡ logical_name (get_or ss n no_slave_lem)) (put : OwnerPut row new (bit_and mask (bit_xor senders 0xFFFFFFFFFFFFFFFF)) name) where
    abbrev before : ℕ → List Slave
    before slot = senders_in round slot (take n ss)

    abbrev planned : ℕ → Bool
    planned slot = planned_in round (get_or ss n no_slave_lem) slot

    sent-bit : (slot : ℕ) → slot < slots → is_set senders slot ≡ not (eqb (length (before slot)) 0)
    unfolding someone
    sent-bit slot l = h.planned.sends.each slot l

    twice-bit : (slot : ℕ) → slot < slots → is_set clashes slot ≡ leb 2 (length (before slot))
    unfolding two_there
    twice-bit slot l = h.planned.twice.each slot l

    some-bit : (slot : ℕ) → slot < slots → is_set (bit_or senders mask) slot ≡ someone round (take (suc n) ss) slot
    unfolding someone
    some-bit slot l =
        set_or senders mask slot
        ∙ (rw (sent-bit slot l, plan.slots.each slot l, senders-next round ss n more slot) (sym (some_next (before slot) (get_or ss n no_slave_lem) (planned slot))))

    two-bit : (slot : ℕ) → slot < slots → is_set (bit_or clashes (bit_and senders mask)) slot ≡ two_there round (take (suc n) ss) slot
    unfolding two_there
    two-bit slot l =
        set_or clashes (bit_and senders mask) slot
        ∙ (rw (set_and senders mask slot, twice-bit slot l, sent-bit slot l, plan.slots.each slot l, senders-next round ss n more slot)
        (sym (two-next (before slot) (get_or ss n no_slave_lem) (planned slot))))

    put-bit : (slot : ℕ) → slot < slots → get_or new slot 0 ≡ cond (both (planned slot) (not (not (eqb (length (before slot)) 0)))) name (get_or row slot 0)
    put-bit slot l =
        put.at slot l
        ∙ (rw (set_and mask (bit_xor senders 0xFFFFFFFFFFFFFFFF) slot, set_free senders slot l, plan.slots.each slot l, sent-bit slot l))

    owner-next : (slot : ℕ) → slot < slots → get_or new slot 0 ≡ owner_of master round (take (suc n) ss) slot
    owner-next zero l = put-bit zero l ∙ (unfold planned_in both owner_of in h.planned.owners zero l)
    owner-next (suc slot) l =
        put-bit (suc slot) l
        ∙ (rw (h.planned.owners (suc slot) l, own)
        (unfold owner_of in rw (senders-next round ss n more (suc slot)) (sym (name-next (before (suc slot)) (get_or ss n no_slave_lem) (planned (suc slot))))))

    pub round-next : RoundPlanning ss master round new (bit_or senders mask) (bit_or clashes (bit_and senders mask)) (multiplexed || found) (n + 1)
    round-next =
        rw add-one
        (record {
          most = more;
          planned =
              record {
                room = put.room ∙ h.planned.room;
                owners = owner-next;
                sends = record { each = some-bit };
                twice = record { each = two-bit };
                multiplexes =
                    or_either multiplexed found
                    ∙ rw (h.planned.multiplexes, plan.multiplexes) (sym (some-one_more is_multiplexed_send round ss n more));
              };
        })

  -- a slave without a file for the round adds nothing
  pub round_skip : n < length ss → length (bytes_in (get_or ss n no_slave_lem) round) ≡ 0 → RoundPlanning ss master round row senders clashes multiplexed (n + 1)
  round_skip more none =
      let next = round-next {mask = 0} {found = false} more (absent_plan round (get_or ss n no_slave_lem) none) refl (put-none row (bit_xor senders 0xFFFFFFFFFFFFFFFF) (logical_name (get_or ss n no_slave_lem))) in
      rw (or_zero_r senders, and_zero_r senders, or_zero_r clashes, or_either multiplexed false, either_false multiplexed) at next

  pub round-done : {first : ℕ} → length ss ≤ n → first ≡ master → RoundPlanned ss first round row senders clashes multiplexed
  round-done over is = rw (is, ← take_all n ss over) h.planned

-- the loop's turn, by the code's plan: the slave is added, or has no file for the round
pub turn_added : {ss : List Slave} {master round : ℕ} {row row' new : List ℕ} {plan r next : RoundPlan} {n : ℕ}
    → RoundPlanning ss master round row plan.senders plan.clashes plan.multiplexed n
    → SlaveAdded ss round n row plan.senders plan.clashes plan.multiplexed row' r.senders r.clashes r.multiplexed
    → new ≡ row' → next ≡ r → RoundPlanning ss master round new next.senders next.clashes next.multiplexed (n + 1)
turn_added {ss} {master} {round} {row' = row'} {n = n} h added rows plans =
    rw rows (subst (λ (p : RoundPlan). RoundPlanning ss master round row' p.senders p.clashes p.multiplexed (n + 1)) (sym plans) (added.planned master h))

pub turn_skipped : (c : Cluster) {master round : ℕ} {row new held : List ℕ} {plan next : RoundPlan} {n : ℕ}
    → RoundPlanning c.slaves master round row plan.senders plan.clashes plan.multiplexed n
    → AllHold c held → n < length c.slaves → round < rounds → (get_or held n 0 / 2 ^ round % 2 ≡ 1 → ⊥)
    → new ≡ row → next ≡ plan → RoundPlanning c.slaves master round new next.senders next.clashes next.multiplexed (n + 1)
turn_skipped c {master} {round} {row} {held = held} {n = n} h all more few unset rows plans =
    rw rows
    (subst (λ (p : RoundPlan). RoundPlanning c.slaves master round row p.senders p.clashes p.multiplexed (n + 1)) (sym plans) (round_skip h more none))
  where
    none : length (bytes_in (get_or c.slaves n no_slave_lem) round) ≡ 0
    none = unfold slave_of is_set in (all.each n more).none round few (ne_eqb (get_or held n 0 / 2 ^ round % 2) 1 unset)
