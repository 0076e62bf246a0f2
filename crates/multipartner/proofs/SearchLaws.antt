-- The search of a slave's round file for the entry that acts in a slot: what the loop keeps, and one law for each way out of it.
-- Assumes nothing.
use Prim.Native.Nat.{ℕ, suc, ◌+◌, ◌-◌, ◌^◌, ◌≤◌, ◌<◌}
use native.Mathlib.Omega.{arith}
use mathlib.Core.Path.{◌≡◌, refl, sym, ap, ◌∙◌}
use mathlib.Core.List.{List}
use mathlib.Core.Bool.{Bool, true, false}
use lib.ListN.{length}
use lib.Dec.{ltb}
use borrow.Author.Tests.{lt-leb, ltb-true, ltb-false}
use Rattle.file.specs.Rules.Layout.{record_size}
use Rattle.file.specs.Rules.Cluster.{Slave, Cluster, is_awake, bytes_in}
use Rattle.file.specs.Rules.Decode.{decode}
use Rattle.file.specs.Inner.Places.{slave_of}
use Rattle.file.specs.Inner.Accepted.{Becomes}
use Rattle.file.proofs.Order.{by_case, both_false_left}
use Rattle.file.proofs.ReaderLaws.{length_limit}
use Rattle.master_slave.specs.Rules.Slaves.{is_unnamed}
use Rattle.multipartner.specs.Rules.Entries.{Entry, entry_there, entry_at, ends, covers, eligible, Acting, no_entry, acts, acting_from, acting}
use Rattle.multipartner.specs.Rules.Multipartner.{send_place, store_place, plans_from, sends_from, stores_at, byte_there}
use Rattle.multipartner.specs.Inner.Slots.{planned_entries, entries_in, next_past, place_in, act_sends, act_stores, SlotActIs}
use Rattle.multipartner.specs.declared.slot_act.SlotAct.{SlotAct}
use Rattle.multipartner.specs.declared.slot_act.SlotAct.TheVariants as Acts
use Rattle.multipartner.proofs.EntryLaws.{eligible-covers, never_again}
use Rattle.multipartner.proofs.OpenLaws.{acting-end, acting-here, acting-next, acting-none, actor, Rest, rest-within, rest-next, rest-entry, OpenAt, open_next, open_past}

-- where the entry that acts, of those planned, sends from
pub planned-sends : (passed : Entry → Bool) (round slot : ℕ) (s : Slave) → send_place s slot (acting_from passed (bytes_in s round) slot 1 (planned_entries round s)) ≡ plans_from passed round slot s
unfolding planned_entries acting_from acting send_place plans_from
planned-sends passed round slot s = by_case (is_unnamed s) (λ t. rw t) (λ t. rw t)

actor_sends : (passed : Entry → Bool) (round slot : ℕ) (s : Slave) → send_place s slot (actor passed round slot s) ≡ sends_from passed round slot s
unfolding actor entries_in acting_from send_place sends_from
actor_sends passed round slot s = by_case (is_awake s) (λ a. rw a (planned-sends passed round slot s)) (λ a. rw a)

actor_stores : (passed : Entry → Bool) (round slot : ℕ) (s : Slave) → store_place s slot (actor passed round slot s) ≡ stores_at passed round slot s
unfolding actor entries_in planned_entries acting_from acting store_place stores_at
actor_stores passed round slot s = by_case (is_awake s) (λ a. by_case (is_unnamed s) (λ t. rw (a, t)) (λ t. rw (a, t))) (λ a. rw a)

-- what the slave at index s does in a slot
pub record RoundActIs (passed : Entry → Bool) (c : Cluster) (round slot s : ℕ) (act : SlotAct) : Type 0 where
  pub sends : act_sends act ≡ byte_there (slave_of c s) (sends_from passed round slot (slave_of c s))
  pub stores : act_stores act ≡ place_in c s (stores_at passed round slot (slave_of c s))

pub round_act : (passed : Entry → Bool) (c : Cluster) (round slot s : ℕ) (a : Acting) {act : SlotAct} → actor passed round slot (slave_of c s) ≡ a → SlotActIs c s slot a act
    → RoundActIs passed c round slot s act
round_act passed c round slot s a is t =
    record {
      sends = t.sends ∙ ap (byte_there (slave_of c s)) (ap (send_place (slave_of c s) slot) (sym is) ∙ actor_sends passed round slot (slave_of c s));
      stores = t.stores ∙ ap (place_in c s) (ap (store_place (slave_of c s) slot) (sym is) ∙ actor_stores passed round slot (slave_of c s));
    }

nobody-acts : (c : Cluster) (s slot : ℕ) → SlotActIs c s slot no_entry Acts.Rests
unfolding send_place store_place byte_there place_in act_sends act_stores
nobody-acts c s slot = record { sends = refl; stores = refl }

-- the slave of whom no entry acts
pub round_rests : {passed : Entry → Bool} {c : Cluster} {round slot s : ℕ} → actor passed round slot (slave_of c s) ≡ no_entry → RoundActIs passed c round slot s Acts.Rests
round_rests {passed} {c} {round} {slot} {s} is = round_act passed c round slot s no_entry is (nobody-acts c s slot)

-- ---- the loop

-- in a slot of the round the search for the entry of the slave at index s stands at record k, with so many left, and has found
-- nothing yet; that of the next slot begins at `next`
pub record Searching (passed : Entry → Bool) (f : List ℕ) (round slot s at next end : ℕ) : Type 0 where
  pub becomes : Becomes f (decode f)
  pub slave : s < length (decode f).slaves
  pub k : ℕ
  pub left : ℕ
  pub rest : Rest (decode f) round s k left at end
  pub same : acting_from passed (bytes_in (slave_of (decode f) s) round) slot k left ≡ actor passed round slot (slave_of (decode f) s)
  pub later : OpenAt passed (decode f) round (slot + 1) s next end

pub searching_start : {passed : Entry → Bool} {f : List ℕ} {round slot s at end : ℕ} → Becomes f (decode f) → s < length (decode f).slaves
    → OpenAt passed (decode f) round slot s at end → Searching passed f round slot s at at end
searching_start {slot = slot} h there o =
    record { becomes = h; slave = there; k = o.k; left = o.left; rest = o.rest; same = o.same slot (omega arith); later = open_next o }

module _ {passed : Entry → Bool} {f : List ℕ} {round slot s at next end : ℕ} (q : Searching passed f round slot s at next end) where
  abbrev rodl : List ℕ
  rodl = bytes_in (slave_of (decode f) s) round

  -- the way out past the last entry
  pub searching_done : end ≤ at → actor passed round slot (slave_of (decode f) s) ≡ no_entry
  searching_done over =
      let nought : q.left ≡ 0 = omega (arith, q.rest.span) in
      sym q.same ∙ acting-none passed rodl slot q.k q.left nought

  module _ (more : at < end) where
    some_left : 0 < q.left
    some_left = omega (arith, q.rest.span)

    pub entry-within : at + record_size ≤ length f
    entry-within = let within = rest-within q.becomes q.rest in omega (arith, within.within, within.whole)

    -- its place is no large number
    pub entry-low : at < 2 ^ 32
    entry-low = omega (arith, entry-within, length_limit q.becomes)

    -- the entry there is record k of the round file
    here : entry_there f at ≡ entry_at rodl q.k
    here = rest-entry q.becomes q.rest some_left

    module _ {t : Bool} (stops : t ≡ ends (entry_there f at).operation) where
      -- the way out at the end entry
      pub searching_end : t ≡ true → actor passed round slot (slave_of (decode f) s) ≡ no_entry
      searching_end stop =
          let last : ends (entry_at rodl q.k).operation ≡ true = rw here at (sym stops ∙ stop) in
          sym q.same ∙ acting-end passed rodl slot q.k q.left some_left last

      module _ (goes : t ≡ false) where
        on : ends (entry_at rodl q.k).operation ≡ false
        on = rw here at (sym stops ∙ goes)

        -- the way out at the eligible entry
        pub searching_here : {u : Bool} → u ≡ eligible passed (entry_there f at) slot → u ≡ true → actor passed round slot (slave_of (decode f) s) ≡ acts (entry_there f at)
        searching_here able yes' =
            let acts-here : eligible passed (entry_at rodl q.k) slot ≡ true = rw here at (sym able ∙ yes') in
            rw here (sym q.same ∙ acting-here passed rodl slot q.k q.left some_left on acts-here)

        next_search : {next : ℕ} → eligible passed (entry_there f at) slot ≡ false → OpenAt passed (decode f) round (slot + 1) s next end → Searching passed f round slot s (at + 4) next end
        next_search past after =
            let fewer : q.left ≡ suc (q.left - 1) = omega (arith, some_left) in
            record {
              becomes = q.becomes;
              slave = q.slave;
              k = suc q.k;
              left = q.left - 1;
              rest = rest-next q.becomes q.rest fewer;
              same = sym (acting-next passed rodl slot q.k fewer on (rw here at past)) ∙ q.same;
              later = after;
            }

        -- past an entry whose first slot is yet to come
        pub searching_wait : {v : Bool} → v ≡ ltb slot (entry_there f at).start → v ≡ true → Searching passed f round slot s (at + 4) next end
        searching_wait {v} waits yes' =
            next_search (eligible-covers passed (entry_there f at) slot (unfold covers in both_false_left _
            (lt-leb (entry_there f at).start slot (ltb-true slot (entry_there f at).start (sym waits ∙ yes'))))) q.later

        -- past one that is over
        pub searching_over : {u : Bool} → (entry_there f at).start ≤ slot → u ≡ eligible passed (entry_there f at) slot → u ≡ false → Searching passed f round slot s (at + 4) (next_past next at) end
        searching_over begun able no' =
            let rests : eligible passed (entry_there f at) slot ≡ false = sym able ∙ no' in
            next_search rests (open_past slot q.becomes q.later more (sym stops ∙ goes) (λ later l. never_again passed (entry_there f at) slot begun rests later (omega arith)))

-- an entry that does not wait has begun
pub begun : {slot start : ℕ} {v : Bool} → v ≡ ltb slot start → v ≡ false → start ≤ slot
begun {slot} {start} waits no' = ltb-false slot start (sym waits ∙ no')
