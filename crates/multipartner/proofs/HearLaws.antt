-- The slaves of a slot, one after the other: what is heard so far, and where the receivers among them store.
-- Assumes nothing.
use Prim.Native.Nat.{ℕ, zero, suc, ◌+◌, ◌≤◌, ◌<◌}
use native.Mathlib.Omega.{arith}
use native.Mathlib.Numerals.{add-one}
use mathlib.Core.Path.{◌≡◌, refl, sym, ap, ◌∙◌}
use mathlib.Core.List.{List, [], ◌∷◌, ◌++◌, append_assoc, append-nil}
use mathlib.Core.Bool.{Bool, true, false}
use lib.ListN.{length, get_or, set, take, length-set}
use lib.Seq.{take_all, get_or-set_same, get_or-set_other}
use lib.Dec.{eqb}
use lib.Bits.{bit_and}
use Rattle.std.proofs.lemmas.List.{get_or-take, length-take-le}
use borrow.Author.Tests.{eqb-true, eqb-false}
use Rattle.file.specs.Rules.Order.{either}
use Rattle.file.specs.Rules.Cluster.{Slave, Cluster}
use Rattle.file.specs.Rules.Decode.{decode}
use Rattle.file.specs.Inner.Places.{slaves_room, no_slave_lem, slave_of, file_place}
use Rattle.file.specs.Inner.Accepted.{Becomes, AcceptedFile}
use Rattle.file.proofs.Order.{by_case}
use Rattle.file.proofs.ReaderLaws.{place-within, length_limit}
use Rattle.master_slave.specs.Rules.Bus.{joined, bus_byte, anyone}
use Rattle.multipartner.specs.Rules.Entries.{Entry}
use Rattle.multipartner.specs.Rules.Multipartner.{SlaveByte, sends_from, byte_there, sent_by}
use Rattle.multipartner.specs.Inner.Slots.{place_in, act_sends, act_stores, is_sender, put_store, stored_at, StoresWithin}
use Rattle.multipartner.specs.declared.slot_act.SlotAct.{SlotAct}
use Rattle.multipartner.specs.declared.slot_act.SlotAct.TheVariants as Acts
use Rattle.multipartner.proofs.StoreLaws.{Lands, stays, lands, stores_at_lands, stored-before, stored_in, stored_by, aim}
use Rattle.multipartner.proofs.SearchLaws.{RoundActIs}

-- ---- the bytes sent, with one more slave

sent-next : (passed : Entry → Bool) (round slot : ℕ) (ss : List Slave) (n : ℕ) → n < length ss
    → sent_by passed round slot (take (suc n) ss) ≡ sent_by passed round slot (take n ss) ++ byte_there (get_or ss n no_slave_lem) (sends_from passed round slot (get_or ss n no_slave_lem))
unfolding sent_by
sent-next passed round slot [] n l = absurd (omega arith)
sent-next passed round slot (s ∷ ss) zero l = append-nil (byte_there s (sends_from passed round slot s))
sent-next passed round slot (s ∷ ss) (suc n) l =
    ap (λ (x : List ℕ). byte_there s (sends_from passed round slot s) ++ x) (sent-next passed round slot ss n (omega arith)) ∙ simp append_assoc

joined-append : (bus : ℕ) (xs ys : List ℕ) → joined bus (xs ++ ys) ≡ joined (joined bus xs) ys
unfolding joined
joined-append bus [] ys = refl
joined-append bus (x ∷ xs) ys = joined-append (bit_and bus x) xs ys

bus_byte-append : (xs ys : List ℕ) → bus_byte (xs ++ ys) ≡ joined (bus_byte xs) ys
unfolding bus_byte
bus_byte-append xs ys = joined-append 0xFF xs ys

-- whether a byte is among those sent
unfoldable pub someone : List ℕ → Bool
someone [] = false
someone (b ∷ bs) = true

pub someone_yes : (sent : List ℕ) → someone sent ≡ true → anyone sent ≡ 1
unfolding someone anyone
someone_yes [] e = absurd (mathlib.Core.Bool.true≢false (sym e))
someone_yes (b ∷ bs) e = refl

pub someone_no : (sent : List ℕ) → someone sent ≡ false → sent ≡ []
unfolding someone
someone_no [] e = refl
someone_no (b ∷ bs) e = absurd (mathlib.Core.Bool.true≢false e)

someone-next : (sent : List ℕ) (act : SlotAct) → someone (sent ++ act_sends act) ≡ either (someone sent) (is_sender act)
unfolding someone act_sends is_sender either
someone-next [] (Acts.Sends b) = refl
someone-next [] (Acts.Stores p) = refl
someone-next [] Acts.Rests = refl
someone-next (x ∷ xs) act = refl

-- ---- where the receivers store

-- an act that stores does so within the file
land_within : {f : List ℕ} {c : Cluster} (s q : ℕ) {p : SlaveByte} → Becomes f c → Lands (slave_of c s) p → q ∷ [] ≡ place_in c s p → q < length f
unfolding place_in
land_within s q h stays e = let z : ◌≡◌ {A = ℕ} 0 1 = cc in absurd (omega arith)
land_within {c = c} s q h (lands {n = m} {k} low high place inside) e =
    let is : q ≡ file_place c s m + k = cc in
    omega (arith, place-within h s m (omega arith))

pub act_within : {passed : Entry → Bool} {f : List ℕ} {round slot s : ℕ} {act : SlotAct} → Becomes f (decode f) → RoundActIs passed (decode f) round slot s act → (place : ℕ)
    → act ≡ Acts.Stores place → place < length f
unfolding act_stores
act_within {passed} {f} {round} {slot} {s} h does place is =
    land_within s place h (stores_at_lands passed round slot (slave_of (decode f) s)) (sym (ap act_stores is) ∙ does.stores)

-- the places of those among the first n slaves that store
pub record Aimed (passed : Entry → Bool) (f : List ℕ) (round slot n : ℕ) (stores : List ℕ) (stored : ℕ) : Type 0 where
  pub room : length stores ≡ slaves_room
  pub few : stored ≤ n
  pub within : (i : ℕ) → i < stored → get_or stores i 0 < length f
  pub aims : (g : List ℕ) (b : ℕ) → stored_at g stores b stored ≡ stored_by g (aim passed (decode f) round slot) b n

module _ {passed : Entry → Bool} {f : List ℕ} {round slot n : ℕ} {stores : List ℕ} {stored : ℕ} (h : Aimed passed f round slot n stores stored) where
  aimed_none : [] ≡ aim passed (decode f) round slot n → Aimed passed f round slot (n + 1) stores stored
  unfolding stored_by stored_in
  aimed_none none =
      record {
        room = h.room;
        few = omega (arith, h.few);
        within = h.within;
        aims = λ g b. h.aims g b ∙ rw (add-one, ← none);
      }

  aimed_one : {p : ℕ} → p < length f → n < slaves_room → p ∷ [] ≡ aim passed (decode f) round slot n → Aimed passed f round slot (n + 1) (set stores stored p) (stored + 1)
  unfolding stored_at stored_by stored_in
  aimed_one {p} low few one =
      let put : get_or (set stores stored p) stored 0 ≡ p = get_or-set_same stores stored p 0 (omega (arith, h.room, h.few)) in
      record {
        room = length-set stores stored p ∙ h.room;
        few = omega (arith, h.few);
        within = λ i l. by_case (eqb i stored)
            (λ e. let same : i ≡ stored = eqb-true i stored e in rw (same, put) low)
            (λ e. let other = eqb-false i stored e in rw (get_or-set_other stores stored i p 0 other) (h.within i (below i l other)));
        aims = λ g b.
            let before : stored_at g (set stores stored p) b stored ≡ stored_by g (aim passed (decode f) round slot) b n = stored-before g stores b p stored stored (omega arith) ∙ h.aims g b in
            rw (add-one, add-one, put, before, ← one);
      }
    where
      below : (i : ℕ) → i < stored + 1 → (i ≡ stored → ⊥) → i < stored
      below i l other = omega arith

  moved : {a stores' : List ℕ} {b stored' : ℕ} → ◌≡◌ {A = List ℕ × ℕ} (stores', stored') (a, b) → Aimed passed f round slot (n + 1) a b → Aimed passed f round slot (n + 1) stores' stored'
  moved e q = rw (ap (λ (x : List ℕ × ℕ). x.0) e, ap (λ (x : List ℕ × ℕ). x.1) e) q

  aimed_next : (act : SlotAct) {stores' : List ℕ} {stored' : ℕ} → AcceptedFile f → n < length (decode f).slaves → RoundActIs passed (decode f) round slot n act
      → (stores', stored') ≡ put_store stores stored act
      → Aimed passed f round slot (n + 1) stores' stored'
  unfolding put_store act_stores
  aimed_next (Acts.Sends b) accepted more does put = moved put (aimed_none does.stores)
  aimed_next (Acts.Stores p) accepted more does put =
      moved put (aimed_one (act_within accepted does p refl) (omega (arith, accepted.legal.count)) does.stores)
  aimed_next Acts.Rests accepted more does put = moved put (aimed_none does.stores)

-- ---- the loop over the slaves

-- the first n slaves are heard
pub record SlotHearing (passed : Entry → Bool) (f : List ℕ) (round slot n bus : ℕ) (heard : Bool) (stores : List ℕ) (stored : ℕ) : Type 0 where
  pub most : n ≤ length (decode f).slaves
  pub byte : bus ≡ bus_byte (sent_by passed round slot (take n (decode f).slaves))
  pub any : heard ≡ someone (sent_by passed round slot (take n (decode f).slaves))
  pub aimed : Aimed passed f round slot n stores stored

pub slot_hearing_start : (passed : Entry → Bool) (f : List ℕ) (round slot : ℕ) {stores : List ℕ} → length stores ≡ slaves_room → SlotHearing passed f round slot 0 255 false stores 0
unfolding bus_byte joined sent_by someone stored_at stored_by
slot_hearing_start passed f round slot room =
    record {
      most = omega arith;
      byte = refl;
      any = refl;
      aimed = record { room = room; few = omega arith; within = λ i l. absurd (omega arith); aims = λ g b. refl };
    }

module _ {passed : Entry → Bool} {f : List ℕ} {round slot n bus : ℕ} {heard : Bool} {stores : List ℕ} {stored : ℕ} (h : SlotHearing passed f round slot n bus heard stores stored) where
  module _ {act : SlotAct} (more : n < length (decode f).slaves) (does : RoundActIs passed (decode f) round slot n act) where
    sent_act : sent_by passed round slot (take (n + 1) (decode f).slaves) ≡ sent_by passed round slot (take n (decode f).slaves) ++ act_sends act
    unfolding slave_of
    sent_act = rw (add-one, does.sends) (sent-next passed round slot (decode f).slaves n more)

    pub slot_hearing_next : {bus' stored' : ℕ} {heard' : Bool} {stores' : List ℕ} → AcceptedFile f → bus' ≡ joined bus (act_sends act) → heard' ≡ either heard (is_sender act)
        → (stores', stored') ≡ put_store stores stored act
        → SlotHearing passed f round slot (n + 1) bus' heard' stores' stored'
    slot_hearing_next accepted byte any put =
        record {
          most = omega arith;
          byte = byte ∙ ap (λ (x : ℕ). joined x (act_sends act)) h.byte ∙ sym (ap bus_byte sent_act ∙ bus_byte-append (sent_by passed round slot (take n (decode f).slaves)) (act_sends act));
          any = any ∙ ap (λ (x : Bool). either x (is_sender act)) h.any ∙ sym (ap someone sent_act ∙ someone-next (sent_by passed round slot (take n (decode f).slaves)) act);
          aimed = aimed_next h.aimed act accepted more does put;
        }

  module _ (left : length (decode f).slaves ≤ n) where
    pub heard-byte : bus ≡ bus_byte (sent_by passed round slot (decode f).slaves)
    heard-byte = h.byte ∙ rw (take_all n (decode f).slaves left)

    pub heard_any : heard ≡ someone (sent_by passed round slot (decode f).slaves)
    heard_any = h.any ∙ rw (take_all n (decode f).slaves left)

    pub heard-stored : (b : ℕ) → stored_at f stores b stored ≡ stored_by f (aim passed (decode f) round slot) b (length (decode f).slaves)
    heard-stored b = let all : n ≡ length (decode f).slaves = omega (arith, h.most) in h.aimed.aims f b ∙ rw all

    -- those places are within the array, and what `store` asks of them
    pub stored-few : AcceptedFile f → stored ≤ length stores
    stored-few accepted = omega (arith, h.aimed.few, h.aimed.room, h.most, accepted.legal.count)

    pub heard-within : AcceptedFile f → StoresWithin f (take stored stores)
    heard-within accepted =
        let long : length (take stored stores) ≡ stored = length-take-le stored stores (stored-few accepted) in
        record {
          within = λ i l.
              let low : i < stored = omega (arith, long) in
              rw (get_or-take stored stores i 0 low) (h.aimed.within i low);
          low = omega (arith, length_limit accepted);
        }
