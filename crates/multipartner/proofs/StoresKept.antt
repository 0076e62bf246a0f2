-- Where a slave stores in a slot, and that this keeps the edition, the slaves' shape, their physical names, and that the cluster is legal.
-- Assumes nothing.
use Prim.Native.Nat.{ℕ, zero, suc, ◌≤◌, ◌<◌}
use native.Mathlib.Omega.{arith}
use mathlib.Core.Path.{◌≡◌, refl}
use mathlib.Core.List.{List, [], ◌∷◌}
use mathlib.Core.Bool.{Bool, true}
use borrow.Author.Tests.{leb-true}
use Rattle.file.specs.Rules.Bytes.{Byte}
use Rattle.file.specs.Rules.Order as Order
use Rattle.file.specs.Rules.Layout.{record_size}
use Rattle.file.specs.Rules.Cluster.{Slave, Cluster, is_awake, bytes_in}
use Rattle.file.proofs.Order.{by_case, both_left, both_right}
use Rattle.file.proofs.Puts.{in_slave_other}
use Rattle.master_slave.specs.Rules.Bus.{bus_byte}
use Rattle.master_slave.specs.Rules.Slaves.{is_unnamed}
use Rattle.master_slave.proofs.Bus.{bus_byte-byte}
use Rattle.master_slave.proofs.Kept.{SlaveKept, slave_refl, slave-kept, ClusterKept, kept_refl, kept_trans, kept_map}
use Rattle.multipartner.specs.Rules.Entries.{Entry, Acting, acts, acting, byte_place, receives}
use Rattle.multipartner.specs.Rules.Multipartner.{SlaveByte, nowhere, byte_of, within, may_store, store_place, stores_at, stored_there, received_in, sent_in}
use Rattle.multipartner.specs.Rules.Multipartner.{cluster_below}

-- ---- where a slave stores in a slot

pub record Storable (n k : ℕ) : Type 0 where
  pub low : 0x10 ≤ n
  pub high : n ≤ 0x3C
  pub place : record_size ≤ k

pub data Stores : SlaveByte → Type 0 where
  stays : Stores nowhere
  here : {n k : ℕ} → Storable n k → Stores (byte_of n k)

may_store_facts : (e : Entry) (slot : ℕ) → may_store e slot ≡ true → Storable e.file (byte_place e slot)
unfolding may_store
may_store_facts e slot t =
    record {
      low = leb-true _ _ (both_left _ _ t);
      high = leb-true _ _ (both_left _ _ (both_right _ _ t));
      place = leb-true _ _ (both_right _ _ (both_right _ _ t));
    }

store_place-stores : (s : Slave) (slot : ℕ) (a : Acting) → Stores (store_place s slot a)
unfolding store_place
store_place-stores s slot Acting.no_entry = stays
store_place-stores s slot (acts e) =
    by_case (Order.both (receives e.operation) (Order.both (may_store e slot) (within s e slot)))
    (λ t. rw t (here (may_store_facts e slot (both_left _ _ (both_right _ _ t)))))
    (λ t. rw t stays)

pub stores_at-stores : (passed : Entry → Bool) (round slot : ℕ) (s : Slave) → Stores (stores_at passed round slot s)
unfolding stores_at
stores_at-stores passed round slot s =
    by_case (is_awake s)
    (λ a. by_case (is_unnamed s) (λ t. rw (a, t) stays) (λ t. rw (a, t) (store_place-stores s slot (acting passed (bytes_in s round) slot))))
    (λ a. rw a stays)

pub stored-kept : (s : Slave) (b : ℕ) {p : SlaveByte} → Byte b → Stores p → SlaveKept s (stored_there s p b)
unfolding stored_there
stored-kept s b byte stays = slave_refl s
stored-kept s b byte (here {n} {k} h) = slave-kept s n k b (λ e. omega (arith, e, h.high)) (λ _. byte)

-- files outside 0x10 to 0x3C stay
pub stored_other : (s : Slave) (b : ℕ) {p : SlaveByte} → Stores p → (n : ℕ) → (0x10 ≤ n → 0x3C < n) → bytes_in (stored_there s p b) n ≡ bytes_in s n
unfolding stored_there
stored_other s b stays n out = refl
stored_other s b (here {n = m} {k} h) n out = in_slave_other m k b s n (λ e. omega (arith, h.low, h.high, out (omega (arith, h.low, e)), e))

-- ---- a cluster

pub kept_received : (passed : Entry → Bool) (round slot : ℕ) (c : Cluster) (sent : List ℕ) → ClusterKept c (received_in passed round slot c sent)
unfolding received_in
kept_received passed round slot c [] = kept_refl c
kept_received passed round slot c (b ∷ bs) =
    kept_map (λ (s : Slave). stored_there s (stores_at passed round slot s) (bus_byte (b ∷ bs)))
    (λ s. stored-kept s (bus_byte (b ∷ bs)) (bus_byte-byte (b ∷ bs)) (stores_at-stores passed round slot s)) c

pub kept-below : (passed : Entry → Bool) (round : ℕ) (c : Cluster) (n : ℕ) → ClusterKept c (cluster_below passed round c n)
unfolding cluster_below
kept-below passed round c zero = kept_refl c
kept-below passed round c (suc n) =
    kept_trans (kept-below passed round c n)
    (kept_received passed round n (cluster_below passed round c n) (sent_in passed round n (cluster_below passed round c n)))
