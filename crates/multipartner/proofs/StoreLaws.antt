-- The slot's byte stored by the receivers: the loop, and the cluster that the file then holds.
-- Assumes nothing.
use Prim.Native.Nat.{ℕ, zero, suc, ◌+◌, ◌≤◌, ◌<◌}
use native.Mathlib.Omega.{arith}
use native.Mathlib.Numerals.{add-one}
use mathlib.Core.Path.{◌≡◌, refl, sym, ap, ◌∙◌}
use mathlib.Core.Logic.{◌≢◌}
use mathlib.Core.List.{List, [], ◌∷◌, map}
use mathlib.Core.Bool.{Bool, true}
use lib.ListN.{length, get_or, set, take, length-set}
use lib.Seq.{get_or-set_other}
use Rattle.std.proofs.lemmas.List.{get_or-take, length-take-le}
use borrow.Author.Tests.{ltb-true}
use Rattle.file.specs.Rules.Bytes.{Byte}
use Rattle.file.specs.Rules.Order as Order
use Rattle.file.specs.Rules.Layout.{record_size}
use Rattle.file.specs.Rules.Cluster.{Slave, Cluster, is_awake, bytes_in, documentation}
use Rattle.file.specs.Inner.Places.{no_slave_lem, slave_of, file_place, put_byte, SameShape}
use Rattle.file.specs.Rules.Changes.{put_in_slave, with_slaves}
use Rattle.file.specs.Inner.Accepted.{Becomes}
use Rattle.file.proofs.Order.{by_case, both_left, both_right}
use Rattle.file.proofs.AtWidth.{shape_file_place}
use Rattle.file.proofs.StoreLaws.{becomes-byte}
use Rattle.master_slave.specs.Rules.Slaves.{is_unnamed}
use Rattle.multipartner.specs.Rules.Entries.{Entry, Acting, acts, acting, byte_place, receives}
use Rattle.multipartner.specs.Rules.Multipartner.{SlaveByte, nowhere, byte_of, within, may_store, store_place, stores_at, stored_there}
use Rattle.multipartner.specs.Inner.Slots.{place_in, stored_at}
use Rattle.master_slave.proofs.Kept.{SlaveKept}
use Rattle.multipartner.proofs.StoresKept.{stores_at-stores, stored-kept}
use Rattle.master_slave.proofs.Changing.{first_changed, changed_all, changed_next, changed_same, changed_at, changed_shape}

-- ---- the loop

pub stored-length : (f places : List ℕ) (b n : ℕ) → length (stored_at f places b n) ≡ length f
unfolding stored_at
stored-length f places b zero = refl
stored-length f places b (suc n) = length-set (stored_at f places b n) (get_or places n 0) b ∙ stored-length f places b n

pub record Storing (f places : List ℕ) (b n : ℕ) (g : List ℕ) : Type 0 where
  pub most : n ≤ length places
  pub stored : g ≡ stored_at f places b n

pub storing_start : (f places : List ℕ) (b : ℕ) → Storing f places b 0 f
unfolding stored_at
storing_start f places b = record { most = omega arith; stored = refl }

module _ {f places : List ℕ} {b n : ℕ} {g : List ℕ} (h : Storing f places b n g) where
  pub storing_length : length g ≡ length f
  storing_length = ap length h.stored ∙ stored-length f places b n

  pub storing_next : n < length places → Storing f places b (n + 1) (set g (get_or places n 0) b)
  unfolding stored_at
  storing_next more = record { most = omega arith; stored = rw (add-one, h.stored) }

  pub storing_done : length places ≤ n → g ≡ stored_at f places b (length places)
  storing_done left = let e : n ≡ length places = omega (arith, h.most) in rw e at h.stored

-- the first m places alone store the same
stored-front : (f places : List ℕ) (b n m : ℕ) → n ≤ m → stored_at f (take m places) b n ≡ stored_at f places b n
unfolding stored_at
stored-front f places b zero m l = refl
stored-front f places b (suc n) m l = rw (get_or-take m places n 0 (omega arith), stored-front f places b n m (omega arith))

pub stored-first : (f places : List ℕ) (b n : ℕ) → n ≤ length places → stored_at f (take n places) b (length (take n places)) ≡ stored_at f places b n
stored-first f places b n l = rw (length-take-le n places l) (stored-front f places b n n (omega arith))

-- a place put behind the first n changes nothing of what they store
pub stored-before : (f places : List ℕ) (b p n m : ℕ) → n ≤ m → stored_at f (set places m p) b n ≡ stored_at f places b n
unfolding stored_at
stored-before f places b p zero m l = refl
stored-before f places b p (suc n) m l =
    rw (get_or-set_other places m n p 0 (λ e. omega arith), stored-before f places b p n m (omega arith))

-- the byte stored by one slave, and by the first n, each at its place, where it has one
unfoldable pub stored_in : List ℕ → List ℕ → ℕ → List ℕ
stored_in f [] b = f
stored_in f (p ∷ ps) b = set f p b

unfoldable pub stored_by : List ℕ → (ℕ → List ℕ) → ℕ → ℕ → List ℕ
stored_by f place b zero = f
stored_by f place b (suc n) = stored_in (stored_by f place b n) (place n) b

-- ---- where a receive stores lies within the slave's file

pub data Lands (s : Slave) : SlaveByte → Type 0 where
  stays : Lands s nowhere
  lands : {n k : ℕ} → 0x10 ≤ n → n ≤ 0x3C → record_size ≤ k → k < length (bytes_in s n) → Lands s (byte_of n k)

may_land : (s : Slave) (e : Entry) (slot : ℕ) → may_store e slot ≡ true → within s e slot ≡ true → Lands s (byte_of e.file (byte_place e slot))
unfolding may_store within
may_land s e slot may inside =
    lands
    (borrow.Author.Tests.leb-true 0x10 e.file (both_left _ _ may))
    (borrow.Author.Tests.leb-true e.file 0x3C (both_left _ _ (both_right _ _ may)))
    (borrow.Author.Tests.leb-true record_size (byte_place e slot) (both_right _ _ (both_right _ _ may)))
    (ltb-true (byte_place e slot) (length (bytes_in s e.file)) inside)

store_lands : (s : Slave) (slot : ℕ) (a : Acting) → Lands s (store_place s slot a)
unfolding store_place
store_lands s slot Acting.no_entry = stays
store_lands s slot (acts e) =
    by_case (Order.both (receives e.operation) (Order.both (may_store e slot) (within s e slot)))
    (λ t. let rest = both_right _ _ t in rw t (may_land s e slot (both_left _ _ rest) (both_right _ _ rest)))
    (λ t. rw t stays)

pub stores_at_lands : (passed : Entry → Bool) (round slot : ℕ) (s : Slave) → Lands s (stores_at passed round slot s)
unfolding stores_at
stores_at_lands passed round slot s =
    by_case (is_awake s)
    (λ a. by_case (is_unnamed s) (λ t. rw (a, t) stays) (λ t. rw (a, t) (store_lands s slot (acting passed (bytes_in s round) slot))))
    (λ a. rw a stays)

-- where the slave at index s stores in a slot
abbrev pub aim : (Entry → Bool) → Cluster → ℕ → ℕ → ℕ → List ℕ
aim passed c round slot s = place_in c s (stores_at passed round slot (slave_of c s))

-- ---- the file after the stores

module _ (passed : Entry → Bool) (c : Cluster) (round slot b : ℕ) where
  -- the slave with the slot's byte stored
  unfoldable pub receiver : Slave → Slave
  receiver s = stored_there s (stores_at passed round slot s) b

  -- the cluster with it stored by the first n slaves
  unfoldable pub received_by : ℕ → Cluster
  received_by n = with_slaves c (first_changed receiver n c.slaves)

pub received-all :
    (passed : Entry → Bool) (c : Cluster) (round slot b : ℕ) →
    received_by passed c round slot b (length c.slaves) ≡ with_slaves c (map (λ (s : Slave). stored_there s (stores_at passed round slot s) b) c.slaves)
unfolding received_by receiver
received-all passed c round slot b = ap (with_slaves c) (changed_all (λ (s : Slave). stored_there s (stores_at passed round slot s) b) c.slaves)

module _ (passed : Entry → Bool) (c : Cluster) (round slot b : ℕ) (byte : Byte b) where
  receiver_kept : (s : Slave) → SlaveKept s (receiver passed c round slot b s)
  unfolding receiver
  receiver_kept s = stored-kept s b byte (stores_at-stores passed round slot s)

  received_shape : (n : ℕ) → SameShape c.slaves (received_by passed c round slot b n).slaves
  unfolding received_by with_slaves
  received_shape n = changed_shape (receiver passed c round slot b) receiver_kept n c.slaves

  received_edition : (n : ℕ) → c.edition ≡ (received_by passed c round slot b n).edition
  unfolding received_by with_slaves
  received_edition n = refl

  received_place : (n s m : ℕ) → file_place (received_by passed c round slot b n) s m ≡ file_place c s m
  received_place n s m = sym (shape_file_place c (received_by passed c round slot b n) (received_edition n) (received_shape n) s m)

  received_slave : (n : ℕ) → slave_of (received_by passed c round slot b n) n ≡ slave_of c n
  unfolding slave_of received_by with_slaves
  received_slave n = changed_at (receiver passed c round slot b) c.slaves n

  -- a byte stored by slave n
  put_next :
      (n m k : ℕ) → n < length c.slaves → stores_at passed round slot (slave_of c n) ≡ byte_of m k →
      put_byte (received_by passed c round slot b n) n m k b ≡ received_by passed c round slot b (suc n)
  unfolding put_byte received_by with_slaves slave_of receiver stored_there
  put_next n m k l at =
      let ss : List Slave = c.slaves in
      let f : Slave → Slave = receiver passed c round slot b in
      let put : f (get_or ss n no_slave_lem) ≡ put_in_slave (get_or ss n no_slave_lem) m k b = rw at in
      let moved : set (first_changed f n ss) n (f (get_or ss n no_slave_lem)) ≡ first_changed f (suc n) ss = changed_next f ss n l in
      rw (changed_at f ss n, ← put, moved)

  keep_next : (n : ℕ) → stores_at passed round slot (slave_of c n) ≡ nowhere → received_by passed c round slot b n ≡ received_by passed c round slot b (suc n)
  unfolding received_by slave_of receiver stored_there
  keep_next n at =
      let same : receiver passed c round slot b (get_or c.slaves n no_slave_lem) ≡ get_or c.slaves n no_slave_lem = rw at in
      ap (with_slaves c) (changed_same (receiver passed c round slot b) c.slaves n same)

  stored-none : {f : List ℕ} → Becomes f c → Becomes f (received_by passed c round slot b 0)
  unfolding received_by first_changed with_slaves
  stored-none h = h

  store-there : {f : List ℕ} {m k : ℕ} (n : ℕ) → n < length c.slaves → Becomes f (received_by passed c round slot b n) → stores_at passed round slot (slave_of c n) ≡ byte_of m k → m ≢ documentation
      → k < length (bytes_in (slave_of c n) m) → Becomes (set f (file_place c n m + k) b) (received_by passed c round slot b (suc n))
  store-there {f} {m} {k} n l h at other inside =
      let d : Cluster = received_by passed c round slot b n in
      let fits : k < length (bytes_in (slave_of d n) m) = rw (received_slave n) inside in
      let there : file_place d n m ≡ file_place c n m = received_place n n m in
      let put : put_byte d n m k b ≡ received_by passed c round slot b (suc n) = put_next n m k l at in
      rw (← there, ← put) (becomes-byte h n m k b other byte fits)

  store-next : {f : List ℕ} (p : SlaveByte) (n : ℕ) → n < length c.slaves → Lands (slave_of c n) p → stores_at passed round slot (slave_of c n) ≡ p → Becomes f (received_by passed c round slot b n)
      → Becomes (stored_in f (place_in c n p) b) (received_by passed c round slot b (suc n))
  unfolding place_in stored_in
  store-next p n l stays at h = rw (← keep_next n at) h
  store-next p n l (lands {n = m} {k} low high place inside) at h = store-there n l h at (λ e. omega (arith, e)) inside

  pub stored-becomes : {f : List ℕ} → Becomes f c → (n : ℕ) → n ≤ length c.slaves → Becomes (stored_by f (aim passed c round slot) b n) (received_by passed c round slot b n)
  unfolding stored_by
  stored-becomes h zero l = stored-none h
  stored-becomes h (suc n) l =
      store-next (stores_at passed round slot (slave_of c n)) n (omega arith) (stores_at_lands passed round slot (slave_of c n)) refl (stored-becomes h n (omega arith))
