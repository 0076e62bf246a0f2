-- Multipartner rounds, slot by slot (document 01, "Multipartner rounds").
use Rattle.std.specs.Prelude.{ℕ, zero, suc, List, [], ◌∷◌, ◌++◌, map, Bool, cond, length, get_or, leb, ltb}
use Rattle.file.specs.Rules.Order.{both}
use Rattle.file.specs.Rules.Layout.{record_size}
use Rattle.file.specs.Rules.Cluster.{Slave, Cluster, is_awake, bytes_in}
use Rattle.file.specs.Rules.Changes.{put_in_slave, with_slaves}
use Rattle.master_slave.specs.Rules.Bus.{Senders, bus_byte}
use Rattle.master_slave.specs.Rules.Slaves.{is_unnamed, epoch_raised}
use Rattle.multipartner.specs.Rules.Entries.{Entry, Acting, no_entry, acts, acting, byte_place, sends, receives, out_of_turn}

-- a file and a byte of it, or none
pub data SlaveByte : Type 0 where
  nowhere : SlaveByte
  byte_of : ℕ → ℕ → SlaveByte

-- "A place outside the file, or in a file not there, does nothing"
unfoldable pub within : Slave → Entry → ℕ → Bool
within s e slot = ltb (byte_place e slot) (length (bytes_in s e.file))

-- where an entry sends from
unfoldable pub send_place : Slave → ℕ → Acting → SlaveByte
send_place s slot no_entry = nowhere
send_place s slot (acts e) = cond (both (sends e.operation) (within s e slot)) (byte_of e.file (byte_place e slot)) nowhere

-- "a receive stores only in files 0x10 to 0x3C, outside record 0x00"
unfoldable pub may_store : Entry → ℕ → Bool
may_store e slot = both (leb 0x10 e.file) (both (leb e.file 0x3C) (leb record_size (byte_place e slot)))

-- where an entry stores
unfoldable pub store_place : Slave → ℕ → Acting → SlaveByte
store_place s slot no_entry = nowhere
store_place s slot (acts e) =
    cond (both (receives e.operation) (both (may_store e slot) (within s e slot))) (byte_of e.file (byte_place e slot)) nowhere

-- "Round r runs file r of each slave not unnamed; others take no part.": where a slave's round file has it send from in a slot, by the
-- entries that are passed over
unfoldable pub plans_from : (Entry → Bool) → ℕ → ℕ → Slave → SlaveByte
plans_from passed round slot s = cond (is_unnamed s) nowhere (send_place s slot (acting passed (bytes_in s round) slot))

-- which is where it sends from, in a round that passes over these, if it is awake: "A sleeping slave takes no part in rounds" (document
-- 02, job 9)
unfoldable pub sends_from : (Entry → Bool) → ℕ → ℕ → Slave → SlaveByte
sends_from passed round slot s = cond (is_awake s) (plans_from passed round slot s) nowhere

-- and where it stores
unfoldable pub stores_at : (Entry → Bool) → ℕ → ℕ → Slave → SlaveByte
stores_at passed round slot s =
    cond (is_awake s) (cond (is_unnamed s) nowhere (store_place s slot (acting passed (bytes_in s round) slot))) nowhere

-- the byte that stands there
unfoldable pub byte_there : Slave → SlaveByte → List ℕ
byte_there s nowhere = []
byte_there s (byte_of n k) = get_or (bytes_in s n) k 0 ∷ []

-- the slave with a byte stored there
unfoldable pub stored_there : Slave → SlaveByte → ℕ → Slave
stored_there s nowhere b = s
stored_there s (byte_of n k) b = put_in_slave s n k b

-- "Senders read first": the bytes that the slaves send in a slot
unfoldable pub sent_by : (Entry → Bool) → ℕ → ℕ → List Slave → List ℕ
sent_by passed round slot [] = []
sent_by passed round slot (s ∷ ss) = byte_there s (sends_from passed round slot s) ++ sent_by passed round slot ss

-- "Slots 1 to 63 run in order": nobody sends in slot 0, "bit 0 is never set"
unfoldable pub sent_in : (Entry → Bool) → ℕ → ℕ → Cluster → List ℕ
sent_in passed round zero c = []
sent_in passed round (suc slot) c = sent_by passed round (suc slot) c.slaves

-- "then receivers store, if someone sent": the cluster with the slot's byte stored, of the bytes sent in it
unfoldable pub received_in : (Entry → Bool) → ℕ → ℕ → Cluster → List ℕ → Cluster
received_in passed round slot c [] = c
received_in passed round slot c (b ∷ bs) =
    with_slaves c (map (λ (s : Slave). stored_there s (stores_at passed round slot s) (bus_byte (b ∷ bs))) c.slaves)

-- the cluster after the slots below n
-- "Senders read first, then receivers store, if someone sent."
unfoldable pub cluster_below : (Entry → Bool) → ℕ → Cluster → ℕ → Cluster
cluster_below passed round c zero = c
cluster_below passed round c (suc n) = let before = cluster_below passed round c n in received_in passed round n before (sent_in passed round n before)

-- who sends in each slot
unfoldable pub sent_during : (Entry → Bool) → ℕ → Cluster → Senders
sent_during passed round c slot = sent_in passed round slot (cluster_below passed round c slot)

-- the entries that a multipartner round passes over: those out of turn, "the epoch already raised for this round" (document 02, job 7)
unfoldable pub passed_over_lem : Cluster → Entry → Bool
passed_over_lem c = out_of_turn (epoch_raised c).epoch
