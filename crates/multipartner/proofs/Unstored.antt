-- What a multipartner round leaves as it was: all files but 0x10 to 0x3C, and who is awake.
-- Assumes nothing.
use Prim.Native.Nat.{ℕ, zero, suc, ◌≤◌, ◌<◌}
use mathlib.Core.Path.{◌≡◌, refl, sym, ap, ◌∙◌}
use mathlib.Core.List.{List, [], ◌∷◌, map}
use mathlib.Core.Bool.{Bool}
use lib.ListN.{get_or, get_or-map}
use Rattle.file.specs.Rules.Cluster.{Slave, Cluster, is_awake}
use Rattle.file.specs.Inner.Places.{no_slave_lem, slave_of}
use Rattle.file.specs.Rules.Changes.{put_in_slave, with_slaves}
use Rattle.master_slave.specs.Rules.Bus.{bus_byte}
use Rattle.master_slave.proofs.Untouched.{files_of, files_of-map}
use Rattle.multipartner.specs.Rules.Entries.{Entry}
use Rattle.multipartner.specs.Rules.Multipartner.{SlaveByte, nowhere, byte_of, stores_at, stored_there, received_in, sent_in, cluster_below}
use Rattle.multipartner.proofs.StoresKept.{stores_at-stores, stored_other}

-- a file that no receive stores in
abbrev pub Unstored : ℕ → Type 0
Unstored n = 0x10 ≤ n → 0x3C < n

pub received_other : (passed : Entry → Bool) (round slot : ℕ) (c : Cluster) (sent : List ℕ) (n : ℕ) → Unstored n → files_of n (received_in passed round slot c sent).slaves ≡ files_of n c.slaves
unfolding received_in with_slaves
received_other passed round slot c [] n out = refl
received_other passed round slot c (b ∷ bs) n out =
    files_of-map n (λ (s : Slave). stored_there s (stores_at passed round slot s) (bus_byte (b ∷ bs)))
    (λ s. stored_other s (bus_byte (b ∷ bs)) (stores_at-stores passed round slot s) n out) c.slaves

pub below_other : (passed : Entry → Bool) (round : ℕ) (c : Cluster) (k n : ℕ) → Unstored n → files_of n (cluster_below passed round c k).slaves ≡ files_of n c.slaves
unfolding cluster_below
below_other passed round c zero n out = refl
below_other passed round c (suc k) n out =
    received_other passed round k (cluster_below passed round c k) (sent_in passed round k (cluster_below passed round c k)) n out ∙ below_other passed round c k n out

-- nobody falls asleep or wakes between the slots
stored-awake : (s : Slave) (p : SlaveByte) (b : ℕ) → is_awake (stored_there s p b) ≡ is_awake s
unfolding stored_there put_in_slave is_awake
stored-awake s nowhere b = refl
stored-awake s (byte_of n k) b = refl

awake-map : (f : Slave → Slave) → ((s : Slave) → is_awake (f s) ≡ is_awake s) → (ss : List Slave) → map is_awake (map f ss) ≡ map is_awake ss
awake-map f same [] = refl
awake-map f same (s ∷ ss) = rw (same s, awake-map f same ss)

pub received_awake : (passed : Entry → Bool) (round slot : ℕ) (c : Cluster) (sent : List ℕ) → map is_awake (received_in passed round slot c sent).slaves ≡ map is_awake c.slaves
unfolding received_in with_slaves
received_awake passed round slot c [] = refl
received_awake passed round slot c (b ∷ bs) =
    awake-map (λ (s : Slave). stored_there s (stores_at passed round slot s) (bus_byte (b ∷ bs)))
    (λ s. stored-awake s (stores_at passed round slot s) (bus_byte (b ∷ bs))) c.slaves

pub below-awake : (passed : Entry → Bool) (round : ℕ) (c : Cluster) (k : ℕ) → map is_awake (cluster_below passed round c k).slaves ≡ map is_awake c.slaves
unfolding cluster_below
below-awake passed round c zero = refl
below-awake passed round c (suc k) =
    received_awake passed round k (cluster_below passed round c k) (sent_in passed round k (cluster_below passed round c k)) ∙ below-awake passed round c k

pub awake-slave : (c d : Cluster) → map is_awake d.slaves ≡ map is_awake c.slaves → (s : ℕ) → is_awake (slave_of d s) ≡ is_awake (slave_of c s)
unfolding slave_of
awake-slave c d same s =
    sym (get_or-map is_awake d.slaves s no_slave_lem)
    ∙ ap (λ (l : List Bool). get_or l s (is_awake no_slave_lem)) same
    ∙ get_or-map is_awake c.slaves s no_slave_lem
