-- Files that a master-slave round leaves as they were: its data part all but the one written, or the configuration where the operation is
-- an execute of it.
-- Assumes nothing.
use Prim.Native.Nat.{ℕ, suc, ◌+◌, ◌*◌}
use mathlib.Core.Path.{◌≡◌, refl, sym, ap, ◌∙◌}
use mathlib.Core.Logic.{◌≢◌}
use mathlib.Core.List.{List, [], ◌∷◌, map}
use lib.ListN.{get_or, get_or-map}
use Rattle.file.specs.Rules.Layout.{record_size}
use Rattle.file.specs.Rules.Cluster.{Slave, Cluster, bytes_in, configuration, new_logical_name}
use Rattle.file.specs.Inner.Places.{no_slave_lem, slave_of}
use Rattle.file.specs.Rules.Changes.{put_in_slave, with_slaves}
use Rattle.file.proofs.Order.{by_case}
use Rattle.file.proofs.Puts.{in_slave_other}
use Rattle.master_slave.specs.Rules.Slaves.{Duty, nothing, reading, writing, comparing, baptizing, written, takes_write, takes_name, named, replaced}
use Rattle.master_slave.specs.Rules.Slaves.{slave_after, slaves_after, rests_after, rested}
use Rattle.master_slave.proofs.Kept.{rests_bytes}

-- the bytes of file n, slave by slave
unfoldable pub files_of : ℕ → List Slave → List (List ℕ)
files_of n ss = map (λ (s : Slave). bytes_in s n) ss

-- the same of the slave at an index
pub files_of-slave : (n : ℕ) (c d : Cluster) → files_of n d.slaves ≡ files_of n c.slaves → (s : ℕ) → bytes_in (slave_of d s) n ≡ bytes_in (slave_of c s) n
unfolding files_of slave_of
files_of-slave n c d same s =
    sym (get_or-map (λ (x : Slave). bytes_in x n) d.slaves s no_slave_lem)
    ∙ ap (λ (l : List (List ℕ)). get_or l s (bytes_in no_slave_lem n)) same
    ∙ get_or-map (λ (x : Slave). bytes_in x n) c.slaves s no_slave_lem

pub files_of-map : (n : ℕ) (f : Slave → Slave) → ((s : Slave) → bytes_in (f s) n ≡ bytes_in s n) → (ss : List Slave) → files_of n (map f ss) ≡ files_of n ss
unfolding files_of
files_of-map n f same [] = refl
files_of-map n f same (s ∷ ss) = rw (same s, files_of-map n f same ss)

-- ---- the data part of a master-slave round

-- the operation changes no byte of file n
pub data Leaves (n : ℕ) : Duty → Type 0 where
  by_nothing : Leaves n nothing
  by_read : {name m r : ℕ} → Leaves n (reading name m r)
  by_write : {name m r : ℕ} → n ≢ m → Leaves n (writing name m r)
  by_compare : {name : ℕ} → Leaves n (comparing name)
  by_baptize : {name : ℕ} → n ≢ configuration → Leaves n (baptizing name)

pub replaced-other : (s : Slave) (m k : ℕ) (bs : List ℕ) (n : ℕ) → n ≢ m → bytes_in (replaced s m k bs) n ≡ bytes_in s n
unfolding replaced
replaced-other s m k [] n differ = refl
replaced-other s m k (b ∷ bs) n differ =
    replaced-other (put_in_slave s m k b) m (suc k) bs n differ ∙ in_slave_other m k b s n differ

pub slave_after-other : {n : ℕ} {o : Duty} → Leaves n o → (bytes : List ℕ) (s : Slave) → bytes_in (slave_after o bytes s) n ≡ bytes_in s n
unfolding slave_after named
slave_after-other by_nothing bytes s = refl
slave_after-other by_read bytes s = refl
slave_after-other {n} (by_write {name} {m} {r} differ) bytes s =
    by_case (takes_write name m r s) (λ e. rw e (replaced-other s m (record_size * r) (written m r bytes) n differ)) (λ e. rw e)
slave_after-other by_compare bytes s = refl
slave_after-other {n} (by_baptize {name} differ) bytes s =
    by_case (takes_name name s) (λ e. rw e (in_slave_other configuration (record_size + 3) (new_logical_name s) s n differ)) (λ e. rw e)

pub after-other : {n : ℕ} {o : Duty} → Leaves n o → (bytes : List ℕ) (c : Cluster) → files_of n (slaves_after o bytes c).slaves ≡ files_of n c.slaves
unfolding slaves_after with_slaves
after-other {n} {o} leaves bytes c = files_of-map n (slave_after o bytes) (slave_after-other leaves bytes) c.slaves

-- ---- asleep or awake afterwards, the slaves keep their files

pub rested-other : (o : Duty) (n : ℕ) (c : Cluster) → files_of n (rested o c).slaves ≡ files_of n c.slaves
unfolding rested with_slaves
rested-other o n c = files_of-map n (rests_after o) (λ s. rests_bytes o s n) c.slaves
