-- What a master-slave round keeps: the edition, the slaves' shape, their physical names, and that the cluster is legal.
-- Assumes nothing.
use Prim.Native.Nat.{ℕ, suc, ◌*◌, ◌≤◌}
use native.Mathlib.Omega.{arith}
use mathlib.Core.Path.{◌≡◌, refl, ◌∙◌}
use mathlib.Core.Logic.{◌≢◌}
use mathlib.Core.List.{List, [], ◌∷◌, map}
use mathlib.Core.Bool.{Bool, true, cond, not}
use lib.Dec.{eqb}
use borrow.Author.Tests.{not-true, eq-eqb}
use Rattle.file.specs.Rules.Bytes.{Byte, Bytes, All, all_empty, all_next}
use Rattle.file.specs.Rules.Layout.{record_size}
use Rattle.file.specs.Inner.Layout.{new_logical_name_place, logical_name_place}
use Rattle.file.specs.Rules.Cluster.{File, Slave, Cluster, bytes_among, bytes_in, configuration, documentation, physical_name, new_logical_name}
use Rattle.file.specs.Rules.Legal.{LegalFile, LegalSlave, LegalPending, Legal}
use Rattle.file.specs.Rules.Changes.{put_in_slave, with_sleep, with_slaves, with_epoch, with_pending}
use Rattle.file.specs.Inner.Places.{SameFiles, SameShape, no_slaves, same_slave}
use Rattle.file.proofs.Order.{by_case, clash, both_left, both_right}
use Rattle.file.proofs.Shape.{files_refl, files_trans, shape_refl, shape_trans, shape_count, shape_file_length, slave-put}
use Rattle.file.proofs.Puts.{in_slave_physical_name}
use Rattle.file.proofs.Kept.{slave-legal, legal-with_epoch, legal-with_pending}
use Rattle.file.proofs.SleepStores.{slave_slept}
use Rattle.file.proofs.Bytes.{all_take, byte_at}
use Rattle.master_slave.specs.Rules.Slaves.{next_epoch, epoch_raised, Duty, nothing, reading, writing, comparing, baptizing, sleeping, may_write}
use Rattle.master_slave.specs.Rules.Slaves.{is_name_record, written, takes_write, takes_name, named, replaced, slave_after, slaves_after, falls_asleep}
use Rattle.master_slave.specs.Rules.Slaves.{rests_after, rested}

-- ---- a slave

pub record SlaveKept (s t : Slave) : Type 0 where
  pub files : SameFiles s.files t.files
  pub name : physical_name t ≡ physical_name s
  pub legal : LegalSlave s → LegalSlave t

pub slave_refl : (s : Slave) → SlaveKept s s
slave_refl s = record { files = files_refl s.files; name = refl; legal = λ l. l }

pub slave_trans : {s t u : Slave} → SlaveKept s t → SlaveKept t u → SlaveKept s u
slave_trans p q =
    record { files = files_trans p.files q.files; name = q.name ∙ p.name; legal = λ l. q.legal (p.legal l) }

pub slave-kept : (s : Slave) (n k b : ℕ) → n ≢ documentation → (LegalSlave s → Byte b) → SlaveKept s (put_in_slave s n k b)
slave-kept s n k b differ byte =
    record {
      files = slave-put s n k b;
      name = in_slave_physical_name n k b s differ;
      legal = λ l. slave-legal n k b (byte l) s l;
    }

pub replaced-kept : (s : Slave) (n k : ℕ) {bs : List ℕ} → n ≢ documentation → Bytes bs → SlaveKept s (replaced s n k bs)
unfolding replaced
replaced-kept s n k differ all_empty = slave_refl s
replaced-kept s n k differ (all_next {a = b} p r) =
    slave_trans (slave-kept s n k b differ (λ _. p)) (replaced-kept (put_in_slave s n k b) n (suc k) differ r)

-- the bytes of a legal slave's files are bytes
among_bytes : {xs : List File} (n : ℕ) → All LegalFile xs → Bytes (bytes_among xs n)
unfolding bytes_among
among_bytes n all_empty = all_empty
among_bytes n (all_next {a = x} p r) = by_case (eqb x.number n) (λ e. rw e p.bytes) (λ e. rw e (among_bytes n r))

pub slave-bytes : {s : Slave} (n : ℕ) → LegalSlave s → Bytes (bytes_in s n)
unfolding bytes_in
slave-bytes n l = among_bytes n l.files

pub new_logical_name-byte : {s : Slave} → LegalSlave s → Byte (new_logical_name s)
unfolding new_logical_name
new_logical_name-byte l = byte_at (slave-bytes configuration l) (new_logical_name_place)

pub named-kept : (s : Slave) → SlaveKept s (named s)
unfolding named
named-kept s =
    slave-kept s configuration (logical_name_place) (new_logical_name s) (λ e. omega (arith, e)) (λ l. new_logical_name-byte l)

-- a write is never one of the documentation
pub takes_write-file : (name n r : ℕ) (s : Slave) → takes_write name n r s ≡ true → n ≢ documentation
unfolding takes_write may_write
takes_write-file name n r s e same =
    let test : not (eqb n documentation) ≡ true = both_left _ _ (both_right _ _ (both_right _ _ e)) in
    clash (eq-eqb n documentation same) (not-true _ test)

-- and never one of a record 0x00
pub takes_write-record : (name n r : ℕ) (s : Slave) → takes_write name n r s ≡ true → r ≢ 0x00
unfolding takes_write may_write
takes_write-record name n r s e same =
    let test : not (eqb r 0x00) ≡ true = both_right _ _ (both_right _ _ (both_right _ _ e)) in
    clash (eq-eqb r 0x00 same) (not-true _ test)

-- what a record takes of bytes is bytes
pub written-bytes : (n r : ℕ) {bs : List ℕ} → Bytes bs → Bytes (written n r bs)
unfolding written
written-bytes n r bytes = by_case (is_name_record n r) (λ e. rw e (all_take 3 bytes)) (λ e. rw e bytes)

pub slave_after-kept : (o : Duty) {bs : List ℕ} → Bytes bs → (s : Slave) → SlaveKept s (slave_after o bs s)
unfolding slave_after
slave_after-kept nothing bytes s = slave_refl s
slave_after-kept (reading name n r) bytes s = slave_refl s
slave_after-kept (writing name n r) bytes s =
    by_case (takes_write name n r s)
    (λ e. rw e (replaced-kept s n (record_size * r) (takes_write-file name n r s e) (written-bytes n r bytes)))
    (λ e. rw e (slave_refl s))
slave_after-kept (comparing name) bytes s = slave_refl s
slave_after-kept (baptizing name) bytes s =
    by_case (takes_name name s) (λ e. rw e (named-kept s)) (λ e. rw e (slave_refl s))
slave_after-kept (sleeping name) bytes s = slave_refl s

-- ---- asleep or awake, a slave keeps its files

sleep_few : (falls : Bool) → cond falls 1 0 ≤ 1
sleep_few falls = by_case falls (λ e. rw e (omega arith)) (λ e. rw e (omega arith))

slept_kept : (s : Slave) (b : ℕ) → b ≤ 1 → SlaveKept s (with_sleep s b)
unfolding with_sleep physical_name bytes_in
slept_kept s b few = record { files = files_refl s.files; name = refl; legal = λ l. slave_slept s b few l }

pub rests_kept : (o : Duty) (s : Slave) → SlaveKept s (rests_after o s)
unfolding rests_after
rests_kept o s = slept_kept s (cond (falls_asleep o s) 1 0) (sleep_few (falls_asleep o s))

pub rests_bytes : (o : Duty) (s : Slave) (n : ℕ) → bytes_in (rests_after o s) n ≡ bytes_in s n
unfolding rests_after with_sleep bytes_in
rests_bytes o s n = refl

-- ---- a cluster

pub record ClusterKept (c d : Cluster) : Type 0 where
  pub edition : d.edition ≡ c.edition
  pub shape : SameShape c.slaves d.slaves
  pub names : map physical_name d.slaves ≡ map physical_name c.slaves
  pub legal : Legal c → Legal d

pub kept_refl : (c : Cluster) → ClusterKept c c
kept_refl c = record { edition = refl; shape = shape_refl c.slaves; names = refl; legal = λ l. l }

pub kept_trans : {c d e : Cluster} → ClusterKept c d → ClusterKept d e → ClusterKept c e
kept_trans p q =
    record {
      edition = q.edition ∙ p.edition;
      shape = shape_trans p.shape q.shape;
      names = q.names ∙ p.names;
      legal = λ l. q.legal (p.legal l);
    }

shape_map : (f : Slave → Slave) → ((s : Slave) → SameFiles s.files (f s).files) → (ss : List Slave) → SameShape ss (map f ss)
shape_map f same [] = no_slaves
shape_map f same (s ∷ ss) = same_slave (same s) (shape_map f same ss)

module _ (f : Slave → Slave) (keeps : (s : Slave) → SlaveKept s (f s)) where
  map_shape : (ss : List Slave) → SameShape ss (map f ss)
  map_shape ss = shape_map f (λ s. (keeps s).files) ss

  map-names : (ss : List Slave) → map physical_name (map f ss) ≡ map physical_name ss
  map-names [] = refl
  map-names (s ∷ ss) = rw ((keeps s).name, map-names ss)

  map-legal : {ss : List Slave} → All LegalSlave ss → All LegalSlave (map f ss)
  map-legal all_empty = all_empty
  map-legal (all_next {a = s} p r) = all_next ((keeps s).legal p) (map-legal r)

  pub kept_map : (c : Cluster) → ClusterKept c (with_slaves c (map f c.slaves))
  unfolding with_slaves
  kept_map c =
      record {
        edition = refl;
        shape = map_shape c.slaves;
        names = map-names c.slaves;
        legal = λ l. record {
          width = l.width;
          edition = l.edition;
          count = rw (← shape_count (map_shape c.slaves)) l.count;
          pending = pending-slaves c (map f c.slaves) l.pending;
          slaves = map-legal l.slaves;
          names = rw (map-names c.slaves) l.names;
          size = rw (← shape_file_length _ (map_shape c.slaves)) l.size;
        };
      }
    where
      pending-slaves : (d : Cluster) (ss : List Slave) → LegalPending d → LegalPending (with_slaves d ss)
      pending-slaves d ss p =
          record {
            epoch = p.epoch;
            flag = p.flag;
            name = p.name;
            pb2 = p.pb2;
            pb3 = p.pb3;
            operation = p.operation;
            broadcast_read = p.broadcast_read;
          }

pub next_epoch-byte : (n : ℕ) → Byte (next_epoch n)
unfolding next_epoch
next_epoch-byte n = omega arith

pub kept-epoch : (c : Cluster) (epoch : ℕ) → Byte epoch → ClusterKept c (with_epoch c epoch)
unfolding with_epoch
kept-epoch c epoch byte =
    record { edition = refl; shape = shape_refl c.slaves; names = refl; legal = λ l. legal-with_epoch c epoch byte l }

pub kept_raised : (c : Cluster) → ClusterKept c (epoch_raised c)
unfolding epoch_raised
kept_raised c = kept-epoch c (next_epoch c.epoch) (next_epoch-byte c.epoch)

pub kept-pending : (c : Cluster) (flag name pb2 pb3 : ℕ) → LegalPending (with_pending c flag name pb2 pb3) → ClusterKept c (with_pending c flag name pb2 pb3)
unfolding with_pending
kept-pending c flag name pb2 pb3 p =
    record { edition = refl; shape = shape_refl c.slaves; names = refl; legal = λ l. legal-with_pending c flag name pb2 pb3 p l }

pub kept-after : (o : Duty) {bs : List ℕ} → Bytes bs → (c : Cluster) → ClusterKept c (slaves_after o bs c)
unfolding slaves_after
kept-after o {bs} bytes c = kept_map (slave_after o bs) (slave_after-kept o bytes) c

-- the shape is kept whatever the data
replaced-files : (s : Slave) (n k : ℕ) (bs : List ℕ) → SameFiles s.files (replaced s n k bs).files
unfolding replaced
replaced-files s n k [] = files_refl s.files
replaced-files s n k (b ∷ bs) = files_trans (slave-put s n k b) (replaced-files (put_in_slave s n k b) n (suc k) bs)

after-files : (o : Duty) (bs : List ℕ) (s : Slave) → SameFiles s.files (slave_after o bs s).files
unfolding slave_after
after-files nothing bs s = files_refl s.files
after-files (reading name n r) bs s = files_refl s.files
after-files (writing name n r) bs s =
    by_case (takes_write name n r s) (λ e. rw e (replaced-files s n (record_size * r) (written n r bs))) (λ e. rw e (files_refl s.files))
after-files (comparing name) bs s = files_refl s.files
after-files (baptizing name) bs s = by_case (takes_name name s) (λ e. rw e (named-kept s).files) (λ e. rw e (files_refl s.files))
after-files (sleeping name) bs s = files_refl s.files

pub after_shape : (o : Duty) (bs : List ℕ) (c : Cluster) → SameShape c.slaves (slaves_after o bs c).slaves
unfolding slaves_after with_slaves
after_shape o bs c = shape_map (slave_after o bs) (after-files o bs) c.slaves

pub kept-rested : (o : Duty) (c : Cluster) → ClusterKept c (rested o c)
unfolding rested
kept-rested o c = kept_map (rests_after o) (rests_kept o) c

pub ruleset changed_bytes = (slave_after-kept, all_empty)
