-- A legal cluster stays legal where bytes of a file outside the documentation, the epoch, or a legal pending operation are put.
-- Assumes nothing.
use Rattle.std.proofs.Common.{ℕ, zero, suc, ◌≡◌, ◌≢◌, List, length, get_or, set, length-set, eqb}
use Rattle.file.specs.Rules.Bytes.{Byte, Bytes, All, all_empty, all_next}
use Rattle.file.specs.Rules.Cluster.{File, Slave, Cluster, last_record, bytes_among, bytes_in, configuration, documentation}
use Rattle.file.specs.Rules.Legal.{LegalFile, Rising, end, next, LegalSlave, LegalPending, LegalAt}
use Rattle.file.specs.Inner.Places.{no_slave_lem, slave_of, put_byte, put_bytes, SameFiles, no_files, same_file}
use Rattle.file.specs.Rules.Changes.{put_among, put_in_slave, with_slaves, with_epoch, with_pending}
use Rattle.file.proofs.Order.{by_case}
use Rattle.file.proofs.Shape.{files-put, files-bytes-length, shape_count, shape_file_length, shape_put_byte}
use Rattle.file.proofs.Puts.{put_byte-names}

-- a property of every element is kept by a store of one that has it
pub all_set : {A : Type 0} {P : A → Type 0} {l : List A} {a : A} (k : ℕ) → All P l → P a → All P (set l k a)
all_set k all_empty p = all_empty
all_set zero (all_next q r) p = all_next p r
all_set (suc k) (all_next q r) p = all_next q (all_set k r p)

-- and of one made from the element that it replaces
pub all-change : {A : Type 0} {P : A → Type 0} {l : List A} (f : A → A) (d : A) (k : ℕ) → ((a : A) → P a → P (f a)) → All P l → All P (set l k (f (get_or l k d)))
all-change f d k keeps all_empty = all_empty
all-change f d zero keeps (all_next {a = x} q r) = all_next (keeps x q) r
all-change f d (suc k) keeps (all_next q r) = all_next q (all-change f d k keeps r)

-- ---- files and slaves

pub last_record-same : (l m : List ℕ) → length l ≡ length m → last_record l ≡ last_record m
unfolding last_record
last_record-same l m e = rw e

pub files-rising : {low : ℕ} {xs ys : List File} → SameFiles xs ys → Rising low xs → Rising low ys
files-rising no_files end = end
files-rising (same_file p q r) (next h t) = next (rw p at h) (files-rising r (rw p at t))

file-legal : (x : File) (k b : ℕ) → Byte b → LegalFile x → LegalFile (record { number = x.number; bytes = set x.bytes k b })
file-legal x k b byte legal =
    let same : last_record (set x.bytes k b) ≡ last_record x.bytes = last_record-same (set x.bytes k b) x.bytes (length-set x.bytes k b) in
    record {
      number = legal.number;
      some = rw same legal.some;
      most = rw same legal.most;
      whole = rw (same, length-set) legal.whole;
      bytes = all_set k legal.bytes byte;
    }

module _ (n k b : ℕ) (byte : Byte b) where
  files-legal : {xs : List File} → All LegalFile xs → All LegalFile (put_among xs n k b)
  unfolding put_among
  files-legal all_empty = all_empty
  files-legal (all_next {a = x} {l = xs} p r) =
      by_case (eqb x.number n)
      (λ e. rw e (all_next (file-legal x k b byte p) r))
      (λ e. rw e (all_next p (files-legal r)))

  pub slave-legal : (x : Slave) → LegalSlave x → LegalSlave (put_in_slave x n k b)
  unfolding put_in_slave bytes_in
  slave-legal x legal =
      let size : (m : ℕ) → last_record (bytes_among x.files m) ≡ last_record (bytes_among (put_among x.files n k b) m) =
      λ m. last_record-same (bytes_among x.files m) (bytes_among (put_among x.files n k b) m) (files-bytes-length m (files-put x.files n k b)) in
      record {
        sleeps = legal.sleeps;
        rising = files-rising (files-put x.files n k b) legal.rising;
        files = files-legal legal.files;
        configured = rw (← size configuration) legal.configured;
        documented = rw (← size documentation) legal.documented;
      }

-- ---- clusters

-- the pending operation is read from five fields alone
pending-same : (c : Cluster) (ss : List Slave) (epoch : ℕ) → Byte epoch → LegalPending c → LegalPending (with_epoch (with_slaves c ss) epoch)
unfolding with_epoch with_slaves
pending-same c ss epoch byte p =
    record {
      epoch = byte;
      flag = p.flag;
      name = p.name;
      pb2 = p.pb2;
      pb3 = p.pb3;
      operation = p.operation;
      broadcast_read = p.broadcast_read;
    }

module _ {w : ℕ} where
  -- a byte put in a file outside the documentation
  pub legal-put_byte : (c : Cluster) (s n k b : ℕ) → n ≢ documentation → Byte b → LegalAt w c → LegalAt w (put_byte c s n k b)
  unfolding put_byte with_slaves slave_of with_epoch
  legal-put_byte c s n k b differ byte legal =
      record {
        width = legal.width;
        edition = legal.edition;
        count = rw (← shape_count (shape_put_byte c s n k b)) legal.count;
        pending = pending-same c (put_byte c s n k b).slaves c.epoch legal.pending.epoch legal.pending;
        slaves = all-change (λ (x : Slave). put_in_slave x n k b) no_slave_lem s (slave-legal n k b byte) legal.slaves;
        names = rw (put_byte-names c s n k b differ) legal.names;
        size = rw (← shape_file_length w (shape_put_byte c s n k b)) legal.size;
      }

  pub legal-put_bytes : (c : Cluster) (s n k : ℕ) {bs : List ℕ} → n ≢ documentation → Bytes bs → LegalAt w c → LegalAt w (put_bytes c s n k bs)
  unfolding put_bytes
  legal-put_bytes c s n k differ all_empty legal = legal
  legal-put_bytes c s n k differ (all_next {a = b} p r) legal =
      legal-put_bytes (put_byte c s n k b) s n (suc k) differ r (legal-put_byte c s n k b differ p legal)

  -- the header's fields
  pub legal-with_pending : (c : Cluster) (flag name pb2 pb3 : ℕ) → LegalPending (with_pending c flag name pb2 pb3) → LegalAt w c → LegalAt w (with_pending c flag name pb2 pb3)
  unfolding with_pending
  legal-with_pending c flag name pb2 pb3 pending legal =
      record { width = legal.width; edition = legal.edition; count = legal.count; pending = pending; slaves = legal.slaves; names = legal.names; size = legal.size }

  pub legal-with_epoch : (c : Cluster) (epoch : ℕ) → Byte epoch → LegalAt w c → LegalAt w (with_epoch c epoch)
  unfolding with_epoch with_slaves
  legal-with_epoch c epoch byte legal =
      record {
        width = legal.width;
        edition = legal.edition;
        count = legal.count;
        pending = pending-same c c.slaves epoch byte legal.pending;
        slaves = legal.slaves;
        names = legal.names;
        size = legal.size;
      }
