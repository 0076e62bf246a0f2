-- What keeps a cluster legal: an update that leaves the slaves' shape, the header's legality and the physical names alone and puts
-- bytes in its files. A layer above proves these of what it changes, and need not look at the layout again. Over the offset width w,
-- then in the cluster's edition.
-- Assumes nothing.
use Rattle.std.proofs.Common.{ℕ, ◌≤◌, arith, ◌≡◌, sym, ◌∙◌, subst, List, map, length}
use Rattle.file.specs.Rules.Bytes.{All, Bytes}
use Rattle.file.specs.Rules.Layout.{width_in, max_slaves, max_length}
use Rattle.file.specs.Rules.Cluster.{File, Slave, Cluster, last_record, bytes_in, configuration, documentation, physical_name}
use Rattle.file.specs.Rules.Encode.{encode}
use Rattle.file.specs.Rules.Legal.{LegalFile, LegalSlave, LegalPending, LegalAt, Legal, Distinct}
use Rattle.file.specs.Inner.Places.{SameFiles, no_files, same_file, SameShape, no_slaves, same_slave}
use Rattle.file.specs.Inner.Accepted.{Becomes}
use Rattle.file.proofs.Bytes.{all_map}
use Rattle.file.proofs.Shape.{files-bytes-length, shape_count, shape_file_length}
use Rattle.file.proofs.Kept.{last_record-same, files-rising}
use Rattle.file.proofs.Accepted.{legal-becomes}

-- the files of a slave are bytes, and it is awake or asleep
pub record HoldsBytes (s : Slave) : Type 0 where
  pub sleeps : s.asleep ≤ 1
  pub files : All (λ x. Bytes x.bytes) s.files

pub legal-bytes : (s : Slave) → LegalSlave s → HoldsBytes s
legal-bytes s l = record { sleeps = l.sleeps; files = all_map (λ (x : File) (h : LegalFile x). h.bytes) l.files }

-- files of the same shape, of bytes, are legal where the others are
pub same-file-legal : (x y : File) → x.number ≡ y.number → length x.bytes ≡ length y.bytes → Bytes y.bytes → LegalFile x → LegalFile y
same-file-legal x y number size bytes l =
    let last : last_record x.bytes ≡ last_record y.bytes = last_record-same x.bytes y.bytes size in
    record {
      number = omega (arith, l.number);
      some = omega (arith, l.some);
      most = omega (arith, l.most);
      whole = omega (arith, l.whole);
      bytes = bytes;
    }

pub same-files-legal : {xs ys : List File} → SameFiles xs ys → All (λ x. Bytes x.bytes) ys → All LegalFile xs → All LegalFile ys
same-files-legal no_files All.all_empty All.all_empty = All.all_empty
same-files-legal (same_file {x = x} {y = y} number size r) (All.all_next b bs) (All.all_next l ls) =
    All.all_next (same-file-legal x y number size b l) (same-files-legal r bs ls)

-- and so are slaves
pub same-slave-legal : (s t : Slave) → SameFiles s.files t.files → HoldsBytes t → LegalSlave s → LegalSlave t
unfolding bytes_in
same-slave-legal s t same b l =
    let size : (n : ℕ) → last_record (bytes_in s n) ≡ last_record (bytes_in t n) =
    λ n. last_record-same (bytes_in s n) (bytes_in t n) (files-bytes-length n same)
    in
    record {
      sleeps = b.sleeps;
      rising = files-rising same l.rising;
      files = same-files-legal same b.files l.files;
      configured = subst (λ (n : ℕ). 3 ≤ n) (size configuration) l.configured;
      documented = subst (λ (n : ℕ). 2 ≤ n) (size documentation) l.documented;
    }

pub same-slaves-legal : {ss ts : List Slave} → SameShape ss ts → All HoldsBytes ts → All LegalSlave ss → All LegalSlave ts
same-slaves-legal no_slaves All.all_empty All.all_empty = All.all_empty
same-slaves-legal (same_slave {s = s} {t = t} same r) (All.all_next b bs) (All.all_next l ls) =
    All.all_next (same-slave-legal s t same b l) (same-slaves-legal r bs ls)

-- ---- the cluster

-- what an update of the cluster c to d has to keep
pub record Keeps (c d : Cluster) : Type 0 where
  pub edition : d.edition ≡ c.edition
  pub pending : LegalPending d
  pub shape : SameShape c.slaves d.slaves
  pub bytes : All HoldsBytes d.slaves
  pub names : map physical_name d.slaves ≡ map physical_name c.slaves

pub kept-legal-at : (w : ℕ) (c d : Cluster) → LegalAt w c → Keeps c d → LegalAt w d
kept-legal-at w c d l k =
    record {
      width = l.width;
      edition = k.edition ∙ l.edition;
      count = subst (λ (n : ℕ). n ≤ max_slaves w) (shape_count k.shape) l.count;
      pending = k.pending;
      slaves = same-slaves-legal k.shape k.bytes l.slaves;
      names = subst (λ (ns : List ℕ). Distinct ns) (sym k.names) l.names;
      size = subst (λ (n : ℕ). n ≤ max_length w) (shape_file_length w k.shape) l.size;
    }

-- in its edition: the cluster stays legal, and its encoding is accepted and holds it
pub kept-legal : (c d : Cluster) → Legal c → Keeps c d → Becomes (encode d) d
kept-legal c d l k = legal-becomes d (subst (λ (e : ℕ). LegalAt (width_in e) d) (sym k.edition) (kept-legal-at (width_in c.edition) c d l k))
