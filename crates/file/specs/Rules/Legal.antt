-- A legal cluster, by its fields alone (document 01, "The cluster file"; document 02, job 10): what an accepted file holds.
use Rattle.std.specs.Prelude.{ℕ, suc, ◌+◌, ◌*◌, ◌≤◌, ◌≡◌, List, [], ◌∷◌, map, length}
use Rattle.file.specs.Rules.Bytes.{Byte, Bytes, All}
use Rattle.file.specs.Rules.Layout.{OffsetWidth, width_in, edition_of, pending_flag, max_slaves, max_length, record_size}
use Rattle.file.specs.Rules.Cluster.{File, Slave, Cluster, bytes_in, last_record, configuration, documentation, physical_name, operation_of, read_operation, broadcast}
use Rattle.file.specs.Rules.Encode.{file_length}

-- "file number 0 to 63", "record count r, 1 to 255", "A file is 4(r + 1) bytes"
pub record LegalFile (x : File) : Type 0 where
  pub number : x.number ≤ 63
  pub some : 1 ≤ last_record x.bytes
  pub most : last_record x.bytes ≤ 255
  pub whole : length x.bytes ≡ record_size * (last_record x.bytes + 1)
  pub bytes : Bytes x.bytes

-- file numbers "strictly rising", from low on
pub data Rising : ℕ → List File → Type 0 where
  end : {low : ℕ} → Rising low []
  next : {low : ℕ} {x : File} {xs : List File} → low ≤ x.number → Rising (suc x.number) xs → Rising low (x ∷ xs)

-- "Every slave has file 0x08 (configuration) with r at least 3 and file 0x3D (documentation, 000) with r at least 2."
-- "0 awake or 1 asleep" (document 02, job 9)
pub record LegalSlave (s : Slave) : Type 0 where
  pub sleeps : s.asleep ≤ 1
  pub rising : Rising 0 s.files
  pub files : All LegalFile s.files
  pub configured : 3 ≤ last_record (bytes_in s configuration)
  pub documented : 2 ≤ last_record (bytes_in s documentation)

-- no element of the list stands there twice
pub data Distinct : List ℕ → Type 0 where
  end : Distinct []
  next : {n : ℕ} {ns : List ℕ} → All (λ m. n ≡ m → ⊥) ns → Distinct ns → Distinct (n ∷ ns)

-- the header's five bytes: a pending operation is no operation 3 and no broadcast read
pub record LegalPending (c : Cluster) : Type 0 where
  pub epoch : Byte c.epoch
  pub flag : c.flag ≤ pending_flag
  pub name : Byte c.pending_name
  pub pb2 : Byte c.pending_pb2
  pub pb3 : Byte c.pending_pb3
  pub operation : c.flag ≡ pending_flag → operation_of c.pending_pb2 ≡ 3 → ⊥
  pub broadcast_read : c.flag ≡ pending_flag → operation_of c.pending_pb2 ≡ read_operation → c.pending_name ≡ broadcast → ⊥

-- in the edition of that offset width, which is one that there is: the slave count and the length are within the edition's limits
pub record LegalAt (w : ℕ) (c : Cluster) : Type 0 where
  pub width : OffsetWidth w
  pub edition : c.edition ≡ edition_of w
  pub count : length c.slaves ≤ max_slaves w
  pub pending : LegalPending c
  pub slaves : All LegalSlave c.slaves
  pub names : Distinct (map physical_name c.slaves)
  pub size : file_length w c.slaves ≤ max_length w

-- in its own edition
abbrev pub Legal : Cluster → Type 0
Legal c = LegalAt (width_in c.edition) c
