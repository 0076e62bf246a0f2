-- What a join leaves in the buffer (document 02, job 13: "The result holds the first file's slaves and then the second's, with epoch and
-- pending bytes 0 and all awake. A slave of the second whose logical name the first also holds becomes 0xFF (byte 3 of record 1 of 0x08).
-- Every other byte of every record stays the same. The result has the edition of the first.").
use Rattle.std.specs.Prelude.{ℕ, ◌+◌, ◌<◌, ◌≡◌, ◌↔◌, List, map, length, get_or, take}
use Rattle.file.specs.Rules.Bytes.{Bytes}
use Rattle.file.specs.Rules.Cluster.{File, Slave, bytes_in, logical_name}
use Rattle.file.specs.Rules.Decode.{decode}
use Rattle.file.specs.Rules.Legal.{Legal}
use Rattle.file.specs.Rules.Encode.{encode}
use Rattle.file.specs.Rules.Results.{done, written_in}
use Rattle.file.specs.Rules.FileGrounds.{file_ground, load_ground}
use Rattle.join.specs.Rules.Joined.{joined, joined_file}
use Rattle.join.specs.Rules.Join.{join_on}
use Rattle.join.specs.Claims.JoinGrounds.{count_in, slave_in, SharedName, TooLarge}

-- where the call writes, and how many bytes
pub record Writable (f g out : List ℕ) (n : ℕ) : Type 0 where
  pub first : file_ground f ≡ 0
  pub second : file_ground g ≡ 0
  pub apart : SharedName f g → ⊥
  pub within : TooLarge f g out → ⊥
  pub count : n ≡ length (joined_file f g)

abbrev pub WrittenExactly : Type 0
WrittenExactly = (f g out : List ℕ) (n : ℕ) → ((join_on f g out).0 ≡ done n) ↔ Writable f g out n

-- the name is held in the file, by slave number k
pub record HeldIn (f : List ℕ) (name : ℕ) : Type 0 where
  pub k : ℕ
  pub within : k < count_in f
  pub is : logical_name (slave_in f k) ≡ name

-- "becomes 0xFF (byte 3 of record 1 of 0x08). Every other byte of every record stays the same."
pub record Turned (old new : Slave) : Type 0 where
  pub unnamed : get_or (bytes_in new 0x08) 7 0 ≡ 0xFF
  pub others : (n k : ℕ) → (n ≡ 0x08 → k ≡ 7 → ⊥) → get_or (bytes_in new n) k 0 ≡ get_or (bytes_in old n) k 0
  pub sizes : (n : ℕ) → length (bytes_in new n) ≡ length (bytes_in old n)
  pub numbers : map (λ (x : File). x.number) new.files ≡ map (λ (x : File). x.number) old.files

-- the joined file: the encoding of a legal cluster, and so accepted; slave by slave and file by file what the two files hold
pub record JoinOf (f g j : List ℕ) : Type 0 where
  pub cluster : decode j ≡ joined (decode f) (decode g)
  pub legal : Legal (decode j)
  pub encoding : j ≡ encode (decode j)
  pub accepted : file_ground j ≡ 0
  pub edition : get_or j 2 0 ≡ get_or f 2 0
  pub epoch : (decode j).epoch ≡ 0
  pub flag : (decode j).flag ≡ 0
  pub pending_name : (decode j).pending_name ≡ 0
  pub pending_pb2 : (decode j).pending_pb2 ≡ 0
  pub pending_pb3 : (decode j).pending_pb3 ≡ 0
  pub count : count_in j ≡ count_in f + count_in g
  pub awake : (i : ℕ) → i < count_in j → (slave_in j i).asleep ≡ 0
  pub first : (i : ℕ) → i < count_in f → (slave_in j i).files ≡ (slave_in f i).files
  pub turned : (k : ℕ) → k < count_in g → HeldIn f (logical_name (slave_in g k)) → Turned (slave_in g k) (slave_in j (count_in f + k))
  pub kept : (k : ℕ) → k < count_in g → (HeldIn f (logical_name (slave_in g k)) → ⊥) → (slave_in j (count_in f + k)).files ≡ (slave_in g k).files

-- what the call wrote is such a file, and behind it the buffer is as it was
pub record Written (f g out j new : List ℕ) : Type 0 where
  pub joins : JoinOf f g j
  pub behind : new ≡ written_in out j

abbrev pub CallJoins : Type 0
CallJoins =
    (f g out : List ℕ) (n : ℕ) → Bytes f → Bytes g → (join_on f g out).0 ≡ done n →
    Written f g out (take n (join_on f g out).1) (join_on f g out).1

-- no logical name but 0xFF is held on both sides afterwards
abbrev pub NamesApart : Type 0
NamesApart =
    (f g j : List ℕ) → Bytes f → Bytes g → file_ground f ≡ 0 → file_ground g ≡ 0 → JoinOf f g j → (i k : ℕ) → i < count_in f → k < count_in g →
    logical_name (slave_in j i) ≡ logical_name (slave_in j (count_in f + k)) → logical_name (slave_in j i) ≡ 0xFF

-- so a join of two files that load is one that loads: 22 finds no name twice in it
abbrev pub JoinLoads : Type 0
JoinLoads =
    (f g out : List ℕ) (n : ℕ) → Bytes f → Bytes g → load_ground f ≡ 0 → load_ground g ≡ 0 → (join_on f g out).0 ≡ done n →
    load_ground (take n (join_on f g out).1) ≡ 0
