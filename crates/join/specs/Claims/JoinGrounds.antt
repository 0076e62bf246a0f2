-- The grounds of a join, each both ways and in their order (document 02, job 13: "New numbers: 29, a physical name in both files; 30, the
-- joined file exceeds the edition's limits or the buffer; in this order after 8, the first file being checked before the second."), and files
-- of unknown edition.
use Rattle.std.specs.Prelude.{ℕ, ◌+◌, ◌<◌, ◌≡◌, ◌≢◌, List, length, get_or, take}
use Rattle.file.specs.Rules.Bytes.{Bytes}
use Rattle.file.specs.Rules.Cluster.{Slave, no_slave_lem, physical_name}
use Rattle.file.specs.Rules.Decode.{decode}
use Rattle.file.specs.Rules.Editions.{in_edition}
use Rattle.file.specs.Rules.FileGrounds.{file_ground}
use Rattle.file.specs.Claims.Edition.{NoEdition}
use Rattle.join.specs.Rules.Joined.{joined_file}
use Rattle.join.specs.Rules.Join.{join_ground, join_on}

-- how many slaves a file has, and the slave of a number
abbrev pub count_in : List ℕ → ℕ
count_in f = length (decode f).slaves

abbrev pub slave_in : List ℕ → ℕ → Slave
slave_in f i = get_or (decode f).slaves i no_slave_lem

-- 29. "a physical name in both files": slave i of the first has that of slave k of the second
pub record SharedName (f g : List ℕ) : Type 0 where
  pub i : ℕ
  pub k : ℕ
  pub first : i < count_in f
  pub second : k < count_in g
  pub same : physical_name (slave_in f i) ≡ physical_name (slave_in g k)

-- 30. "the joined file exceeds the edition's limits or the buffer", the edition being the first's: 32 slaves and 32,768 bytes, or 64 slaves
-- and 65,536 bytes
pub data TooLarge (f g out : List ℕ) : Type 0 where
  slaves_of_one : get_or f 2 0 ≡ 1 → 32 < count_in f + count_in g → TooLarge f g out
  slaves_of_two : get_or f 2 0 ≡ 2 → 64 < count_in f + count_in g → TooLarge f g out
  bytes_of_one : get_or f 2 0 ≡ 1 → 32768 < length (joined_file f g) → TooLarge f g out
  bytes_of_two : get_or f 2 0 ≡ 2 → 65536 < length (joined_file f g) → TooLarge f g out
  buffer : length out < length (joined_file f g) → TooLarge f g out

-- the joined file's length, whether or not 30 refuses it: the first's, and that of the second's form in the first's edition, one header of
-- 16 or of 24 bytes less
pub record JoinedLength : Type 0 where
  pub in_one : (f g : List ℕ) → Bytes f → file_ground f ≡ 0 → get_or f 2 0 ≡ 1 → length (joined_file f g) + 16 ≡ length f + length (in_edition g 1)
  pub in_two : (f g : List ℕ) → Bytes f → file_ground f ≡ 0 → get_or f 2 0 ≡ 2 → length (joined_file f g) + 24 ≡ length f + length (in_edition g 2)

-- the first file's own grounds, then the second's, then 29, then 30
pub record GroundsInOrder : Type 0 where
  pub first : (f g out : List ℕ) → file_ground f ≢ 0 → join_ground f g out ≡ file_ground f
  pub second : (f g out : List ℕ) → file_ground f ≡ 0 → file_ground g ≢ 0 → join_ground f g out ≡ file_ground g
  pub shared : (f g out : List ℕ) → file_ground f ≡ 0 → file_ground g ≡ 0 → SharedName f g → join_ground f g out ≡ 29
  pub large :
      (f g out : List ℕ) → file_ground f ≡ 0 → file_ground g ≡ 0 → (SharedName f g → ⊥) → TooLarge f g out → join_ground f g out ≡ 30
  pub none :
      (f g out : List ℕ) → file_ground f ≡ 0 → file_ground g ≡ 0 → (SharedName f g → ⊥) → (TooLarge f g out → ⊥) → join_ground f g out ≡ 0

-- on a file of unknown edition the answer depends on that file's length and first three bytes alone, the first file being looked at first
pub record UnknownEdition : Type 0 where
  pub first :
      (f h g i a b : List ℕ) → length f ≡ length h → take 3 f ≡ take 3 h → NoEdition f → (join_on f g a).0 ≡ (join_on h i b).0
  pub second :
      (f h g i a b : List ℕ) → file_ground f ≡ 0 → file_ground h ≡ 0 → length g ≡ length i → take 3 g ≡ take 3 i → NoEdition g →
      (join_on f g a).0 ≡ (join_on h i b).0
