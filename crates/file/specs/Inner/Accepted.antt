-- An accepted file and the cluster it holds, as the layers above hand it on.
use Rattle.std.specs.Prelude.{ℕ, ◌+◌, ◌*◌, ◌≤◌, ◌<◌, ◌≡◌, List, Bool, cond, length, get_or, eqb, leb}
use Rattle.file.specs.Rules.Order.{both}
use Rattle.file.specs.Rules.Layout.{width_in, OffsetWidth, epoch_place, record_size}
use Rattle.file.specs.Inner.Layout.{needed_documentation}
use Rattle.file.specs.Rules.Cluster.{Cluster, bytes_in, has_record, configuration, documentation, file_number_of, operation_of}
use Rattle.file.specs.Rules.Encode.{encode}
use Rattle.file.specs.Rules.Decode.{decode}
use Rattle.file.specs.Rules.Legal.{Legal}
use Rattle.file.specs.Rules.FileGrounds.{file_ground}
use Rattle.file.specs.Inner.Places.{slave_of, file_place, sleep_place, configuration_index, documentation_index}

-- the file is accepted, and it is that cluster's one encoding
pub record Becomes (f : List ℕ) (c : Cluster) : Type 0 where
  pub accepted : file_ground f ≡ 0
  pub decoded : decode f ≡ c
  pub encoded : f ≡ encode c
  pub legal : Legal c

-- the file is accepted: it is the one encoding of the cluster that it holds
abbrev pub AcceptedFile : List ℕ → Type 0
AcceptedFile f = Becomes f (decode f)

-- w is the offset width of the file's edition
pub record WidthOf (f : List ℕ) (w : ℕ) : Type 0 where
  pub is : w ≡ width_in (decode f).edition
  pub width : OffsetWidth w

-- where its header keeps the epoch
pub record EpochAt (f : List ℕ) (at : ℕ) : Type 0 where
  pub is : at ≡ epoch_place (width_in (decode f).edition)
  pub room : at + 8 ≤ length f
  pub low : at ≤ 12

-- where its slave table keeps the sleep byte of slave s
pub record SleepAt (f : List ℕ) (s at : ℕ) : Type 0 where
  pub is : at ≡ sleep_place (width_in (decode f).edition) s
  pub within : at < length f

-- how many slaves it has
abbrev pub slave_count : List ℕ → ℕ
slave_count f = length (decode f).slaves

-- where each slave keeps 0x08 and 0x3D
pub record PlacesOf (c : Cluster) (places : List ℕ) : Type 0 where
  pub config : (s : ℕ) → s < length c.slaves → get_or places (configuration_index s) 0 ≡ file_place c s configuration
  pub document : (s : ℕ) → s < length c.slaves → get_or places (documentation_index s) 0 ≡ file_place c s documentation

-- an accepted file and the places of its slaves
pub record Placed (f places : List ℕ) : Type 0 where
  pub file : AcceptedFile f
  pub at : PlacesOf (decode f) places

-- the cluster's pending flag, logical name and record number, and PB2 split into file number and operation
pub record PendingIs (c : Cluster) (flag name number operation «record» : ℕ) : Type 0 where
  pub flag_is : flag ≡ c.flag
  pub name_is : name ≡ c.pending_name
  pub file_is : number ≡ file_number_of c.pending_pb2
  pub operation_is : operation ≡ operation_of c.pending_pb2
  pub record_is : «record» ≡ c.pending_pb3

-- where a slave keeps a file, and how many bytes it has; where it keeps a record
pub data FoundFile : Type 0 where
  no_file_lem : FoundFile
  file_found : ℕ → ℕ → FoundFile

unfoldable pub find_file : Cluster → ℕ → ℕ → FoundFile
find_file c s n =
    cond (eqb (length (bytes_in (slave_of c s) n)) 0) no_file_lem (file_found (file_place c s n) (length (bytes_in (slave_of c s) n)))

pub data FoundRecord : Type 0 where
  no_record_lem : FoundRecord
  record_at : ℕ → FoundRecord

unfoldable pub find_record : Cluster → ℕ → ℕ → ℕ → FoundRecord
find_record c s n r = cond (has_record (slave_of c s) n r) (record_at (file_place c s n + record_size * r)) no_record_lem

-- a record of 0x3D that every slave has
unfoldable pub is_documented : ℕ → ℕ → Bool
is_documented n r = both (eqb n documentation) (leb r needed_documentation)
