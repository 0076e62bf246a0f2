-- Which slaves have a file for which round, a bit for each round: where it is not set, there is no file for the round.
use Rattle.std.specs.Prelude.{ℕ, ◌≤◌, ◌<◌, ◌≡◌, List, false, length, get_or}
use Rattle.file.specs.Rules.Decode.{decode}
use Rattle.file.specs.Rules.FileGrounds.{file_ground}
use Rattle.file.specs.Rules.Cluster.{Slave, Cluster, bytes_in}
use Rattle.file.specs.Inner.Places.{slave_of}
use Rattle.file.specs.Inner.Accepted.{FoundFile, PlacesOf}
use Rattle.file.specs.Inner.Checked.{search_directory}
use Rattle.owner.specs.Rules.Plan.{rounds}
use Rattle.owner.specs.Inner.Masks.{is_set}

-- by k directory entries from d on
pub record DirectoryMarked (w : ℕ) (f : List ℕ) (d k marks : ℕ) : Type 0 where
  pub none : (n : ℕ) → n < rounds → is_set marks n ≡ false → FoundFile.no_file_lem ≡ search_directory w f n d k

-- of a slave
pub record Holds (s : Slave) (held : ℕ) : Type 0 where
  pub none : (n : ℕ) → n < rounds → is_set held n ≡ false → length (bytes_in s n) ≡ 0

-- of every slave
pub record AllHold (c : Cluster) (held : List ℕ) : Type 0 where
  pub room : length c.slaves ≤ length held
  pub each : (s : ℕ) → s < length c.slaves → Holds (slave_of c s) (get_or held s 0)

-- an accepted file, by its bytes and its ground, the places of its slaves, and which of them have a file for which round
pub record PlannedFrom (f places held : List ℕ) : Type 0 where
  pub bytes : (k : ℕ) → get_or f k 0 < 256
  pub accepted : file_ground f ≡ 0
  pub at : PlacesOf (decode f) places
  pub holding : AllHold (decode f) held
