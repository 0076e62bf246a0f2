-- The second file's slaves by marks for the names that the first holds, and these slaves in a buffer.
use Rattle.std.specs.Prelude.{ℕ, ◌+◌, ◌≡◌, List, map, Bool, false, cond, length, get_or, set}
use Rattle.file.specs.Rules.Layout.{record_size}
use Rattle.file.specs.Rules.Cluster.{Slave, Cluster, configuration, unnamed, logical_name}
use Rattle.file.specs.Rules.Encode.{slaves_bytes}
use Rattle.file.specs.Rules.Changes.{put_in_slave, with_slaves}
use Rattle.convert.specs.Inner.Putting.{Put}

-- a slave whose logical name is marked becomes 0xFF
unfoldable pub turned_by : List Bool → Slave → Slave
turned_by held s = cond (get_or held (logical_name s) false) (put_in_slave s configuration (record_size + 3) unnamed) s

-- all of a cluster's
unfoldable pub turned_in : List Bool → Cluster → Cluster
turned_in held d = with_slaves d (map (turned_by held) d.slaves)

-- a byte of a buffer becomes 0xFF, or stays
unfoldable pub turned_at : Bool → ℕ → List ℕ → List ℕ
turned_at is_held at l = cond is_held (set l at unnamed) l

-- a buffer that has the first slaves from a place on has the others there then, and is otherwise as it was
pub record Turned (w at : ℕ) (ss ts : List Slave) (old new : List ℕ) : Type 0 where
  pub long : length new ≡ length old
  pub turns : (l : List ℕ) → Put l at (slaves_bytes w at ss) old → Put l at (slaves_bytes w at ts) new
