-- The cluster of two that are cabled together (document 02, job 13).
use Rattle.std.specs.Prelude.{ℕ, ◌+◌, List, [], ◌∷◌, ◌++◌, map, Bool, false, cond}
use Rattle.file.specs.Rules.Order.{either}
use Rattle.file.specs.Rules.Layout.{record_size}
use Rattle.file.specs.Rules.Cluster.{Slave, Cluster, configuration, unnamed, physical_name, logical_name, logical_names}
use Rattle.file.specs.Rules.Encode.{encode}
use Rattle.file.specs.Rules.Decode.{decode}
use Rattle.file.specs.Rules.Changes.{put_in_slave, with_sleep}
use Rattle.file.specs.Rules.FileGrounds.{is_among}

-- "A slave of the second whose logical name the first also holds becomes 0xFF (byte 3 of record 1 of 0x08)."
unfoldable pub turned : List ℕ → Slave → Slave
turned held s = cond (is_among (logical_name s) held) (put_in_slave s configuration (record_size + 3) unnamed) s

-- those of the second as the result has them, by the names that the first holds; those of the first stay
unfoldable pub slaves_joined : Cluster → Cluster → List Slave
slaves_joined c d = c.slaves ++ map (turned (logical_names c)) d.slaves

-- "all awake"
unfoldable pub awake : Slave → Slave
awake s = with_sleep s 0

-- "The result holds the first file's slaves and then the second's, with epoch and pending bytes 0 and all awake." "Every other byte of
-- every record stays the same. The result has the edition of the first."
unfoldable pub joined : Cluster → Cluster → Cluster
joined c d =
    record { edition = c.edition; epoch = 0; flag = 0; pending_name = 0; pending_pb2 = 0; pending_pb3 = 0; slaves = map awake (slaves_joined c d) }

-- the joined file
unfoldable pub joined_file : List ℕ → List ℕ → List ℕ
joined_file f g = encode (joined (decode f) (decode g))

-- one of the first numbers is among the second
unfoldable pub any_among : List ℕ → List ℕ → Bool
any_among [] ms = false
any_among (n ∷ ns) ms = either (is_among n ms) (any_among ns ms)

-- "a physical name in both files"
unfoldable pub shares_name : Cluster → Cluster → Bool
shares_name c d = any_among (map physical_name d.slaves) (map physical_name c.slaves)
