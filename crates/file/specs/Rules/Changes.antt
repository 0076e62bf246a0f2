-- A cluster with bytes of a file, with other slaves, with the header's free fields or with the edition replaced, all else as it was.
use Rattle.std.specs.Prelude.{ℕ, List, [], ◌∷◌, cond, set, eqb}
use Rattle.file.specs.Rules.Cluster.{File, Slave, Cluster}

-- byte k of file n replaced
unfoldable pub put_among : List File → ℕ → ℕ → ℕ → List File
put_among [] n k b = []
put_among (x ∷ xs) n k b =
    cond (eqb x.number n) (record { number = x.number; bytes = set x.bytes k b } ∷ xs) (x ∷ put_among xs n k b)

unfoldable pub put_in_slave : Slave → ℕ → ℕ → ℕ → Slave
put_in_slave s n k b = record { asleep = s.asleep; files = put_among s.files n k b }

-- its sleep byte replaced
unfoldable pub with_sleep : Slave → ℕ → Slave
with_sleep s b = record { asleep = b; files = s.files }

-- the edition replaced: epoch, pending bytes, sleep bytes and files as they were
unfoldable pub with_edition : Cluster → ℕ → Cluster
with_edition c e = record { edition = e; epoch = c.epoch; flag = c.flag; pending_name = c.pending_name; pending_pb2 = c.pending_pb2; pending_pb3 = c.pending_pb3; slaves = c.slaves }

unfoldable pub with_slaves : Cluster → List Slave → Cluster
with_slaves c ss = record { edition = c.edition; epoch = c.epoch; flag = c.flag; pending_name = c.pending_name; pending_pb2 = c.pending_pb2; pending_pb3 = c.pending_pb3; slaves = ss }

-- the header's five bytes replaced: the epoch, and the pending flag, logical name, PB2 and PB3
unfoldable pub with_epoch : Cluster → ℕ → Cluster
with_epoch c epoch = record { edition = c.edition; epoch = epoch; flag = c.flag; pending_name = c.pending_name; pending_pb2 = c.pending_pb2; pending_pb3 = c.pending_pb3; slaves = c.slaves }

unfoldable pub with_pending : Cluster → ℕ → ℕ → ℕ → ℕ → Cluster
with_pending c flag name pb2 pb3 =
    record { edition = c.edition; epoch = c.epoch; flag = flag; pending_name = name; pending_pb2 = pb2; pending_pb3 = pb3; slaves = c.slaves }
