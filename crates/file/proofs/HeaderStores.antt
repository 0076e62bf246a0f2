-- Reading and storing the header's fields in an encoding: the slave count, the epoch, and the pending flag, logical name, PB2 and
-- PB3. Each stands at its place, and a field stored there gives the encoding of the cluster with that field.
-- Assumes nothing.
use Rattle.std.proofs.Common.{ℕ, ◌+◌, arith, ◌≡◌, refl, List, [], ◌∷◌, ◌++◌, append_assoc, length, get_or, set, replicate, length-append}
use Rattle.std.proofs.Common.{get_or-append-add}
use Rattle.file.specs.Rules.Bytes.{bytes_of}
use Rattle.file.specs.Rules.Layout.{edition_of, header_size, zeros_length}
use Rattle.file.specs.Rules.Layout.{epoch_place, flag_place, pending_name_place, pending_pb2_place, pending_pb3_place}
use Rattle.file.specs.Rules.Cluster.{Slave, Cluster}
use Rattle.file.specs.Rules.Encode.{slaves_bytes, table, slaves_place, file_length, header, encode_at}
use Rattle.file.specs.Rules.Changes.{with_epoch, with_pending}
use Rattle.file.proofs.Sizes.{bytes_of-length}
use Rattle.file.proofs.Stores.{set-append-add}

-- the encoding by its free fields: what stands before them and behind them depends on the slaves alone
front : ℕ → List Slave → List ℕ
front w ss = (0x54 ∷ 0x41 ∷ edition_of w ∷ length ss ∷ []) ++ (bytes_of w (header_size w) ++ bytes_of w (file_length w ss))

behind : ℕ → List Slave → List ℕ
behind w ss = replicate (zeros_length w) 0 ++ (table w (slaves_place w ss) ss ++ slaves_bytes w (slaves_place w ss) ss)

abbrev fields : Cluster → List ℕ → List ℕ
fields c rest = c.epoch ∷ c.flag ∷ c.pending_name ∷ c.pending_pb2 ∷ c.pending_pb3 ∷ rest

by_fields : (w : ℕ) (c : Cluster) → encode_at w c ≡ front w c.slaves ++ fields c (behind w c.slaves)
unfolding encode_at header front behind
by_fields w c = simp append_assoc

front_length : (w : ℕ) (ss : List Slave) → length (front w ss) ≡ epoch_place w
unfolding front
front_length w ss = simp (length-append, bytes_of-length) (omega arith)

-- the field at an offset behind the epoch's place
field-read : (w : ℕ) (c : Cluster) (place j : ℕ) → place ≡ epoch_place w + j → get_or (encode_at w c) place 0 ≡ get_or (fields c (behind w c.slaves)) j 0
field-read w c place j e =
    rw (e, by_fields w c, ← front_length w c.slaves, get_or-append-add (front w c.slaves) (fields c (behind w c.slaves)) j 0)

field-store : (w : ℕ) (c d : Cluster) (place j b : ℕ) → place ≡ epoch_place w + j → d.slaves ≡ c.slaves
    → set (fields c (behind w c.slaves)) j b ≡ fields d (behind w c.slaves) → set (encode_at w c) place b ≡ encode_at w d
field-store w c d place j b e slaves stored =
    rw (e, by_fields w c, by_fields w d, slaves, ← front_length w c.slaves, set-append-add (front w c.slaves) (fields c (behind w c.slaves)) j b, stored)

module _ (w : ℕ) (c : Cluster) where
  pub read_count : get_or (encode_at w c) 3 0 ≡ length c.slaves
  unfolding encode_at header
  read_count = refl

  pub read-epoch : get_or (encode_at w c) (epoch_place w) 0 ≡ c.epoch
  read-epoch = field-read w c (epoch_place w) 0 (omega arith)

  pub read-flag : get_or (encode_at w c) (flag_place w) 0 ≡ c.flag
  read-flag = field-read w c (flag_place w) 1 (omega arith)

  pub read-pending_name : get_or (encode_at w c) (pending_name_place w) 0 ≡ c.pending_name
  read-pending_name = field-read w c (pending_name_place w) 2 (omega arith)

  pub read-pending_pb2 : get_or (encode_at w c) (pending_pb2_place w) 0 ≡ c.pending_pb2
  read-pending_pb2 = field-read w c (pending_pb2_place w) 3 (omega arith)

  pub read-pending_pb3 : get_or (encode_at w c) (pending_pb3_place w) 0 ≡ c.pending_pb3
  read-pending_pb3 = field-read w c (pending_pb3_place w) 4 (omega arith)

  pub store-epoch : (b : ℕ) → set (encode_at w c) (epoch_place w) b ≡ encode_at w (with_epoch c b)
  unfolding with_epoch
  store-epoch b = field-store w c (with_epoch c b) (epoch_place w) 0 b (omega arith) refl refl

  pub store-flag : (b : ℕ) → set (encode_at w c) (flag_place w) b ≡ encode_at w (with_pending c b c.pending_name c.pending_pb2 c.pending_pb3)
  unfolding with_pending
  store-flag b =
      field-store w c (with_pending c b c.pending_name c.pending_pb2 c.pending_pb3) (flag_place w) 1 b (omega arith) refl refl

  pub store-pending_name : (b : ℕ) → set (encode_at w c) (pending_name_place w) b ≡ encode_at w (with_pending c c.flag b c.pending_pb2 c.pending_pb3)
  unfolding with_pending
  store-pending_name b =
      field-store w c (with_pending c c.flag b c.pending_pb2 c.pending_pb3) (pending_name_place w) 2 b (omega arith) refl refl

  pub store-pending_pb2 : (b : ℕ) → set (encode_at w c) (pending_pb2_place w) b ≡ encode_at w (with_pending c c.flag c.pending_name b c.pending_pb3)
  unfolding with_pending
  store-pending_pb2 b =
      field-store w c (with_pending c c.flag c.pending_name b c.pending_pb3) (pending_pb2_place w) 3 b (omega arith) refl refl

  pub store-pending_pb3 : (b : ℕ) → set (encode_at w c) (pending_pb3_place w) b ≡ encode_at w (with_pending c c.flag c.pending_name c.pending_pb2 b)
  unfolding with_pending
  store-pending_pb3 b =
      field-store w c (with_pending c c.flag c.pending_name c.pending_pb2 b) (pending_pb3_place w) 4 b (omega arith) refl refl

-- all four of a pending operation, one after the other
pub store-pending : (w : ℕ) (c : Cluster) (flag name pb2 pb3 : ℕ)
    → set (set (set (set (encode_at w c) (flag_place w) flag) (pending_name_place w) name) (pending_pb2_place w) pb2) (pending_pb3_place w) pb3 ≡ encode_at w (with_pending c flag name pb2 pb3)
unfolding with_pending
store-pending w c flag name pb2 pb3 = rw (store-flag, store-pending_name, store-pending_pb2, store-pending_pb3)
