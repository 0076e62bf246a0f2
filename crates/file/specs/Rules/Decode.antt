-- The cluster in a list of bytes, read through the offsets that its entries state. Total: of a file that grounds 1 to 6 refuse it
-- says nothing of use.
use Rattle.std.specs.Prelude.{ℕ, zero, suc, ◌+◌, ◌*◌, List, [], ◌∷◌, get_or}
use Rattle.file.specs.Rules.Bytes.{number_of, part}
use Rattle.file.specs.Rules.Layout.{width_of, edition_of, header_size, entry_size_lem, record_size}
use Rattle.file.specs.Rules.Layout.{count_place, epoch_place, flag_place, pending_name_place, pending_pb2_place, pending_pb3_place}
use Rattle.file.specs.Rules.Cluster.{File, Slave, Cluster}

-- a number of the offset's width at a place
unfoldable pub offset_at : ℕ → List ℕ → ℕ → ℕ
offset_at w f at = number_of (part f at w)

-- "A file is 4(r + 1) bytes, records 0x00 to r"
unfoldable pub file_size : ℕ → ℕ
file_size r = record_size * (r + 1)

-- the file of the directory entry at d: its number, its record count behind that, its offset from byte 2 on (w in general); "file number,
-- record count, two zeros, offset (4)" (document 02, job 10)
unfoldable pub file_at : ℕ → List ℕ → ℕ → File
file_at w f d = record { number = get_or f d 0; bytes = part f (offset_at w f (d + w)) (file_size (get_or f (d + 1) 0)) }

-- the files of the k directory entries from d on
unfoldable pub files_at : ℕ → List ℕ → ℕ → ℕ → List File
files_at w f d zero = []
files_at w f d (suc k) = file_at w f d ∷ files_at w f (d + entry_size_lem w) k

-- the slave of the table entry at t: its directory's offset, its file count behind that, then its sleep byte
unfoldable pub slave_at : ℕ → List ℕ → ℕ → Slave
slave_at w f t = record { asleep = get_or f (t + w + 1) 0; files = files_at w f (offset_at w f t) (get_or f (t + w) 0) }

-- the slaves of the n table entries from t on
unfoldable pub slaves_at : ℕ → List ℕ → ℕ → ℕ → List Slave
slaves_at w f t zero = []
slaves_at w f t (suc n) = slave_at w f t ∷ slaves_at w f (t + entry_size_lem w) n

-- the epoch, the pending flag, the pending logical name, PB2 and PB3 are bytes 8 to 12 in edition 1, "12 to 16 epoch and pending bytes" in
-- edition 2 (document 02, job 10); byte 3 is the slave count
unfoldable pub decode_at : ℕ → List ℕ → Cluster
decode_at w f =
    record {
      edition = edition_of w;
      epoch = get_or f (epoch_place w) 0;
      flag = get_or f (flag_place w) 0;
      pending_name = get_or f (pending_name_place w) 0;
      pending_pb2 = get_or f (pending_pb2_place w) 0;
      pending_pb3 = get_or f (pending_pb3_place w) 0;
      slaves = slaves_at w f (header_size w) (get_or f count_place 0);
    }

-- at the width of the file's edition: "All calls take both editions" (document 02, job 10)
unfoldable pub decode : List ℕ → Cluster
decode f = decode_at (width_of f) f
