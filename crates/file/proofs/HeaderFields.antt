-- The header in a list of bytes: it stands at the start exactly where each of its fields stands at its place.
-- Assumes nothing.
use Rattle.std.proofs.Common.{ℕ, arith, ◌≡◌, refl, List, [], ◌∷◌, ◌++◌, length, get_or, replicate}
use Rattle.file.specs.Rules.Bytes.{bytes_of}
use Rattle.file.specs.Rules.Layout.{edition_of, zeros_length, header_size}
use Rattle.file.specs.Rules.Layout.{length_place, epoch_place, flag_place, pending_name_place, pending_pb2_place, pending_pb3_place, zeros_place}
use Rattle.file.specs.Rules.Cluster.{Cluster}
use Rattle.file.specs.Rules.Encode.{file_length, header}
use Rattle.file.proofs.Sizes.{bytes_of-length}
use Rattle.file.proofs.Stands.{Stands, stands_at, stands-byte, stands-left, stands_right, stands-append, stands-next}

pub record HeaderBytes (w : ℕ) (f : List ℕ) (c : Cluster) : Type 0 where
  pub first : get_or f 0 0 ≡ 0x54
  pub second : get_or f 1 0 ≡ 0x41
  pub edition : get_or f 2 0 ≡ edition_of w
  pub count : get_or f 3 0 ≡ length c.slaves
  pub table : Stands f 4 (bytes_of w (header_size w))
  pub stated : Stands f (length_place w) (bytes_of w (file_length w c.slaves))
  pub epoch : get_or f (epoch_place w) 0 ≡ c.epoch
  pub flag : get_or f (flag_place w) 0 ≡ c.flag
  pub name : get_or f (pending_name_place w) 0 ≡ c.pending_name
  pub pb2 : get_or f (pending_pb2_place w) 0 ≡ c.pending_pb2
  pub pb3 : get_or f (pending_pb3_place w) 0 ≡ c.pending_pb3
  pub zeros : Stands f (zeros_place w) (replicate (zeros_length w) 0)

module _ {w : ℕ} {f : List ℕ} {c : Cluster} where
  pub header-bytes : Stands f 0 (header w c) → HeaderBytes w f c
  unfolding header
  header-bytes s =
      let zeros : List ℕ = replicate (zeros_length w) 0 in
      let pending : List ℕ = c.epoch ∷ c.flag ∷ c.pending_name ∷ c.pending_pb2 ∷ c.pending_pb3 ∷ [] in
      let stated : List ℕ = bytes_of w (file_length w c.slaves) in
      let front : List ℕ = 0x54 ∷ 0x41 ∷ edition_of w ∷ length c.slaves ∷ [] in
      let s₀ = stands-left front (bytes_of w (header_size w) ++ (stated ++ (pending ++ zeros))) s in
      let s₁ = stands_right front (bytes_of w (header_size w) ++ (stated ++ (pending ++ zeros))) s in
      let s₂ : Stands f (length_place w) (stated ++ (pending ++ zeros)) =
      stands_at (omega (arith, bytes_of-length w (header_size w))) (stands_right (bytes_of w (header_size w)) (stated ++ (pending ++ zeros)) s₁)
      in
      let s₃ : Stands f (epoch_place w) (pending ++ zeros) =
      stands_at (omega (arith, bytes_of-length w (file_length w c.slaves))) (stands_right stated (pending ++ zeros) s₂)
      in
      let s₄ : Stands f (epoch_place w) pending = stands-left pending zeros s₃ in
      record {
        first = stands-byte s₀ 0 (omega arith) refl;
        second = stands-byte s₀ 1 (omega arith) refl;
        edition = stands-byte s₀ 2 (omega arith) refl;
        count = stands-byte s₀ 3 (omega arith) refl;
        table = stands-left (bytes_of w (header_size w)) (stated ++ (pending ++ zeros)) s₁;
        stated = stands-left stated (pending ++ zeros) s₂;
        epoch = stands-byte s₄ 0 (omega arith) (omega arith);
        flag = stands-byte s₄ 1 (omega arith) (omega arith);
        name = stands-byte s₄ 2 (omega arith) (omega arith);
        pb2 = stands-byte s₄ 3 (omega arith) (omega arith);
        pb3 = stands-byte s₄ 4 (omega arith) (omega arith);
        zeros = stands_at (omega arith) (stands_right pending zeros s₃);
      }

  pub bytes-header : HeaderBytes w f c → Stands f 0 (header w c)
  unfolding header
  bytes-header h =
      let pending =
      stands-next h.epoch (omega arith)
      (stands-next h.flag (omega arith)
      (stands-next h.name (omega arith)
      (stands-next h.pb2 (omega arith) (stands-next h.pb3 (omega arith) h.zeros))))
      in
      let stated = stands-append h.stated (stands_at (omega (arith, bytes_of-length w (file_length w c.slaves))) pending) in
      let table = stands-append h.table (stands_at (omega (arith, bytes_of-length w (header_size w))) stated) in
      stands-next h.first refl (stands-next h.second refl (stands-next h.edition refl (stands-next h.count refl table)))
