-- The lengths of an encoding's parts: each is the size that the layout states. Above them only these laws are cited, so that no
-- proof opens a part to count its bytes. An entry is long enough for its two bytes and an offset where an offset has 2 bytes or more.
-- Assumes nothing.
use Rattle.std.proofs.Common.{ℕ, zero, suc, ◌+◌, ◌*◌, ◌%◌, ◌^◌, ◌≤◌, arith, mul-zero, ◌≡◌, refl, sym, ap, List, [], ◌∷◌, length, length-append}
use lib.ListN.{length-replicate}
use Rattle.file.specs.Rules.Bytes.{bytes_of}
use Rattle.file.specs.Rules.Layout.{header_size, entry_size_lem}
use Rattle.file.specs.Rules.Cluster.{File, Slave, Cluster}
use Rattle.file.specs.Rules.Encode.{directory_entry, directory, slave_size, slave_bytes, slaves_bytes, slaves_size, table_entry, table, slaves_place, file_length, header, encode_at}

-- a number in w bytes
pub bytes_of-length : (w n : ℕ) → length (bytes_of w n) ≡ w
unfolding bytes_of
bytes_of-length zero n = refl
bytes_of-length (suc w) n = ap suc (bytes_of-length w (n % 256 ^ w))

module _ {w : ℕ} (wide : 2 ≤ w) where
  pub directory_entry-length : (place : ℕ) (x : File) → length (directory_entry w place x) ≡ entry_size_lem w
  unfolding directory_entry
  directory_entry-length place x = simp (length-append, length-replicate, bytes_of-length) (omega arith)

  pub directory-length : (place : ℕ) (xs : List File) → length (directory w place xs) ≡ entry_size_lem w * length xs
  unfolding directory
  directory-length place [] = sym (mul-zero (entry_size_lem w))
  directory-length place (x ∷ xs) =
      simp (length-append, directory_entry-length, directory-length (place + length x.bytes) xs) (omega arith)

  pub table_entry-length : (place : ℕ) (s : Slave) → length (table_entry w place s) ≡ entry_size_lem w
  unfolding table_entry
  table_entry-length place s = simp (length-append, length-replicate, bytes_of-length) (omega arith)

  pub table-length : (place : ℕ) (ss : List Slave) → length (table w place ss) ≡ entry_size_lem w * length ss
  unfolding table
  table-length place [] = sym (mul-zero (entry_size_lem w))
  table-length place (s ∷ ss) =
      simp (length-append, table_entry-length, table-length (place + slave_size w s) ss) (omega arith)

  -- a slave's directory and files take the size by which the next slave is placed
  pub slave_bytes-length : (place : ℕ) (s : Slave) → length (slave_bytes w place s) ≡ slave_size w s
  unfolding slave_bytes slave_size
  slave_bytes-length place s = simp (length-append, directory-length)

  pub slaves_bytes-length : (place : ℕ) (ss : List Slave) → length (slaves_bytes w place ss) ≡ slaves_size w ss
  unfolding slaves_bytes slaves_size
  slaves_bytes-length place [] = refl
  slaves_bytes-length place (s ∷ ss) =
      simp (length-append, slave_bytes-length, slaves_bytes-length (place + slave_size w s) ss)

  pub header-length : (c : Cluster) → length (header w c) ≡ header_size w
  unfolding header
  header-length c = simp (length-append, length-replicate, bytes_of-length) (omega arith)

  -- the length that the header states is the encoding's
  pub encode_at-length : (c : Cluster) → length (encode_at w c) ≡ file_length w c.slaves
  unfolding encode_at file_length slaves_place
  encode_at-length c = simp (length-append, header-length, table-length, slaves_bytes-length) (omega arith)
