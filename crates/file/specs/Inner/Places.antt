-- Where a cluster's encoding keeps a file's bytes, the cluster with bytes put there, and clusters of the same shape, whose encodings
-- at one width keep every file at the same place.
use Rattle.std.specs.Prelude.{ℕ, zero, suc, ◌+◌, ◌*◌, ◌≡◌, List, [], ◌∷◌, cond, length, get_or, set, eqb}
use Rattle.file.specs.Rules.Layout.{width_in, header_size, entry_size_lem}
use Rattle.file.specs.Rules.Cluster.{File, Slave, Cluster}
pub use Rattle.file.specs.Rules.Cluster.{no_slave_lem}
use Rattle.file.specs.Rules.Encode.{slave_size, slaves_place}
use Rattle.file.specs.Rules.Changes.{put_in_slave, with_sleep, with_slaves}

-- the slave at an index of the slave table
unfoldable pub slave_of : Cluster → ℕ → Slave
slave_of c s = get_or c.slaves s no_slave_lem

-- where the file of number n lies, of files that lie from a place on; 0 where there is none
unfoldable pub place_among : ℕ → List File → ℕ → ℕ
place_among place [] n = 0
place_among place (x ∷ xs) n = cond (eqb x.number n) place (place_among (place + length x.bytes) xs n)

-- the same of the slave at index s, of slaves that lie from a place on
unfoldable pub file_place_from : ℕ → ℕ → List Slave → ℕ → ℕ → ℕ
file_place_from w place [] s n = 0
file_place_from w place (x ∷ xs) zero n = place_among (place + entry_size_lem w * length x.files) x.files n
file_place_from w place (x ∷ xs) (suc s) n = file_place_from w (place + slave_size w x) xs s n

unfoldable pub file_place_at : ℕ → Cluster → ℕ → ℕ → ℕ
file_place_at w c s n = file_place_from w (slaves_place w c.slaves) c.slaves s n

-- where the encoding at the width of its edition, which is a legal cluster's encoding, keeps file n of slave s
unfoldable pub file_place : Cluster → ℕ → ℕ → ℕ
file_place c s n = file_place_at (width_in c.edition) c s n

-- the slaves that an array has room for: the most of either edition
abbrev pub slaves_room : ℕ
slaves_room = 64

-- a list of places has a slave's two together: that of 0x08, then that of 0x3D
abbrev pub places_each : ℕ
places_each = 2

abbrev pub configuration_index : ℕ → ℕ
configuration_index s = places_each * s

abbrev pub documentation_index : ℕ → ℕ
documentation_index s = places_each * s + 1

-- byte k of file n of slave s replaced
unfoldable pub put_byte : Cluster → ℕ → ℕ → ℕ → ℕ → Cluster
put_byte c s n k b = with_slaves c (set c.slaves s (put_in_slave (slave_of c s) n k b))

-- where an encoding keeps the sleep byte of slave s: behind its directory's offset and its file count
abbrev pub sleep_place : ℕ → ℕ → ℕ
sleep_place w s = header_size w + entry_size_lem w * s + w + 1

-- the sleep byte of slave s replaced
unfoldable pub put_sleep : Cluster → ℕ → ℕ → Cluster
put_sleep c s b = with_slaves c (set c.slaves s (with_sleep (slave_of c s) b))

-- the bytes of file n of slave s from k on replaced by those of the list, first to last
unfoldable pub put_bytes : Cluster → ℕ → ℕ → ℕ → List ℕ → Cluster
put_bytes c s n k [] = c
put_bytes c s n k (b ∷ bs) = put_bytes (put_byte c s n k b) s n (suc k) bs

-- as many files, each of the same number and as many bytes
pub data SameFiles : List File → List File → Type 0 where
  no_files : SameFiles [] []
  same_file : {x y : File} {xs ys : List File} → x.number ≡ y.number → length x.bytes ≡ length y.bytes → SameFiles xs ys → SameFiles (x ∷ xs) (y ∷ ys)

-- as many slaves, each with such files: asleep or not
pub data SameShape : List Slave → List Slave → Type 0 where
  no_slaves : SameShape [] []
  same_slave : {s t : Slave} {ss ts : List Slave} → SameFiles s.files t.files → SameShape ss ts → SameShape (s ∷ ss) (t ∷ ts)
