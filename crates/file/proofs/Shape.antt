-- Clusters of the same shape: a cluster has its own, putting a byte keeps it, and everything that the encoding says of
-- places and sizes is equal under it. A layer above that changes only bytes of files cites these laws and opens no walk.
-- Assumes nothing.
use Rattle.std.proofs.Common.{ℕ, zero, suc, ◌+◌, ◌*◌, ◌≡◌, refl, sym, ap, ◌∙◌, List, [], ◌∷◌, length, get_or, set, length-append, length-set, eqb}
use Rattle.file.specs.Rules.Layout.{entry_size_lem}
use Rattle.file.specs.Rules.Cluster.{File, Slave, Cluster, last_record, bytes_among, bytes_in}
use Rattle.file.specs.Rules.Encode.{directory_entry, directory, contents, slave_size, slaves_size, table_entry, table, slaves_place, file_length}
use Rattle.file.specs.Inner.Places.{no_slave_lem, slave_of, place_among, file_place_from, file_place_at, put_byte, SameFiles, no_files, same_file, SameShape, no_slaves, same_slave}
use Rattle.file.specs.Rules.Changes.{put_among, put_in_slave, with_slaves}
use Rattle.file.proofs.Order.{by_case}

-- ---- reflexive and transitive

pub files_refl : (xs : List File) → SameFiles xs xs
files_refl [] = no_files
files_refl (x ∷ xs) = same_file refl refl (files_refl xs)

pub files_trans : {xs ys zs : List File} → SameFiles xs ys → SameFiles ys zs → SameFiles xs zs
files_trans no_files no_files = no_files
files_trans (same_file p q r) (same_file p' q' r') = same_file (p ∙ p') (q ∙ q') (files_trans r r')

pub shape_refl : (ss : List Slave) → SameShape ss ss
shape_refl [] = no_slaves
shape_refl (s ∷ ss) = same_slave (files_refl s.files) (shape_refl ss)

pub shape_trans : {ss ts us : List Slave} → SameShape ss ts → SameShape ts us → SameShape ss us
shape_trans no_slaves no_slaves = no_slaves
shape_trans (same_slave p r) (same_slave p' r') = same_slave (files_trans p p') (shape_trans r r')

-- ---- what is equal of files of the same shape

pub files-count : {xs ys : List File} → SameFiles xs ys → length xs ≡ length ys
files-count no_files = refl
files-count (same_file p q r) = ap suc (files-count r)

pub files-contents-length : {xs ys : List File} → SameFiles xs ys → length (contents xs) ≡ length (contents ys)
unfolding contents
files-contents-length no_files = refl
files-contents-length (same_file p q r) = simp (length-append, q, files-contents-length r)

pub files-bytes-length : {xs ys : List File} (n : ℕ) → SameFiles xs ys → length (bytes_among xs n) ≡ length (bytes_among ys n)
unfolding bytes_among
files-bytes-length n no_files = refl
files-bytes-length n (same_file {x} {y} p q r) =
    rw p (by_case (eqb y.number n) (λ e. rw e q) (λ e. rw e (files-bytes-length n r)))

-- the directory states numbers, sizes and places, and no byte of a file
pub files-directory : {xs ys : List File} (w place : ℕ) → SameFiles xs ys → directory w place xs ≡ directory w place ys
unfolding directory directory_entry last_record
files-directory w place no_files = refl
files-directory w place (same_file {y = y} p q r) = rw (p, q, files-directory w (place + length y.bytes) r)

pub files-place : {xs ys : List File} (place n : ℕ) → SameFiles xs ys → place_among place xs n ≡ place_among place ys n
unfolding place_among
files-place place n no_files = refl
files-place place n (same_file {y = y} p q r) = rw (p, q, files-place (place + length y.bytes) n r)

-- ---- what is equal of slaves of the same shape

pub slave-size : (s t : Slave) (w : ℕ) → SameFiles s.files t.files → slave_size w s ≡ slave_size w t
unfolding slave_size
slave-size s t w p = rw (files-count p, files-contents-length p)

pub shape_count : {ss ts : List Slave} → SameShape ss ts → length ss ≡ length ts
shape_count no_slaves = refl
shape_count (same_slave p r) = ap suc (shape_count r)

pub shape_size : {ss ts : List Slave} (w : ℕ) → SameShape ss ts → slaves_size w ss ≡ slaves_size w ts
unfolding slaves_size
shape_size w no_slaves = refl
shape_size w (same_slave {s = s} {t = t} p r) = rw (slave-size s t w p, shape_size w r)

-- the table states the sleep bytes too
pub data SameSleep : List Slave → List Slave → Type 0 where
  no_sleep : SameSleep [] []
  same_sleep : {s t : Slave} {ss ts : List Slave} → s.asleep ≡ t.asleep → SameSleep ss ts → SameSleep (s ∷ ss) (t ∷ ts)

pub sleep_refl : (ss : List Slave) → SameSleep ss ss
sleep_refl [] = no_sleep
sleep_refl (s ∷ ss) = same_sleep refl (sleep_refl ss)

-- a slave of the table replaced by one with the same sleep byte
pub sleep_set : (ss : List Slave) (s : ℕ) (y : Slave) → (get_or ss s no_slave_lem).asleep ≡ y.asleep → SameSleep ss (set ss s y)
sleep_set [] s y p = no_sleep
sleep_set (x ∷ xs) zero y p = same_sleep p (sleep_refl xs)
sleep_set (x ∷ xs) (suc s) y p = same_sleep refl (sleep_set xs s y p)

pub shape_table : {ss ts : List Slave} (w place : ℕ) → SameShape ss ts → SameSleep ss ts → table w place ss ≡ table w place ts
unfolding table table_entry
shape_table w place no_slaves no_sleep = refl
shape_table w place (same_slave {s = s} {t = t} p r) (same_sleep z q) =
    rw (slave-size s t w p, files-count p, z, shape_table w (place + slave_size w t) r q)

pub shape_slaves_place : {ss ts : List Slave} (w : ℕ) → SameShape ss ts → slaves_place w ss ≡ slaves_place w ts
unfolding slaves_place
shape_slaves_place w r = rw (shape_count r)

pub shape_file_length : {ss ts : List Slave} (w : ℕ) → SameShape ss ts → file_length w ss ≡ file_length w ts
unfolding file_length
shape_file_length w r = rw (shape_slaves_place w r, shape_size w r)

pub shape_file_place_from : {ss ts : List Slave} (w place s n : ℕ) → SameShape ss ts → file_place_from w place ss s n ≡ file_place_from w place ts s n
unfolding file_place_from
shape_file_place_from w place s n no_slaves = refl
shape_file_place_from w place zero n (same_slave {t = t} p r) =
    rw (files-count p, files-place (place + entry_size_lem w * length t.files) n p)
shape_file_place_from w place (suc s) n (same_slave {s = x} {t = t} p r) =
    rw (slave-size x t w p, shape_file_place_from w (place + slave_size w t) s n r)

-- the slave at an index has such files in both
pub shape_at : {ss ts : List Slave} (s : ℕ) → SameShape ss ts → SameFiles (get_or ss s no_slave_lem).files (get_or ts s no_slave_lem).files
shape_at s no_slaves = no_files
shape_at zero (same_slave p r) = p
shape_at (suc s) (same_slave p r) = shape_at s r

-- ---- what is equal of clusters of the same shape

module _ (c d : Cluster) (same : SameShape c.slaves d.slaves) where
  pub shape_file_place_at : (w s n : ℕ) → file_place_at w c s n ≡ file_place_at w d s n
  unfolding file_place_at
  shape_file_place_at w s n =
      rw (shape_slaves_place w same, shape_file_place_from w (slaves_place w d.slaves) s n same)

  pub shape_bytes-length : (s n : ℕ) → length (bytes_in (slave_of c s) n) ≡ length (bytes_in (slave_of d s) n)
  unfolding bytes_in slave_of
  shape_bytes-length s n = files-bytes-length n (shape_at s same)

-- ---- putting bytes keeps the shape

pub files-put : (xs : List File) (n k b : ℕ) → SameFiles xs (put_among xs n k b)
unfolding put_among
files-put [] n k b = no_files
files-put (x ∷ xs) n k b =
    by_case (eqb x.number n)
    (λ e. rw e (same_file refl (sym (length-set x.bytes k b)) (files_refl xs)))
    (λ e. rw e (same_file refl refl (files-put xs n k b)))

pub slave-put : (x : Slave) (n k b : ℕ) → SameFiles x.files (put_in_slave x n k b).files
unfolding put_in_slave
slave-put x n k b = files-put x.files n k b

-- a slave of the table replaced by one with such files
pub shape_set : (ss : List Slave) (s : ℕ) (y : Slave) → SameFiles (get_or ss s no_slave_lem).files y.files → SameShape ss (set ss s y)
shape_set [] s y p = no_slaves
shape_set (x ∷ xs) zero y p = same_slave p (shape_refl xs)
shape_set (x ∷ xs) (suc s) y p = same_slave (files_refl x.files) (shape_set xs s y p)

pub shape_put_byte : (c : Cluster) (s n k b : ℕ) → SameShape c.slaves (put_byte c s n k b).slaves
unfolding put_byte with_slaves slave_of
shape_put_byte c s n k b =
    shape_set c.slaves s (put_in_slave (get_or c.slaves s no_slave_lem) n k b) (slave-put (get_or c.slaves s no_slave_lem) n k b)

-- nobody wakes or falls asleep by it
pub sleep_put_byte : (c : Cluster) (s n k b : ℕ) → SameSleep c.slaves (put_byte c s n k b).slaves
unfolding put_byte with_slaves slave_of put_in_slave
sleep_put_byte c s n k b = sleep_set c.slaves s (put_in_slave (get_or c.slaves s no_slave_lem) n k b) refl
