-- Sizes at either width: what slaves take, and the limits of a form.
-- Assumes nothing.
use Rattle.std.proofs.Common.{ℕ, zero, suc, ◌+◌, ◌*◌, ◌≤◌, ◌<◌, arith, List, [], ◌∷◌, ◌≡◌, length, get_or, take}
use Rattle.file.specs.Rules.Layout.{OffsetWidth}
use Rattle.file.specs.Rules.Cluster.{Slave, no_slave_lem}
use Rattle.file.specs.Rules.Encode.{contents, slave_size, slaves_size, slaves_place, file_length}
use Rattle.file.proofs.Width.{Which, narrow, wide, which}
use Rattle.convert.specs.Inner.Slaves.{files_in}

-- an entry is one of so many
pub entries_below : (w i n : ℕ) → i < n → 2 * w * i + 2 * w ≤ 2 * w * n
entries_below w zero zero l = elim l [ ]
entries_below w (suc i) zero l = elim l [ ]
entries_below w zero (suc n) l = omega arith
entries_below w (suc i) (suc n) l = omega (arith, entries_below w i n (omega arith))

-- the first slaves take no more than all
pub first-slaves : (w : ℕ) (ss : List Slave) (i : ℕ) → slaves_size w (take i ss) ≤ slaves_size w ss
unfolding slaves_size
first-slaves w ss zero = omega arith
first-slaves w [] (suc i) = omega arith
first-slaves w (s ∷ ss) (suc i) = omega (arith, first-slaves w ss i)

-- a form at one width is at most twice as long as that at the other
slave_double : {v w : ℕ} → Which v → Which w → (s : Slave) → slave_size v s ≤ 2 * slave_size w s
unfolding slave_size
slave_double narrow narrow s = omega arith
slave_double narrow wide s = omega arith
slave_double wide narrow s = omega arith
slave_double wide wide s = omega arith

slaves_double : {v w : ℕ} → Which v → Which w → (ss : List Slave) → slaves_size v ss ≤ 2 * slaves_size w ss
unfolding slaves_size
slaves_double a b [] = omega arith
slaves_double a b (s ∷ ss) = omega (arith, slave_double a b s, slaves_double a b ss)

places_double : {v w : ℕ} → Which v → Which w → (ss : List Slave) → slaves_place v ss ≤ 2 * slaves_place w ss
unfolding slaves_place
places_double narrow narrow ss = omega arith
places_double narrow wide ss = omega arith
places_double wide narrow ss = omega arith
places_double wide wide ss = omega arith

pub form_double : {v w : ℕ} → OffsetWidth v → OffsetWidth w → (ss : List Slave) → file_length v ss ≤ 2 * file_length w ss
unfolding file_length
form_double a b ss = omega (arith, places_double (which a) (which b) ss, slaves_double (which a) (which b) ss)

-- ---- slaves by how many files they have, and the bytes of these

pub contents_in : List Slave → ℕ
contents_in [] = 0
contents_in (s ∷ ss) = length (contents s.files) + contents_in ss

parts-of : {v : ℕ} → Which v → (ss : List Slave) → slaves_size v ss ≡ 2 * v * files_in ss + contents_in ss
unfolding slaves_size slave_size files_in contents_in
parts-of narrow [] = omega arith
parts-of narrow (s ∷ ss) = omega (arith, parts-of narrow ss)
parts-of wide [] = omega arith
parts-of wide (s ∷ ss) = omega (arith, parts-of wide ss)

pub size-parts : {v : ℕ} → OffsetWidth v → (ss : List Slave) → slaves_size v ss ≡ 2 * v * files_in ss + contents_in ss
size-parts width ss = parts-of (which width) ss

whole_parts : {v : ℕ} → Which v → (ss : List Slave) → file_length v ss ≡ 8 + 4 * v + 2 * v * (length ss + files_in ss) + contents_in ss
unfolding file_length slaves_place
whole_parts narrow ss = omega (arith, parts-of narrow ss)
whole_parts wide ss = omega (arith, parts-of wide ss)

pub form-parts : {v : ℕ} → OffsetWidth v → (ss : List Slave) → file_length v ss ≡ 8 + 4 * v + 2 * v * (length ss + files_in ss) + contents_in ss
form-parts width ss = whole_parts (which width) ss

files-below : {v : ℕ} → Which v → (ss : List Slave) → files_in ss ≤ slaves_size v ss
files-below narrow ss = omega (arith, parts-of narrow ss)
files-below wide ss = omega (arith, parts-of wide ss)

pub files-size : {v : ℕ} → OffsetWidth v → (ss : List Slave) → files_in ss ≤ slaves_size v ss
files-size width ss = files-below (which width) ss

-- those of the first slaves, and of one slave more
pub files-first : (ss : List Slave) (i : ℕ) → files_in (take i ss) ≤ files_in ss
unfolding files_in
files-first ss zero = omega arith
files-first [] (suc i) = omega arith
files-first (s ∷ ss) (suc i) = omega (arith, files-first ss i)

pub files_in-next : (ss : List Slave) (i : ℕ) → i < length ss → files_in (take (suc i) ss) ≡ files_in (take i ss) + length (get_or ss i no_slave_lem).files
unfolding files_in
files_in-next [] i l = absurd (omega arith)
files_in-next (s ∷ ss) zero l = omega arith
files_in-next (s ∷ ss) (suc i) l = omega (arith, files_in-next ss i (omega arith))
