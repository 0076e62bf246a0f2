-- A slave's directory, entry by entry.
-- Assumes nothing.
use Rattle.std.proofs.Common.{ℕ, zero, suc, ◌+◌, ◌*◌, ◌≤◌, ◌<◌, arith, ◌≡◌, sym, ap, ◌∙◌, List, [], ◌∷◌, ◌++◌, append-nil, w64, Fits, length, get_or, take, length-append, take_all, take-suc, length-take-le}
use Rattle.file.specs.Rules.Layout.{width_in, entry_size_lem}
use Rattle.file.specs.Rules.Cluster.{File, last_record}
use Rattle.file.specs.Rules.Encode.{directory_entry, directory, contents, slave_size}
use Rattle.file.specs.Rules.Decode.{file_size, decode}
use Rattle.file.specs.Inner.Places.{slave_of}
use Rattle.file.specs.Inner.Accepted.{AcceptedFile, WidthOf, slave_count}
use Rattle.file.proofs.Sizes.{directory-length}
use Rattle.file.proofs.Files.{legal-size}
use Rattle.file.proofs.Slaves.{slave-end}
use Rattle.file.proofs.AtWidth.{at-edition}
use Rattle.file.proofs.ReaderLaws.{length_limit}
use Rattle.file.proofs.Appended.{contents-append, directory-append}
use Rattle.convert.specs.Inner.Putting.{Put, OffsetFits, directory_entry_of}
use Rattle.convert.specs.Inner.Slaves.{slave_start, StartsAt, SlaveFits, DirectoryDone}
use Rattle.convert.proofs.Putting.{put-none, put-room, put_same, put_then}
use Rattle.convert.proofs.SlaveLaws.{no_file_lem, slave-stands, file-legal, number-stated, last-stated}
use Rattle.convert.proofs.SizeLaws.{entries_below}

-- ---- one file more

module _ (xs : List File) (k : ℕ) (more : k < length xs) where
  next-file : take (suc k) xs ≡ take k xs ++ (get_or xs k no_file_lem ∷ [])
  next-file = take-suc xs k no_file_lem more

  contents-next : length (contents (take (suc k) xs)) ≡ length (contents (take k xs)) + length (get_or xs k no_file_lem).bytes
  unfolding contents
  contents-next =
      rw (next-file, contents-append (take k xs) (get_or xs k no_file_lem ∷ []), append-nil (get_or xs k no_file_lem).bytes)
      (length-append (contents (take k xs)) (get_or xs k no_file_lem).bytes)

  directory-next : (v place : ℕ) → directory v place (take (suc k) xs) ≡ directory v place (take k xs) ++ directory_entry v (place + length (contents (take k xs))) (get_or xs k no_file_lem)
  unfolding directory
  directory-next v place =
      rw (next-file, directory-append v place (take k xs) (get_or xs k no_file_lem ∷ []), append-nil (directory_entry v (place + length (contents (take k xs))) (get_or xs k no_file_lem)))

first-files : (xs : List File) (k : ℕ) → length (contents (take k xs)) ≤ length (contents xs)
unfolding contents
first-files xs zero = omega arith
first-files [] (suc k) = omega arith
first-files (x ∷ xs) (suc k) =
    omega (arith, first-files xs k, length-append x.bytes (contents (take k xs)), length-append x.bytes (contents xs))

-- ---- the entries of the files below k are put: the next is read at `entry` and put at `to`, and its file lies from `place` on

pub record DirectoryPut (v at : ℕ) (f : List ℕ) (s : ℕ) (old new : List ℕ) (entry to place k : ℕ) : Type 0 where
  pub few : k ≤ length (slave_of (decode f) s).files
  pub read : entry ≡ slave_start (width_in (decode f).edition) (decode f) s + 2 * width_in (decode f).edition * k
  pub there : to ≡ at + 2 * v * k
  pub begins : place ≡ at + 2 * v * length (slave_of (decode f) s).files + length (contents (take k (slave_of (decode f) s).files))
  pub put : Put old at (directory v (at + entry_size_lem v * length (slave_of (decode f) s).files) (take k (slave_of (decode f) s).files)) new

pub directory-start : {f : List ℕ} {s start n : ℕ} (v at : ℕ) (out : List ℕ) → StartsAt f s start → n ≡ length (slave_of (decode f) s).files
    → DirectoryPut v at f s out out start at (at + 2 * v * n) 0
unfolding directory contents
directory-start v at out starts count =
    record {
      few = omega arith;
      read = omega (arith, starts.is);
      there = omega arith;
      begins = rw count (omega arith);
      put = put-none out at;
    }

-- its files lie within the form
pub files-place-fits : (f : List ℕ) (s : ℕ) {v at n : ℕ} {out : List ℕ} → SlaveFits v out at (slave_of (decode f) s) → n ≡ length (slave_of (decode f) s).files → Fits w64 (at + 2 * v * n)
unfolding slave_size
files-place-fits f s fits count = record { fits = rw count (omega (arith, fits.short, fits.width.most)) }

module _ {v at : ℕ} {f : List ℕ} {s : ℕ} {old new : List ℕ} {entry to place k : ℕ} (t : DirectoryPut v at f s old new entry to place k) {n : ℕ}
    (count : n ≡ length (slave_of (decode f) s).files) where
  abbrev xs : List File
  xs = (slave_of (decode f) s).files

  directory-kept : length new ≡ length old
  directory-kept = put-room t.put

  pub directory-done : n ≤ k → DirectoryDone v at (slave_of (decode f) s) old new place
  unfolding slave_size
  directory-done done =
      let all : take k xs ≡ xs = take_all k xs (omega (arith, count)) in
      record {
        put = put_same (ap (directory v (at + entry_size_lem v * length xs)) all) t.put;
        ends = omega (arith, t.begins, ap (λ (ys : List File). length (contents ys)) all);
      }

  module _ (more : k < n) where
    below : k < length (slave_of (decode f) s).files
    below = omega (arith, count)

    module _ (fits : SlaveFits v old at (slave_of (decode f) s)) where
      pub directory-offset : OffsetFits v place
      unfolding slave_size
      directory-offset = record { width = fits.width; most = omega (arith, t.begins, first-files xs k, fits.short) }

      pub directory-room : to + 2 * v ≤ length new
      unfolding slave_size
      directory-room = omega (arith, t.there, entries_below v k (length xs) below, fits.room, directory-kept)

      pub to-fits : Fits w64 (to + 2 * v)
      unfolding slave_size
      to-fits = record { fits = omega (arith, t.there, entries_below v k (length xs) below, fits.short, fits.width.most) }

    -- what the file says there
    module _ (h : AcceptedFile f) (l : s < slave_count f) where
      abbrev w : ℕ
      w = width_in (decode f).edition

      inside : entry + 2 * w ≤ length f
      unfolding slave_size
      inside = omega (arith, t.read, entries_below w k (length xs) below, slave-end (slave-stands (at-edition h) s l))

      pub number-inside : entry < length f
      number-inside = omega (arith, inside, (at-edition h).legal.width.least)

      pub last-inside : entry + 1 < length f
      last-inside = omega (arith, inside, (at-edition h).legal.width.least)

      pub last_fits : Fits w64 (entry + 1)
      last_fits = record { fits = omega (arith, last-inside, length_limit h) }

      last-is : get_or f (entry + 1) 0 ≡ last_record (get_or xs k no_file_lem).bytes
      last-is = ap (λ (i : ℕ). get_or f (i + 1) 0) t.read ∙ last-stated (at-edition h) s l k below

      pub last-value-fits : Fits w64 (get_or f (entry + 1) 0)
      last-value-fits = record { fits = omega (arith, last-is, (file-legal (at-edition h) s l k below).most) }

      pub last_more_fits : Fits w64 (get_or f (entry + 1) 0 + 1)
      last_more_fits = record { fits = omega (arith, last-is, (file-legal (at-edition h) s l k below).most) }

      pub last-size-fits : Fits w64 (4 * (get_or f (entry + 1) 0 + 1))
      last-size-fits = record { fits = omega (arith, last-is, (file-legal (at-edition h) s l k below).most) }

      pub entry-fits : {m : ℕ} → WidthOf f m → Fits w64 (entry + 2 * m)
      entry-fits o = record { fits = omega (arith, inside, o.is, length_limit h) }

      pub directory_again : {m : ℕ} {out : List ℕ} → WidthOf f m → SlaveFits v old at (slave_of (decode f) s)
          → Put new to (directory_entry_of v place (get_or f entry 0) (get_or f (entry + 1) 0)) out
          → DirectoryPut v at f s old out (entry + 2 * m) (to + 2 * v) (place + 4 * (get_or f (entry + 1) 0 + 1)) (k + 1)
      unfolding directory_entry_of directory_entry file_size
      directory_again {m} {out} o fits p =
          let one : k + 1 ≡ suc k = omega arith in
          let b = at-edition h in
          let x : File = get_or xs k no_file_lem in
          let first : ℕ = at + entry_size_lem v * length xs in
          let named : get_or f entry 0 ≡ x.number = ap (λ (i : ℕ). get_or f i 0) t.read ∙ number-stated b s l k below in
          let ends : get_or f (entry + 1) 0 ≡ last_record x.bytes = last-is in
          let size : 4 * (get_or f (entry + 1) 0 + 1) ≡ length x.bytes = ap (λ (i : ℕ). 4 * (i + 1)) ends ∙ legal-size (file-legal b s l k below) in
          let long : length (directory v first (take k xs)) ≡ 2 * v * k =
          directory-length fits.width.least first (take k xs) ∙ ap (λ (i : ℕ). 2 * v * i) (length-take-le k xs t.few)
          in
          let entry_bytes : directory_entry_of v place (get_or f entry 0) (get_or f (entry + 1) 0) ≡ directory_entry v (first + length (contents (take k xs))) x = rw (named, ends, t.begins) in
          record {
            few = omega (arith, below);
            read = rw one (omega (arith, t.read, o.is));
            there = rw one (omega (arith, t.there));
            begins = rw one (omega (arith, t.begins, size, contents-next xs k below));
            put = put_same (sym (ap (λ (i : ℕ). directory v first (take i xs)) one ∙ directory-next xs k below v first)) (put_then t.put (omega (arith, t.there, long)) (put_same entry_bytes p));
          }

      pub place-next-fits : SlaveFits v old at (slave_of (decode f) s) → Fits w64 (place + 4 * (get_or f (entry + 1) 0 + 1))
      unfolding slave_size file_size
      place-next-fits fits =
          let b = at-edition h in
          let x : File = get_or xs k no_file_lem in
          let ends : get_or f (entry + 1) 0 ≡ last_record x.bytes = last-is in
          let size : 4 * (get_or f (entry + 1) 0 + 1) ≡ length x.bytes = ap (λ (i : ℕ). 4 * (i + 1)) ends ∙ legal-size (file-legal b s l k below) in
          record { fits = omega (arith, t.begins, size, contents-next xs k below, first-files xs (suc k), fits.short, fits.width.most) }
