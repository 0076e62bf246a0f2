-- A directory and its files in a list of bytes: the walk over the directory arrives exactly where legal files stand as their encoding,
-- and reading the directory gives them back. First one entry with its file, then k of them.
-- Assumes nothing.
use Rattle.std.proofs.Common.{ℕ, zero, suc, ◌+◌, ◌*◌, ◌^◌, ◌≤◌, ◌<◌, add-zero, arith, ◌≡◌, refl, sym, ap, ap₂, ◌∙◌, subst, List, [], ◌∷◌, ◌++◌, true}
use Rattle.std.proofs.Common.{length, get_or, replicate, length-append}
use native.Mathlib.Nat.{mul-div_cancel_left}
use lib.ListN.{length-replicate}
use Rattle.file.specs.Rules.Bytes.{All, Bytes, bytes_of, part}
use Rattle.file.specs.Rules.Layout.{entry_size_lem, fill_length, record_size}
use Rattle.file.specs.Rules.Cluster.{File, last_record}
use Rattle.file.specs.Rules.Encode.{directory_entry, directory, contents}
use Rattle.file.specs.Rules.Decode.{offset_at, file_size, file_at, files_at}
use Rattle.file.specs.Rules.Legal.{LegalFile, Rising}
use Rattle.file.specs.Rules.FileGrounds.{Walk, good_entry, walk_directory}
use Rattle.file.proofs.Facts.{EntryFacts, entry_facts, entry_yes}
use Rattle.file.proofs.NumberLaws.{part_length}
use Rattle.file.proofs.Arrivals.{tested_arrives, arrives_same}
use Rattle.file.proofs.Sizes.{directory_entry-length}
use Rattle.file.proofs.Bytes.{all_first, all_others, byte_at, bytes-part}
use Rattle.file.proofs.Stands.{Stands, stands-part, part-stands, stands_at, stands-byte, stands-left, stands_right, stands-append, stands-none}
use Rattle.file.proofs.Stands.{stands-next, stands-zeros, zeros_stand, stands-number, number-stands}

-- ---- a file's size

-- the last record of a file of that many records
pub last_record-file_size : (bs : List ℕ) (r : ℕ) → length bs ≡ file_size r → last_record bs ≡ r
unfolding last_record file_size
last_record-file_size bs r e = rw (e, mul-div_cancel_left (r + 1) {n = 4} (omega arith)) (omega arith)

pub whole-file_size : (bs : List ℕ) (r : ℕ) → length bs ≡ file_size r → length bs ≡ record_size * (last_record bs + 1)
unfolding file_size
whole-file_size bs r e = rw (last_record-file_size bs r e) e

pub legal-size : {x : File} → LegalFile x → file_size (last_record x.bytes) ≡ length x.bytes
unfolding file_size
legal-size l = sym l.whole

-- ---- the bytes of a directory entry

pub record EntryBytes (w : ℕ) (f : List ℕ) (d place : ℕ) (x : File) : Type 0 where
  pub number : get_or f d 0 ≡ x.number
  pub last : get_or f (d + 1) 0 ≡ last_record x.bytes
  pub fill : Stands f (d + 2) (replicate (fill_length w) 0)
  pub offset : Stands f (d + w) (bytes_of w place)

-- the fill of an entry ends where its offset begins
pub fill_end : {w : ℕ} (two : 2 ≤ w) (d : ℕ) → d + 2 + length (replicate {A = ℕ} (fill_length w) 0) ≡ d + w
fill_end {w} two d = omega (arith, length-replicate {A = ℕ} (fill_length w) 0)

module _ {w : ℕ} (two : 2 ≤ w) {f : List ℕ} {d place : ℕ} {x : File} where
  pub entry-bytes : Stands f d (directory_entry w place x) → EntryBytes w f d place x
  unfolding directory_entry
  entry-bytes s =
      let ends = replicate (fill_length w) 0 ++ bytes_of w place in
      let front = stands-left (x.number ∷ last_record x.bytes ∷ []) ends s in
      let behind = stands_right (x.number ∷ last_record x.bytes ∷ []) ends s in
      record {
        number = stands-byte front 0 (omega arith) (omega arith);
        last = stands-byte front 1 (omega arith) refl;
        fill = stands-left (replicate (fill_length w) 0) (bytes_of w place) behind;
        offset = stands_at (fill_end two d) (stands_right (replicate (fill_length w) 0) (bytes_of w place) behind);
      }

  pub bytes-entry : EntryBytes w f d place x → Stands f d (directory_entry w place x)
  unfolding directory_entry
  bytes-entry e =
      let ends = stands-append e.fill (stands_at (sym (fill_end two d)) e.offset) in
      stands-next e.number refl (stands-next e.last (omega arith) ends)

-- ---- a file that stands: its directory entry at d, with a number from low on, and its bytes at the place

pub record FileStands (w : ℕ) (f : List ℕ) (d low place : ℕ) (x : File) : Type 0 where
  pub rising : low ≤ x.number
  pub legal : LegalFile x
  pub entry : Stands f d (directory_entry w place x)
  pub bytes : Stands f place x.bytes

-- ---- files that stand: their directory at d, with numbers from low on, and their bytes from the place on

pub record FilesStand (w : ℕ) (f : List ℕ) (d low place : ℕ) (xs : List File) : Type 0 where
  pub rising : Rising low xs
  pub legal : All LegalFile xs
  pub entries : Stands f d (directory w place xs)
  pub bytes : Stands f place (contents xs)

-- the first and the others, of risen numbers and of a property
first_rises : {low : ℕ} {x : File} {xs : List File} → Rising low (x ∷ xs) → low ≤ x.number
first_rises (Rising.next h r) = h

others_rise : {low : ℕ} {x : File} {xs : List File} → Rising low (x ∷ xs) → Rising (suc x.number) xs
others_rise (Rising.next h r) = r

module _ {w : ℕ} (two : 2 ≤ w) {f : List ℕ} where
  pub files-none : {d low place : ℕ} → d ≤ length f → place ≤ length f → FilesStand w f d low place []
  unfolding directory contents
  files-none h k = record { rising = Rising.end; legal = All.all_empty; entries = stands-none h; bytes = stands-none k }

  pub files-next :
      {d low place : ℕ} {x : File} {xs : List File}
      → FileStands w f d low place x
      → FilesStand w f (d + entry_size_lem w) (suc x.number) (place + length x.bytes) xs
      → FilesStand w f d low place (x ∷ xs)
  unfolding directory contents
  files-next {d} {place = place} {x = x} s r =
      let next : d + entry_size_lem w ≡ d + length (directory_entry w place x) = ap (λ (n : ℕ). d + n) (sym (directory_entry-length two place x)) in
      record {
        rising = Rising.next s.rising r.rising;
        legal = All.all_next s.legal r.legal;
        entries = stands-append s.entry (stands_at next r.entries);
        bytes = stands-append s.bytes r.bytes;
      }

  pub first-file : {d low place : ℕ} {x : File} {xs : List File} → FilesStand w f d low place (x ∷ xs) → FileStands w f d low place x
  unfolding directory contents
  first-file {place = place} {x = x} {xs = xs} s =
      record {
        rising = first_rises s.rising;
        legal = all_first s.legal;
        entry = stands-left (directory_entry w place x) (directory w (place + length x.bytes) xs) s.entries;
        bytes = stands-left x.bytes (contents xs) s.bytes;
      }

  pub other-files :
      {d low place : ℕ} {x : File} {xs : List File}
      → FilesStand w f d low place (x ∷ xs)
      → FilesStand w f (d + entry_size_lem w) (suc x.number) (place + length x.bytes) xs
  unfolding directory contents
  other-files {d} {place = place} {x = x} {xs = xs} s =
      let next : d + length (directory_entry w place x) ≡ d + entry_size_lem w = ap (λ (n : ℕ). d + n) (directory_entry-length two place x) in
      record {
        rising = others_rise s.rising;
        legal = all_others s.legal;
        entries = stands_at next (stands_right (directory_entry w place x) (directory w (place + length x.bytes) xs) s.entries);
        bytes = stands_right x.bytes (contents xs) s.bytes;
      }

-- ---- found and read

-- the file that an entry with that number, last record and offset names
pub file_of : List ℕ → ℕ → ℕ → ℕ → File
file_of f n r place = record { number = n; bytes = part f place (file_size r) }

pub file_at-entry :
    (w : ℕ) (f : List ℕ) (d : ℕ) {n r place : ℕ}
    → get_or f d 0 ≡ n
    → get_or f (d + 1) 0 ≡ r
    → offset_at w f (d + w) ≡ place
    → file_at w f d ≡ file_of f n r place
unfolding file_at file_of
file_at-entry w f d n r p = rw (n, r, p)

module _ {w : ℕ} (two : 2 ≤ w) {f : List ℕ} (short : length f < 256 ^ w) where
  -- a good entry's file stands
  pub file-found :
      {d low place : ℕ} → Bytes f → d + entry_size_lem w ≤ length f → good_entry w f d low place ≡ true → FileStands w f d low place (file_at w f d)
  unfolding file_of offset_at
  file-found {d} {low} {place} b h p =
      let g : EntryFacts w f d low place = entry_facts w f d low place p in
      let r : ℕ = get_or f (d + 1) 0 in
      let x : File = file_of f (get_or f d 0) r place in
      let byte : r < 256 = byte_at b (d + 1) in
      let size : length x.bytes ≡ file_size r = part_length f place (file_size r) g.within in
      let last : last_record x.bytes ≡ r = last_record-file_size x.bytes r size in
      let stands : FileStands w f d low place x =
      record {
        rising = g.rising;
        legal =
            record {
              number = g.number;
              some = subst (λ (k : ℕ). 1 ≤ k) (sym last) g.records;
              most = omega arith;
              whole = whole-file_size x.bytes r size;
              bytes = bytes-part b place (file_size r);
            };
        entry =
            bytes-entry two
            (record {
              number = refl;
              last = sym last;
              fill = stands-zeros (fill_length w) (omega arith) g.zeros;
              offset = stands-number w b (omega arith) g.offset;
            });
        bytes = part-stands (file_size r) g.within;
      }
      in
      subst (λ (y : File). FileStands w f d low place y) (sym (file_at-entry w f d refl refl g.offset)) stands

  -- files that a walk passes stand, and the walk arrives where their bytes end
  pub files-found :
      (d low place k : ℕ) {e : ℕ}
      → Bytes f
      → d + entry_size_lem w * k ≤ length f
      → place ≤ length f
      → walk_directory w f d low place k ≡ Walk.to e
      → FilesStand w f d low place (files_at w f d k) × (e ≡ place + length (contents (files_at w f d k)))
  unfolding walk_directory files_at contents
  files-found d low place zero b h i p = (files-none two (omega arith) i, sym (arrives_same p) ∙ sym (add-zero place))
  files-found d low place (suc k) b h i p =
      let came = tested_arrives (good_entry w f d low place) _ p in
      let here : FileStands w f d low place (file_at w f d) = file-found b (omega arith) came.0 in
      let entry = entry-bytes two here.entry in
      let size : file_size (get_or f (d + 1) 0) ≡ length (file_at w f d).bytes = ap file_size entry.last ∙ legal-size here.legal in
      let rest =
      files-found (d + entry_size_lem w) (suc (get_or f d 0)) (place + file_size (get_or f (d + 1) 0)) k b (omega arith)
      (omega (arith, here.bytes.fits)) came.1
      in (
        files-next two here (rw (size, entry.number) at rest.0),
        omega (arith, rest.1, length-append (file_at w f d).bytes (contents (files_at w f (d + entry_size_lem w) k))),
      )

  -- a file that stands has a good entry, and is read from it
  pub file_good : {d low place : ℕ} {x : File} → FileStands w f d low place x → EntryFacts w f d low place
  unfolding offset_at
  file_good {d} {low} {place} {x} s =
      let e : EntryBytes w f d place x = entry-bytes two s.entry in
      let size : file_size (get_or f (d + 1) 0) ≡ length x.bytes = ap file_size e.last ∙ legal-size s.legal in
      record {
        rising = rw e.number s.rising;
        number = rw e.number s.legal.number;
        records = rw e.last s.legal.some;
        zeros = zeros_stand (fill_length w) e.fill;
        offset = number-stands w (omega (arith, s.bytes.fits)) e.offset;
        within = omega (arith, s.bytes.fits);
      }

  pub file-read : {d low place : ℕ} {x : File} → FileStands w f d low place x → file_at w f d ≡ x
  unfolding file_of
  file-read {d} {low} {place} {x} s =
      let e : EntryBytes w f d place x = entry-bytes two s.entry in
      let bytes : part f place (file_size (last_record x.bytes)) ≡ x.bytes =
      ap (λ (n : ℕ). part f place n) (legal-size s.legal) ∙ stands-part s.bytes
      in
      file_at-entry w f d e.number e.last (file_good s).offset
      ∙ ap (λ (bs : List ℕ). record { number = x.number; bytes = bs }) bytes

  pub files-walk :
      {d low place : ℕ} (xs : List File)
      → FilesStand w f d low place xs
      → walk_directory w f d low place (length xs) ≡ Walk.to (place + length (contents xs))
  unfolding walk_directory contents
  files-walk {d} {low} {place} [] s = ap Walk.to (sym (add-zero place))
  files-walk {d} {low} {place} (x ∷ xs) s =
      let here : FileStands w f d low place x = first-file two s in
      let e : EntryBytes w f d place x = entry-bytes two here.entry in
      let size : file_size (get_or f (d + 1) 0) ≡ length x.bytes = ap file_size e.last ∙ legal-size here.legal in
      rw (entry_yes w f d low place (file_good here), size, e.number) (files-walk {d = d + entry_size_lem w} xs (other-files two s) ∙ ap Walk.to (omega (arith, length-append x.bytes (contents xs))))

  pub files-read : {d low place : ℕ} (xs : List File) → FilesStand w f d low place xs → files_at w f d (length xs) ≡ xs
  unfolding files_at
  files-read [] s = refl
  files-read {d = d} (x ∷ xs) s =
      ap₂ (λ (y : File) (ys : List File). y ∷ ys) (file-read (first-file two s)) (files-read {d = d + entry_size_lem w} xs (other-files two s))
