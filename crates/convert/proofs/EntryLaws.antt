-- One entry of the slave table and one of a directory, put byte by byte.
-- Assumes nothing.
use Rattle.std.proofs.Common.{ℕ, suc, ◌+◌, ◌-◌, arith, ◌≡◌, refl, ap, ◌∙◌, List, [], ◌∷◌, ◌++◌, append_assoc, length, set, replicate, length-append, length-set}
use lib.ListN.{length-replicate}
use Rattle.file.specs.Rules.Bytes.{bytes_of}
use Rattle.file.specs.Rules.Layout.{fill_length}
use Rattle.file.proofs.Sizes.{bytes_of-length}
use Rattle.convert.specs.Inner.Putting.{Put, OffsetFits, table_entry_of, directory_entry_of}
use Rattle.convert.proofs.Putting.{put-room, put_same, put_then, put_next, put_first}

-- two stores keep the length, and so does what is put then
pub stores-kept : (l : List ℕ) (i a j b : ℕ) {m bs : List ℕ} {at : ℕ} → Put (set (set l i a) j b) at bs m → length m ≡ length l
stores-kept l i a j b p = put-room p ∙ simp length-set

-- a table entry: the offset, two bytes, zeros
module _ {l m k : List ℕ} (v place count asleep at : ℕ) (offset : Put l at (bytes_of v place) m)
    (zeros : Put (set (set m (at + v) count) (at + v + 1) asleep) (at + v + 2) (replicate (v - 2) 0) k) where
  pub table-entry-kept : length k ≡ length l
  table-entry-kept = stores-kept m (at + v) count (at + v + 1) asleep zeros ∙ put-room offset

  pub table-entry-put : Put l at (table_entry_of v place count asleep) k
  unfolding table_entry_of
  table-entry-put =
      let number : List ℕ = bytes_of v place in
      let long : length number ≡ v = bytes_of-length v place in
      let first : Put l at (number ++ (count ∷ [])) (set m (at + v) count) = put_next count offset (omega (arith, long)) in
      let second : Put l at (number ++ (count ∷ []) ++ (asleep ∷ [])) (set (set m (at + v) count) (at + v + 1) asleep) =
      put_next asleep first (omega (arith, long, length-append number (count ∷ [])))
      in
      let there : at + v + 2 ≡ at + length (number ++ (count ∷ []) ++ (asleep ∷ [])) =
      omega (arith, long, length-append number (count ∷ []), length-append (number ++ (count ∷ [])) (asleep ∷ []))
      in
      put_same
      (append_assoc (number ++ (count ∷ [])) (asleep ∷ []) (replicate (fill_length v) 0) ∙ append_assoc number (count ∷ []) (asleep ∷ replicate (fill_length v) 0))
      (put_then second there zeros)

-- a directory entry: the offset, then before it two bytes and zeros
module _ {l m k : List ℕ} (v place number last at : ℕ) (fits : OffsetFits v place) (offset : Put l (at + v) (bytes_of v place) m)
    (zeros : Put (set (set m at number) (at + 1) last) (at + 2) (replicate (v - 2) 0) k) where
  pub directory-entry-kept : length k ≡ length l
  directory-entry-kept = stores-kept m at number (at + 1) last zeros ∙ put-room offset

  pub directory-entry-put : Put l at (directory_entry_of v place number last) k
  unfolding directory_entry_of
  directory-entry-put =
      let fill : List ℕ = replicate (fill_length v) 0 in
      let next : at + 1 ≡ suc at = omega arith in
      let two : Put m at (number ∷ last ∷ []) (set (set m at number) (at + 1) last) = record { is = ap (λ (i : ℕ). set (set m at number) i last) next } in
      let half : Put m at ((number ∷ last ∷ []) ++ fill) k = put_then two refl zeros in
      let there : at + v ≡ at + length ((number ∷ last ∷ []) ++ fill) =
      omega (arith, fits.width.least, length-append (number ∷ last ∷ []) fill, length-replicate {A = ℕ} (fill_length v) 0)
      in
      put_same (append_assoc (number ∷ last ∷ []) fill (bytes_of v place)) (put_first offset there half)
