-- Bytes put into a buffer from a place on, and the parts of a form that are put one behind the other.
use Rattle.std.specs.Prelude.{ℕ, ◌≤◌, ◌≡◌, List, [], ◌∷◌, ◌++◌, replicate}
use Rattle.std.proofs.lemmas.List.Edits.{sets}
use Rattle.file.specs.Rules.Bytes.{bytes_of}
use Rattle.file.specs.Rules.Layout.{OffsetWidth, edition_of, header_size, fill_length, max_length}

-- the new buffer is the old one with these bytes from a place on
pub record Put (old : List ℕ) (at : ℕ) (bytes new : List ℕ) : Type 0 where
  pub is : new ≡ sets old at bytes

-- an offset of that width: its width is one that there is, and it is one of a file of that edition
pub record OffsetFits (w offset : ℕ) : Type 0 where
  pub width : OffsetWidth w
  pub most : offset ≤ max_length w

-- a table entry, by its file count and its sleep byte
unfoldable pub table_entry_of : ℕ → ℕ → ℕ → ℕ → List ℕ
table_entry_of w place count asleep = bytes_of w place ++ (count ∷ asleep ∷ replicate (fill_length w) 0)

-- a directory entry, by its file number and its record count
unfoldable pub directory_entry_of : ℕ → ℕ → ℕ → ℕ → List ℕ
directory_entry_of w place number last = (number ∷ last ∷ []) ++ (replicate (fill_length w) 0 ++ bytes_of w place)

-- a header up to its length field, of so many slaves and so many bytes
unfoldable pub header_front : ℕ → ℕ → ℕ → List ℕ
header_front w count size = (0x54 ∷ 0x41 ∷ edition_of w ∷ count ∷ []) ++ (bytes_of w (header_size w) ++ bytes_of w size)
