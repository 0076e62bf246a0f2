-- A file in its other edition (document 02, job 10): "Widening and then narrowing restores the same bytes. Converting to the edition a file
-- already has copies it."; "An edition-1 handheld still refuses with 3, or with 1 above 32,768 bytes."
use Rattle.std.specs.Prelude.{ℕ, ◌*◌, ◌≤◌, ◌≡◌, List, false, cond, length, get_or, ltb}
use Rattle.file.specs.Rules.Bytes.{Bytes}
use Rattle.file.specs.Rules.Layout.{OffsetWidth, width_in}
use Rattle.file.specs.Rules.Encode.{file_length}
use Rattle.file.specs.Rules.Decode.{decode}
use Rattle.file.specs.Rules.Changes.{with_edition}
use Rattle.file.specs.Rules.FileGrounds.{file_ground_at, file_ground}
use Rattle.file.specs.Rules.Editions.{in_edition, exceeds}

-- what an accepted file is in another edition that has room for it: accepted, of the length that its slaves take there, with the same
-- cluster but for the edition, and back in its own edition it is the same bytes
pub record Converts (f : List ℕ) (e : ℕ) : Type 0 where
  pub accepted : file_ground (in_edition f e) ≡ 0
  pub cluster : decode (in_edition f e) ≡ with_edition (decode f) e
  pub long : length (in_edition f e) ≡ file_length (width_in e) (decode f).slaves
  pub back : in_edition (in_edition f e) (decode f).edition ≡ f

abbrev pub ConvertsWhereItFits : Type 0
ConvertsWhereItFits =
    (f : List ℕ) (e : ℕ) → Bytes f → file_ground f ≡ 0 → OffsetWidth (width_in e) → exceeds (width_in e) (decode f).slaves ≡ false → Converts f e

-- edition 2 has room for every file of edition 1, at most twice as long. A slave has at most 64 files, since their numbers rise up to 63;
-- so a widened file has at most 41,096 bytes: 32,768, 8 more in the header, 4 more in each entry of 32 slaves and of 64 files of each.
pub record Widens (f : List ℕ) : Type 0 where
  pub fits : exceeds 4 (decode f).slaves ≡ false
  pub long : length (in_edition f 2) ≤ 2 * length f
  pub most : length (in_edition f 2) ≤ 41096
  pub back : in_edition (in_edition f 2) 1 ≡ f

abbrev pub WidenedComesBack : Type 0
WidenedComesBack = (f : List ℕ) → Bytes f → file_ground f ≡ 0 → get_or f 2 0 ≡ 1 → Widens f

-- "Converting to the edition a file already has copies it."
abbrev pub OwnEditionCopies : Type 0
OwnEditionCopies = (f : List ℕ) → Bytes f → file_ground f ≡ 0 → in_edition f (get_or f 2 0) ≡ f

-- what a tester that knows edition 1 alone answers to an accepted file of edition 2
abbrev pub HandheldRefuses : Type 0
HandheldRefuses = (f : List ℕ) → file_ground f ≡ 0 → get_or f 2 0 ≡ 2 → file_ground_at 2 f ≡ cond (ltb 32768 (length f)) 1 3
