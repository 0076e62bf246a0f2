-- The grounds of a conversion, each both ways and in their order (document 02, job 10: "New numbers: 25, narrowing a file with more than
-- 32 slaves or an edition-1 form above 32,768 bytes; 26, a conversion buffer too short; in this order after 8."), and a file of unknown
-- edition.
use Rattle.std.specs.Prelude.{ℕ, ◌≤◌, ◌<◌, ◌≡◌, ◌≢◌, List, true, false, length, get_or, take, ltb}
use Rattle.file.specs.Rules.Bytes.{Bytes}
use Rattle.file.specs.Rules.Order.{either}
use Rattle.file.specs.Rules.Layout.{OffsetWidth, width_in}
use Rattle.file.specs.Rules.Decode.{decode}
use Rattle.file.specs.Rules.Editions.{in_edition, exceeds}
use Rattle.file.specs.Rules.FileGrounds.{file_ground}
use Rattle.file.specs.Claims.Edition.{NoEdition}
use Rattle.convert.specs.Rules.Convert.{convert_ground, convert_on}

-- the file's own grounds, then 25, then 26: a buffer is too short where it is shorter than the bytes to be written
pub record GroundsInOrder : Type 0 where
  pub file : (f : List ℕ) (e : ℕ) (out : List ℕ) → file_ground f ≢ 0 → convert_ground f e out ≡ file_ground f
  pub limits :
      (f : List ℕ) (e : ℕ) (out : List ℕ) → file_ground f ≡ 0 → exceeds (width_in e) (decode f).slaves ≡ true → convert_ground f e out ≡ 25
  pub buffer :
      (f : List ℕ) (e : ℕ) (out : List ℕ) → OffsetWidth (width_in e) → file_ground f ≡ 0 → exceeds (width_in e) (decode f).slaves ≡ false →
      length out < length (in_edition f e) → convert_ground f e out ≡ 26
  pub none :
      (f : List ℕ) (e : ℕ) (out : List ℕ) → OffsetWidth (width_in e) → file_ground f ≡ 0 → exceeds (width_in e) (decode f).slaves ≡ false →
      length (in_edition f e) ≤ length out → convert_ground f e out ≡ 0

-- 25 refuses a file of edition 2 that is asked for in edition 1, and no other; it has "more than 32 slaves or an edition-1 form above
-- 32,768 bytes"
pub record Narrowed (f : List ℕ) (e : ℕ) : Type 0 where
  pub from : get_or f 2 0 ≡ 2
  pub to : e ≡ 1
  pub large : either (ltb 32 (length (decode f).slaves)) (ltb 32768 (length (in_edition f 1))) ≡ true

abbrev pub OnlyNarrowingExceeds : Type 0
OnlyNarrowingExceeds = (f : List ℕ) (e : ℕ) (out : List ℕ) → Bytes f → OffsetWidth (width_in e) → convert_ground f e out ≡ 25 → Narrowed f e

-- on a file of unknown edition the answer depends on the file's length and first three bytes alone
abbrev pub UnknownEdition : Type 0
UnknownEdition =
    (f g : List ℕ) (d e : ℕ) (a b : List ℕ) → length f ≡ length g → take 3 f ≡ take 3 g → NoEdition f →
    (convert_on f d a).0 ≡ (convert_on g e b).0
