-- A file of an unknown edition (document 01, ground 3, "The edition is not 1.", "Checked in this order"; document 02, job 10, "numbers 3 to
-- 5 use the edition's own values"): its ground depends on nothing behind its first three bytes but its length, so no offset is followed.
use Rattle.std.specs.Prelude.{ℕ, ◌≡◌, ◌≢◌, List, not, length, get_or, take, eqb}
use Rattle.file.specs.Rules.Order.{either}
use Rattle.file.specs.Rules.Layout.{width_of}
use Rattle.file.specs.Rules.FileGrounds.{wrong_edition, file_ground, load_verdict}

-- byte 2 is no edition: neither 1 nor 2
pub record NoEdition (f : List ℕ) : Type 0 where
  pub one : get_or f 2 0 ≢ 1
  pub two : get_or f 2 0 ≢ 2

-- ground 3 is that
abbrev pub ThirdGround : Type 0
ThirdGround = (f : List ℕ) → wrong_edition (width_of f) f ≡ not (either (eqb (get_or f 2 0) 1) (eqb (get_or f 2 0) 2))

-- two files of one length and the same first three bytes, the last of them no edition, have the same ground
abbrev pub UnknownEdition : Type 0
UnknownEdition = (f g : List ℕ) → length f ≡ length g → take 3 f ≡ take 3 g → NoEdition f → file_ground f ≡ file_ground g

-- and the checker's call answers the same
abbrev pub UnknownEditionAnswer : Type 0
UnknownEditionAnswer = (f g : List ℕ) → length f ≡ length g → take 3 f ≡ take 3 g → NoEdition f → load_verdict f ≡ load_verdict g
