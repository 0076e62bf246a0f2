-- Joins of files of either edition (document 02, job 13: "The result has the edition of the first."; job 10: "All calls take both editions").
use Rattle.std.specs.Prelude.{ℕ, ◌≤◌, ◌≡◌, List, false, length}
use Rattle.file.specs.Rules.Bytes.{Bytes}
use Rattle.file.specs.Rules.Layout.{OffsetWidth, width_in}
use Rattle.file.specs.Rules.Results.{done, written_in}
use Rattle.file.specs.Rules.Decode.{decode}
use Rattle.file.specs.Rules.Editions.{in_edition, exceeds}
use Rattle.file.specs.Rules.FileGrounds.{file_ground}
use Rattle.join.specs.Rules.Joined.{joined_file}
use Rattle.join.specs.Rules.Join.{join_on}

-- an accepted file of bytes, and an edition that there is and that has room for it
pub record HasForm (f : List ℕ) (e : ℕ) : Type 0 where
  pub bytes : Bytes f
  pub accepted : file_ground f ≡ 0
  pub width : OffsetWidth (width_in e)
  pub room : exceeds (width_in e) (decode f).slaves ≡ false

-- the second file in either edition gives the same
abbrev pub SecondInEither : Type 0
SecondInEither = (f g : List ℕ) (d : ℕ) (out : List ℕ) → HasForm g d → join_on f (in_edition g d) out ≡ join_on f g out

-- a joined file in an edition that has room for it is the join of the first file's form in that edition and of the second's in any, in
-- every buffer that has room for it (where the join of the files themselves is too large for the first's edition, CallJoins speaks of the
-- forms)
abbrev pub JoinedForms : Type 0
JoinedForms =
    (f g : List ℕ) (e d : ℕ) (out room : List ℕ) (n : ℕ) → Bytes f → HasForm g d → (join_on f g out).0 ≡ done n → HasForm (joined_file f g) e →
    length (in_edition (joined_file f g) e) ≤ length room →
    join_on (in_edition f e) (in_edition g d) room ≡ (done (length (in_edition (joined_file f g) e)), written_in room (in_edition (joined_file f g) e))
