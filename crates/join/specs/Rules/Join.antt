-- The call that writes the file of two joined clusters into a buffer (document 02, job 13).
use Rattle.std.specs.Prelude.{ℕ, List, [], ◌∷◌, ◌++◌, cond, length, eqb, ltb}
use Rattle.file.specs.Rules.Order.{Ground, first_of, either}
use Rattle.file.specs.Rules.Layout.{width_in}
use Rattle.file.specs.Rules.Results.{Result, refused, done, written_in}
use Rattle.file.specs.Rules.Encode.{file_length}
use Rattle.file.specs.Rules.Decode.{decode}
use Rattle.file.specs.Rules.Editions.{exceeds}
use Rattle.file.specs.Rules.FileGrounds.{file_grounds}
use Rattle.join.specs.Rules.Joined.{joined, joined_file, shares_name}

-- "New numbers: 29, a physical name in both files; 30, the joined file exceeds the edition's limits or the buffer; in this order after 8,
-- the first file being checked before the second."
unfoldable pub join_grounds : List ℕ → List ℕ → List ℕ → List Ground
join_grounds f g out =
    let c = decode f in
    let d = decode g in
    let width = width_in c.edition in
    let slaves = (joined c d).slaves in
    file_grounds f ++ (file_grounds g ++
    (29, shares_name c d) ∷ (30, either (exceeds width slaves) (ltb (length out) (file_length width slaves))) ∷ [])

unfoldable pub join_ground : List ℕ → List ℕ → List ℕ → ℕ
join_ground f g out = first_of (join_grounds f g out)

-- the answer, with the length of what was written, and the buffer: "Past the bytes a call writes, a buffer keeps its content."
unfoldable pub join_on : List ℕ → List ℕ → List ℕ → Result ℕ × List ℕ
join_on f g out =
    let reason = join_ground f g out in
    let bytes = joined_file f g in
    cond (eqb reason 0) (done (length bytes), written_in out bytes) (refused reason, out)
