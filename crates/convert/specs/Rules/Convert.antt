-- The call that writes a cluster file's form in an edition into a buffer (document 02, job 10).
use Rattle.std.specs.Prelude.{ℕ, List, [], ◌∷◌, ◌++◌, cond, length, eqb, ltb}
use Rattle.file.specs.Rules.Order.{Ground, first_of}
use Rattle.file.specs.Rules.Layout.{width_in}
use Rattle.file.specs.Rules.Results.{Result, refused, done, written_in}
use Rattle.file.specs.Rules.Encode.{file_length}
use Rattle.file.specs.Rules.Decode.{decode}
use Rattle.file.specs.Rules.Editions.{in_edition, exceeds}
use Rattle.file.specs.Rules.FileGrounds.{file_grounds}

-- "New numbers: 25, narrowing a file with more than 32 slaves or an edition-1 form above 32,768 bytes; 26, a conversion buffer too short;
-- in this order after 8." The limits are those of the edition asked for: an accepted file exceeds neither its own nor, of edition 1, those
-- of edition 2, so that 25 refuses only where a file is narrowed (`Claims/ConversionGrounds`).
unfoldable pub convert_grounds : List ℕ → ℕ → List ℕ → List Ground
convert_grounds f edition out =
    let slaves = (decode f).slaves in
    let width = width_in edition in
    file_grounds f ++ (25, exceeds width slaves) ∷ (26, ltb (length out) (file_length width slaves)) ∷ []

unfoldable pub convert_ground : List ℕ → ℕ → List ℕ → ℕ
convert_ground f edition out = first_of (convert_grounds f edition out)

-- the answer, with the length of what was written, and the buffer: "Past the bytes a call writes, a buffer keeps its content."
unfoldable pub convert_on : List ℕ → ℕ → List ℕ → Result ℕ × List ℕ
convert_on f edition out =
    let reason = convert_ground f edition out in
    let bytes = in_edition f edition in
    cond (eqb reason 0) (done (length bytes), written_in out bytes) (refused reason, out)
