-- The call that writes the owner file of a cluster file into a buffer (document 02, jobs 4 and 7).
use Rattle.std.specs.Prelude.{ℕ, List, [], ◌∷◌, ◌++◌, Bool, cond, length, eqb, ltb}
use Rattle.file.specs.Rules.Order.{Ground, first_of}
use Rattle.file.specs.Rules.Results.{Result, refused, done, written_in}
use Rattle.file.specs.Rules.Cluster.{Slave}
use Rattle.file.specs.Rules.Decode.{decode}
use Rattle.file.specs.Rules.FileGrounds.{file_grounds}
use Rattle.owner.specs.Rules.Plan.{two_send, multiplexed_send}
use Rattle.owner.specs.Rules.OwnerFile.{owner_file}

-- "21, the buffer is too short": for this owner file
unfoldable pub too_short : List ℕ → ℕ → List Slave → Bool
too_short buffer master ss = ltb (length buffer) (length (owner_file master ss))

-- "New numbers: 20, two slaves send in one slot of a round; 21, the buffer is too short; in this order after 8."
-- "New numbers: 23, a multiplexed send before the end .., checked by the owner writer after 8 and before 20."
unfoldable pub owner_grounds : List ℕ → ℕ → List ℕ → List Ground
owner_grounds file master buffer =
    let slaves = (decode file).slaves in
    file_grounds file ++ (23, multiplexed_send slaves) ∷ (20, two_send slaves) ∷ (21, too_short buffer master slaves) ∷ []

unfoldable pub owner_ground : List ℕ → ℕ → List ℕ → ℕ
owner_ground file master buffer = first_of (owner_grounds file master buffer)

-- the answer, with the length of what was written, and the buffer
unfoldable pub owner_on : List ℕ → ℕ → List ℕ → Result ℕ × List ℕ
owner_on file master buffer =
    let reason = owner_ground file master buffer in
    let bytes = owner_file master (decode file).slaves in
    cond (eqb reason 0) (done (length bytes), written_in buffer bytes) (refused reason, buffer)
