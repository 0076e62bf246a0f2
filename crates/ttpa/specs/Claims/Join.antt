-- What ttpa_join returns and leaves in lent memory (document 02, job 13: "The result holds the first file's slaves and then the second's ..
-- Every other byte of every record stays the same."). (`join/specs/Claims` has the same over files; naming after it is
-- `demand/specs/Claims/Join`.)
use Rattle.std.specs.Prelude.{ℕ, ◌≤◌, ◌≡◌, List, length, take}
use Rattle.file.specs.Rules.Bytes.{Bytes}
use Rattle.file.specs.Rules.Results.{written_in}
use Rattle.file.specs.Rules.Editions.{in_edition}
use Rattle.join.specs.Rules.Joined.{joined_file}
use Rattle.join.specs.Rules.Join.{join_ground}
use Rattle.join.specs.Claims.Result.{JoinOf}
use Rattle.join.specs.Claims.JoinEditions.{HasForm}
use Rattle.ttpa.specs.Rules.Calls.{convert_call, join_call}

-- the number is that of the first ground that holds, whose order is `join/specs/Claims/JoinGrounds`
abbrev pub JoinNumbers : Type 0
JoinNumbers = (first second out : List ℕ) (size : ℕ) → (join_call first second out size).0 ≡ join_ground first second out

-- a call that returns 0 leaves the joined file, its length, and the rest of the buffer as it was
abbrev pub JoinWritten : Type 0
JoinWritten =
    (first second out : List ℕ) (size : ℕ) → (join_call first second out size).0 ≡ 0 →
    join_call first second out size ≡ (0, length (joined_file first second), written_in out (joined_file first second))

-- the front of the buffer, as long as the call says, is what the request says of the result
abbrev pub JoinLeft : Type 0
JoinLeft =
    (first second out : List ℕ) (size : ℕ) → Bytes first → Bytes second → (join_call first second out size).0 ≡ 0 →
    JoinOf first second (take (join_call first second out size).1 (join_call first second out size).2)

-- the joined file converted is what ttpa_join makes of the first file's form in that edition and of the second's in any
abbrev pub JoinsConverted : Type 0
JoinsConverted =
    (first second : List ℕ) (e d : ℕ) (out : List ℕ) (size : ℕ) (room : List ℕ) (again : ℕ) → Bytes first → HasForm second d →
    (join_call first second out size).0 ≡ 0 → HasForm (joined_file first second) e → length (in_edition (joined_file first second) e) ≤ length room →
    join_call (in_edition first e) (in_edition second d) room again ≡ convert_call e (joined_file first second) room again
