-- What ttpa_contents returns and leaves in lent memory. (`contents/specs/Claims/ContentsRead` has the same over files, and that each file of
-- each slave is read.)
use Rattle.std.specs.Prelude.{ℕ, ◌≤◌, ◌≡◌, ◌↔◌, List, [], length}
use Rattle.file.specs.Rules.Bytes.{Bytes}
use Rattle.file.specs.Rules.FileGrounds.{file_ground}
use Rattle.contents.specs.Rules.Contents.{contents_in}
use Rattle.contents.specs.Claims.ContentsRead.{NotThere, LeftBy}
use Rattle.ttpa.specs.Rules.Calls.{contents_call}

-- the number is that of the cluster file's ground: so it is 0 exactly where the file is accepted, whatever else is asked
abbrev pub ContentsNumbers : Type 0
ContentsNumbers = (file : List ℕ) (slave number : ℕ) (buffer : List ℕ) (size : ℕ) → (contents_call file slave number buffer size).0 ≡ file_ground file

-- what a call that returns 0 leaves: the file's length, and of the buffer each byte that is the file's and each that stays; and 0 as the length
-- exactly where there is no such slave or file
pub record ContentsOf (file : List ℕ) (slave number : ℕ) (buffer : List ℕ) (told : ℕ) (left : List ℕ) : Type 0 where
  pub size : told ≡ length (contents_in file slave number)
  pub bytes : LeftBy (contents_in file slave number) buffer left
  pub none : (told ≡ 0) ↔ NotThere file slave number
  pub most : told ≤ 1024

abbrev pub ContentsLeft : Type 0
ContentsLeft =
    (file : List ℕ) (slave number : ℕ) (buffer : List ℕ) (size : ℕ) → Bytes file → (contents_call file slave number buffer size).0 ≡ 0 →
    ContentsOf file slave number buffer (contents_call file slave number buffer size).1 (contents_call file slave number buffer size).2

-- a buffer of 0 bytes asks for the length alone: it is that of every other buffer
abbrev pub LengthAlone : Type 0
LengthAlone =
    (file : List ℕ) (slave number : ℕ) (buffer : List ℕ) (size : ℕ) →
    contents_call file slave number [] size ≡ ((contents_call file slave number buffer size).0, (contents_call file slave number buffer size).1, [])
