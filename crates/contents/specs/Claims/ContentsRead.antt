-- What the call that reads a slave's file tells and leaves, said of the slaves' files and of single bytes.
use Rattle.std.specs.Prelude.{ℕ, ◌≤◌, ◌<◌, ◌≡◌, ◌↔◌, ◌≢◌, List, [], length, get_or, take}
use Rattle.file.specs.Rules.Bytes.{Bytes}
use Rattle.file.specs.Rules.Results.{refused, done}
use Rattle.file.specs.Rules.Cluster.{File, no_slave_lem}
use Rattle.file.specs.Rules.Decode.{decode}
use Rattle.file.specs.Rules.FileGrounds.{file_ground}
use Rattle.file.specs.Claims.Edition.{NoEdition}
use Rattle.contents.specs.Rules.Contents.{contents_in, contents_on}

-- it is answered exactly where the cluster file is accepted, with how many bytes the slave's file has, and else refused by the cluster
-- file's ground
pub record AnsweredExactly : Type 0 where
  pub told :
      (f : List ℕ) (s n : ℕ) (buffer : List ℕ) (k : ℕ) →
      ((contents_on f s n buffer).0 ≡ done k) ↔ ((file_ground f ≡ 0) × (k ≡ length (contents_in f s n)))
  pub turned_away :
      (f : List ℕ) (s n : ℕ) (buffer : List ℕ) (k : ℕ) → ((contents_on f s n buffer).0 ≡ refused k) ↔ ((file_ground f ≡ k) × (k ≢ 0))

-- the files of the slave at a place of the table, none for a place behind it
abbrev pub slave_files : List ℕ → ℕ → List File
slave_files f s = (get_or (decode f).slaves s no_slave_lem).files

-- file i of them, in the order of their numbers
abbrev pub slave_file : List ℕ → ℕ → ℕ → File
slave_file f s i = get_or (slave_files f s) i (record { number = 0; bytes = [] })

-- each file of each slave is read by its number, with all its bytes
abbrev pub EachFileRead : Type 0
EachFileRead =
    (f : List ℕ) → Bytes f → file_ground f ≡ 0 → (s i : ℕ) → s < length (decode f).slaves → i < length (slave_files f s) →
    contents_in f s (slave_file f s i).number ≡ (slave_file f s i).bytes

-- there is no such slave, or it has no file of that number
pub data NotThere (f : List ℕ) (s n : ℕ) : Type 0 where
  no_slave : length (decode f).slaves ≤ s → NotThere f s n
  no_file : ((i : ℕ) → i < length (slave_files f s) → (slave_file f s i).number ≢ n) → NotThere f s n

-- 0 bytes are told exactly then
abbrev pub NoneExactly : Type 0
NoneExactly = (f : List ℕ) → Bytes f → file_ground f ≡ 0 → (s n : ℕ) → (length (contents_in f s n) ≡ 0) ↔ NotThere f s n

-- a slave's file has at most 1,024 bytes, TTPA_SLAVE_FILE_BYTES of the header: "record count r, 1 to 255", "A file is 4(r + 1) bytes"
abbrev pub MostBytes : Type 0
MostBytes = (f : List ℕ) → Bytes f → file_ground f ≡ 0 → (s n : ℕ) → length (contents_in f s n) ≤ 1024

-- what is left of a buffer: byte by byte the file as far as both go, and behind the file what it held
pub record LeftBy (bytes buffer left : List ℕ) : Type 0 where
  pub long : length left ≡ length buffer
  pub front : (i : ℕ) → i < length bytes → i < length buffer → get_or left i 0 ≡ get_or bytes i 0
  pub rest : (i : ℕ) → length bytes ≤ i → get_or left i 0 ≡ get_or buffer i 0

abbrev pub BufferLeft : Type 0
BufferLeft =
    (f : List ℕ) (s n : ℕ) (buffer : List ℕ) (k : ℕ) → (contents_on f s n buffer).0 ≡ done k →
    LeftBy (contents_in f s n) buffer (contents_on f s n buffer).1

-- on a file of unknown edition the answer depends on the file's length and first three bytes alone
abbrev pub UnknownEdition : Type 0
UnknownEdition =
    (f g : List ℕ) (s t m n : ℕ) (a b : List ℕ) → length f ≡ length g → take 3 f ≡ take 3 g → NoEdition f →
    (contents_on f s m a).0 ≡ (contents_on g t n b).0
