-- What the call leaves in the buffer, the call on files of sleepers, and on a file of unknown edition.
use Rattle.std.specs.Prelude.{ℕ, ◌+◌, ◌*◌, ◌<◌, ◌≡◌, List, map, true, length, get_or, take}
use Rattle.file.specs.Rules.Layout.{record_size}
use Rattle.file.specs.Rules.Cluster.{File, Slave, Cluster}
use Rattle.file.specs.Rules.Results.{done}
use Rattle.file.specs.Rules.Decode.{decode}
use Rattle.file.specs.Rules.Changes.{with_epoch}
use Rattle.file.specs.Rules.FileGrounds.{file_ground}
use Rattle.file.specs.Claims.Edition.{NoEdition}
use Rattle.owner.specs.Rules.Plan.{rounds, is_owned}
use Rattle.owner.specs.Rules.OwnerFile.{row_of}
use Rattle.owner.specs.Rules.OwnerWriting.{owner_on}
use Rattle.owner.specs.Claims.PlannedRounds.{OwnerRuns, Plain, PlainOwnerRuns}

-- the byte of a buffer that stands for a slot of a round, by the round's index byte
abbrev pub slot_byte : List ℕ → ℕ → ℕ → ℕ
slot_byte buffer round slot = get_or buffer (record_size * get_or buffer (record_size + round) 0 + slot) 0

-- in the buffer that the call leaves, the byte of every slot from 1 on of every row says who sends there in the round as it runs, in every
-- epoch; the owner file knows none
abbrev pub BufferRuns : Type 0
BufferRuns =
    (file : List ℕ) (master : ℕ) (buffer : List ℕ) (n : ℕ) → (owner_on file master buffer).0 ≡ done n → (round : ℕ) → round < rounds → is_owned round ≡ true
    → (epoch slot : ℕ) → 0 < slot → slot < length (row_of master (decode file).slaves round)
    → OwnerRuns (with_epoch (decode file) epoch) round slot (slot_byte (owner_on file master buffer).1 round slot)

-- and without multiplexed entries it is who sends there, if it is awake
abbrev pub PlainBufferRuns : Type 0
PlainBufferRuns =
    (file : List ℕ) (master : ℕ) (buffer : List ℕ) (n : ℕ) → (owner_on file master buffer).0 ≡ done n → (round : ℕ) → round < rounds → is_owned round ≡ true
    → Plain (decode file) round → (epoch slot : ℕ) → 0 < slot → slot < length (row_of master (decode file).slaves round)
    → PlainOwnerRuns (with_epoch (decode file) epoch) round slot (slot_byte (owner_on file master buffer).1 round slot)

-- a cluster's slaves without who sleeps: the files of each, in table order
abbrev pub files_of : Cluster → List (List File)
files_of c = map (λ (s : Slave). s.files) c.slaves

-- "The owner file is planned as if every slave were awake." (document 02, job 9): on two accepted files of the same slaves but for who
-- sleeps, or two refused by the same number, the answer with its number or length and the buffer are the same
abbrev pub PlannedAwake : Type 0
PlannedAwake =
    (f g : List ℕ) → file_ground g ≡ file_ground f → files_of (decode g) ≡ files_of (decode f) → (master : ℕ) (buffer : List ℕ)
    → owner_on g master buffer ≡ owner_on f master buffer

-- on a file of unknown edition its answer depends on the file's length and first three bytes alone
abbrev pub UnknownEdition : Type 0
UnknownEdition =
    (f g : List ℕ) (m n : ℕ) (a b : List ℕ) → length f ≡ length g → take 3 f ≡ take 3 g → NoEdition f → (owner_on f m a).0 ≡ (owner_on g n b).0
