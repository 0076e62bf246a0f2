-- The owner file's size and index.
use Rattle.std.specs.Prelude.{ℕ, ◌+◌, ◌-◌, ◌*◌, ◌≤◌, ◌<◌, ◌≡◌, List, [], true, false, length, get_or}
use Rattle.file.specs.Rules.Bytes.{Byte}
use Rattle.file.specs.Rules.Layout.{record_size}
use Rattle.file.specs.Rules.Cluster.{Slave}
use Rattle.master_slave.specs.Rules.Bus.{slots}
use Rattle.owner.specs.Rules.Plan.{rounds, is_owned, senders_in}
use Rattle.owner.specs.Rules.OwnerFile.{owner_of, last_owned, row_of, index_of, owner_file}
use Rattle.owner.specs.Rules.OwnerWriting.{too_short}

-- record 0x00, the index and six rows of 64 bytes at most
abbrev pub longest : ℕ
longest = 396

abbrev pub AtMostLongest : Type 0
AtMostLongest = (master : ℕ) (ss : List Slave) → length (owner_file master ss) ≤ longest

-- a buffer so long is never refused by 21
abbrev pub LongestFits : Type 0
LongestFits = (buffer : List ℕ) (master : ℕ) (ss : List Slave) → longest ≤ length buffer → too_short buffer master ss ≡ false

-- every index byte is a byte
abbrev pub IndexBytes : Type 0
IndexBytes = (master : ℕ) (ss : List Slave) (round : ℕ) → round < rounds → Byte (index_of master ss round)

-- every byte of a row, its padding too, is the owner of its slot, and is found through the round's index byte
abbrev pub FoundByIndex : Type 0
FoundByIndex =
    (master : ℕ) (ss : List Slave) (round : ℕ) → round < rounds → is_owned round ≡ true → (slot : ℕ) → slot < length (row_of master ss round)
    → get_or (owner_file master ss) (record_size * get_or (owner_file master ss) (record_size + round) 0 + slot) 0 ≡ owner_of master round ss slot

-- past the last slot of a row nobody sends
abbrev pub NobodyPastRow : Type 0
NobodyPastRow = (ss : List Slave) (round slot : ℕ) → last_owned round ss (slots - 1) < slot → slot < slots → senders_in round slot ss ≡ []
