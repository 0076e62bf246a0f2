-- The bytes of the owner file (document 02, job 4).
use Rattle.std.specs.Prelude.{ℕ, zero, suc, ◌+◌, ◌-◌, ◌/◌, ◌%◌, List, [], ◌∷◌, ◌++◌, cond, length, replicate, eqb}
use Rattle.file.specs.Rules.Layout.{record_size}
use Rattle.file.specs.Rules.Cluster.{Slave, logical_name}
use Rattle.master_slave.specs.Rules.Bus.{slots}
use Rattle.owner.specs.Rules.Plan.{rounds, is_owned, senders_in}

-- "the logical name that sends in slot .., 0x00 where none does". Where two send, 20 refuses the file.
abbrev pub no_owner : ℕ
no_owner = 0x00

unfoldable pub name_of : List Slave → ℕ
name_of [] = no_owner
name_of (s ∷ ss) = logical_name s

-- "slot 0 being the master's name, which the caller gives"
unfoldable pub owner_of : ℕ → ℕ → List Slave → ℕ → ℕ
owner_of master round ss zero = master
owner_of master round ss (suc slot) = name_of (senders_in round (suc slot) ss)

-- "the last slot one sends in", of the slots up to n; 0, the master's, where nobody sends
unfoldable pub last_owned : ℕ → List Slave → ℕ → ℕ
last_owned round ss zero = 0
last_owned round ss (suc n) =
    let rest = last_owned round ss n in cond (eqb (length (senders_in round (suc n) ss)) 0) rest (suc n)

-- the owners of the slots below n
unfoldable pub owners_below : ℕ → ℕ → List Slave → ℕ → List ℕ
owners_below master round ss zero = []
owners_below master round ss (suc n) = owners_below master round ss n ++ (owner_of master round ss n ∷ [])

-- "it lists the logical name that sends in slot 0 up to the last slot one sends in"
unfoldable pub owners_of : ℕ → ℕ → List Slave → List ℕ
owners_of master round ss = owners_below master round ss (last_owned round ss (slots - 1) + 1)

-- "padded with 0x00": to whole records
unfoldable pub padded : List ℕ → List ℕ
padded bytes = bytes ++ replicate ((record_size - length bytes % record_size) % record_size) 0x00

-- a round's bytes; rounds 1 and 5 have none
unfoldable pub row_of : ℕ → List Slave → ℕ → List ℕ
row_of master ss round = cond (is_owned round) (padded (owners_of master round ss)) []

-- "Each round begins at byte 0 of a record, in round order from record 3": the bytes of the rounds below n
unfoldable pub rows_below : ℕ → List Slave → ℕ → List ℕ
rows_below master ss zero = []
rows_below master ss (suc n) = rows_below master ss n ++ row_of master ss n

abbrev pub first_row_record : ℕ
first_row_record = 3

-- "the record where each round begins, 0x00 for rounds 1 and 5"
unfoldable pub index_of : ℕ → List Slave → ℕ → ℕ
index_of master ss round = cond (is_owned round) (first_row_record + length (rows_below master ss round) / record_size) 0x00

unfoldable pub index_below : ℕ → List Slave → ℕ → List ℕ
index_below master ss zero = []
index_below master ss (suc n) = index_below master ss n ++ (index_of master ss n ∷ [])

-- "Record 0x00 is written as zeros."; "Records 1 and 2 hold the eight index bytes"
unfoldable pub owner_file : ℕ → List Slave → List ℕ
owner_file master ss = replicate record_size 0x00 ++ (index_below master ss rounds ++ rows_below master ss rounds)
