-- What the functions of the owner writer promise to one another.
use Rattle.std.specs.Prelude.{ℕ, zero, suc, ◌+◌, ◌-◌, ◌*◌, ◌/◌, ◌≤◌, ◌<◌, ◌≡◌, List, ◌++◌, Bool, false, cond, not, length, get_or, take, replicate, eqb, leb}
use Rattle.file.specs.Rules.Order.{both}
use Rattle.file.specs.Rules.Layout.{record_size}
use Rattle.file.specs.Rules.Cluster.{Slave}
use Rattle.master_slave.specs.Rules.Bus.{slots}
use Rattle.owner.specs.Rules.Plan.{rounds, sends_in, senders_in, two_send_in, some_below, is_owned, some_entry, some_entry_of, is_multiplexed_send}
use Rattle.owner.specs.Rules.OwnerFile.{no_owner, owner_of, owners_of, padded, rows_below, first_row_record, index_below}
use Rattle.owner.specs.Inner.Masks.{is_set, Marks}

-- a slave sends in the slot; none does in slot 0
unfoldable pub planned_in : ℕ → Slave → ℕ → Bool
planned_in round s zero = false
planned_in round s (suc slot) = sends_in round (suc slot) s

-- the slots in which a slave sends, and whether it has a multiplexed send
pub record SlavePlanned (round : ℕ) (s : Slave) (sends : ℕ) (multiplexed : Bool) : Type 0 where
  pub slots : Marks sends (planned_in round s)
  pub multiplexes : multiplexed ≡ some_entry is_multiplexed_send round s

-- a row with a name put at every slot of a mask
pub record OwnerPut (old new : List ℕ) (mask name : ℕ) : Type 0 where
  pub room : length new ≡ length old
  pub at : (slot : ℕ) → slot < slots → get_or new slot 0 ≡ cond (is_set mask slot) name (get_or old slot 0)

-- someone sends in the slot; two slaves do
unfoldable pub someone : ℕ → List Slave → ℕ → Bool
someone round ss slot = not (eqb (length (senders_in round slot ss)) 0)

unfoldable pub two_there : ℕ → List Slave → ℕ → Bool
two_there round ss slot = leb 2 (length (senders_in round slot ss))

-- a round's owners, slot by slot, with the masks of who sends, and whether one has a multiplexed send
pub record RoundPlanned (ss : List Slave) (master round : ℕ) (row : List ℕ) (senders clashes : ℕ) (multiplexed : Bool) : Type 0 where
  pub room : length row ≡ slots
  pub owners : (slot : ℕ) → slot < slots → get_or row slot 0 ≡ owner_of master round ss slot
  pub sends : Marks senders (someone round ss)
  pub twice : Marks clashes (two_there round ss)
  pub multiplexes : multiplexed ≡ some_entry_of is_multiplexed_send round ss

-- the same of the slaves before index n
pub record RoundPlanning (ss : List Slave) (master round : ℕ) (row : List ℕ) (senders clashes : ℕ) (multiplexed : Bool) (n : ℕ) : Type 0 where
  pub most : n ≤ length ss
  pub planned : RoundPlanned (take n ss) master round row senders clashes multiplexed

-- the slave at index n added to what is planned of those before it, whoever is the master
pub record SlaveAdded (ss : List Slave) (round n : ℕ) (row : List ℕ) (senders clashes : ℕ) (multiplexed : Bool) (new : List ℕ) (senders' clashes' : ℕ) (multiplexed' : Bool) : Type 0 where
  pub planned : (master : ℕ) → RoundPlanning ss master round row senders clashes multiplexed n → RoundPlanning ss master round new senders' clashes' multiplexed' (n + 1)

-- a round's row in front of zeros
pub record RowWritten (ss : List Slave) (master round : ℕ) (row : List ℕ) (size : ℕ) (clash multiplexed : Bool) : Type 0 where
  pub most : size ≤ slots
  pub long : size ≡ length (padded (owners_of master round ss))
  pub bytes : row ≡ padded (owners_of master round ss) ++ replicate (slots - size) no_owner
  pub twice : clash ≡ two_send_in round ss
  pub multiplexes : multiplexed ≡ some_entry_of is_multiplexed_send round ss

-- record 0x00 and the index; the rows
abbrev pub head_room : ℕ
head_room = record_size + rounds

abbrev pub rows_room : ℕ
rows_room = rounds * slots

-- a round's index byte, by how many bytes the rows before it have
unfoldable pub index_byte : ℕ → ℕ → ℕ
index_byte round size = cond (is_owned round) (first_row_record + size / record_size) 0x00

-- the rows of the rounds below n are written, in front of zeros
pub record RowsWritten (ss : List Slave) (master n : ℕ) (rows : List ℕ) (size : ℕ) (clash multiplexed : Bool) : Type 0 where
  pub few : n ≤ rounds
  pub most : size ≤ slots * n
  pub long : size ≡ length (rows_below master ss n)
  pub bytes : rows ≡ rows_below master ss n ++ replicate (rows_room - size) no_owner
  pub twice : clash ≡ some_below (λ (round : ℕ). both (is_owned round) (two_send_in round ss)) n
  pub multiplexes : multiplexed ≡ some_below (λ (round : ℕ). both (is_owned round) (some_entry_of is_multiplexed_send round ss)) n

-- with their index
pub record RoundsWritten (ss : List Slave) (master n : ℕ) (head rows : List ℕ) (size : ℕ) (clash multiplexed : Bool) : Type 0 where
  pub begins : head ≡ replicate record_size no_owner ++ (index_below master ss n ++ replicate (rounds - n) no_owner)
  pub written : RowsWritten ss master n rows size clash multiplexed
