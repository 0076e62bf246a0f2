-- Where the slaves of an accepted file begin in it, and what a form of them at a width asks of a buffer.
use Rattle.std.specs.Prelude.{ℕ, ◌+◌, ◌*◌, ◌≤◌, ◌<◌, ◌≡◌, List, [], ◌∷◌, map, Bool, false, cond, length, take, ltb}
use Rattle.std.proofs.lemmas.List.Edits.{sets}
use Rattle.file.specs.Rules.Order.{either}
use Rattle.file.specs.Rules.Layout.{OffsetWidth, width_in, entry_size_lem, max_slaves, max_length}
use Rattle.file.specs.Rules.Cluster.{Slave, Cluster}
use Rattle.file.specs.Rules.Encode.{directory, slave_size, slave_bytes, slaves_size, slaves_bytes, table, slaves_place, file_length}
use Rattle.file.specs.Rules.Decode.{decode}
use Rattle.file.specs.Inner.Places.{slave_of}
use Rattle.file.specs.Inner.Accepted.{AcceptedFile, WidthOf, slave_count}
use Rattle.convert.specs.Inner.Putting.{Put}

-- where an encoding of the cluster has the directory of its slave number s; its end where s is their count
unfoldable pub slave_start : ℕ → Cluster → ℕ → ℕ
slave_start w c s = slaves_place w c.slaves + slaves_size w (take s c.slaves)

-- a slave's directory that stands at a place, its files behind it
abbrev pub directory_of : ℕ → ℕ → Slave → List ℕ
directory_of w at s = directory w (at + entry_size_lem w * length s.files) s.files

-- a list with the directories of slaves put into it, which lie in it from a place on, one behind the other
unfoldable pub with_directories : ℕ → ℕ → List Slave → List ℕ → List ℕ
with_directories w at [] l = l
with_directories w at (s ∷ ss) l = with_directories w (at + slave_size w s) ss (sets l at (directory_of w at s))

-- a slave as a table lists it, with its sleep byte or awake; and all the slaves of one
unfoldable pub listed_as : Bool → Slave → Slave
listed_as kept s = record { asleep = cond kept s.asleep 0; files = s.files }

abbrev pub listed : Bool → List Slave → List Slave
listed kept ss = map (listed_as kept) ss

-- so many slaves or so many bytes are too many for the edition of that width
unfoldable pub is_over : ℕ → ℕ → ℕ → Bool
is_over w count size = either (ltb (max_slaves w) count) (ltb (max_length w) size)

-- where a slave starts in a file, by the width of its edition
pub record StartsAt (f : List ℕ) (s at : ℕ) : Type 0 where
  pub is : at ≡ slave_start (width_in (decode f).edition) (decode f) s
  pub within : at ≤ length f

-- how many files slaves have
unfoldable pub files_in : List Slave → ℕ
files_in [] = 0
files_in (s ∷ ss) = length s.files + files_in ss

-- a slave of a file, by the width of the file's offsets, its number and where it starts
pub record SlaveRead (f : List ℕ) (own s start : ℕ) : Type 0 where
  pub file : AcceptedFile f
  pub width : WidthOf f own
  pub there : s < slave_count f
  pub starts : StartsAt f s start

-- a width that there is, and a list with room for a slave's directory and files, which lie where their offsets say; for those of slaves
-- one behind the other; and for these with their table before them
pub record SlaveFits (w : ℕ) (out : List ℕ) (place : ℕ) (s : Slave) : Type 0 where
  pub width : OffsetWidth w
  pub room : place + slave_size w s ≤ length out
  pub short : place + slave_size w s ≤ max_length w

pub record SlavesFit (w : ℕ) (out : List ℕ) (place : ℕ) (ss : List Slave) : Type 0 where
  pub width : OffsetWidth w
  pub room : place + slaves_size w ss ≤ length out
  pub short : place + slaves_size w ss ≤ max_length w

pub record BodyFits (w : ℕ) (out : List ℕ) (at place : ℕ) (ss : List Slave) : Type 0 where
  pub before : at + entry_size_lem w * length ss ≤ place
  pub slaves : SlavesFit w out place ss

-- and for a whole file of that length
pub record FormFits (w : ℕ) (out : List ℕ) (size : ℕ) (ss : List Slave) : Type 0 where
  pub width : OffsetWidth w
  pub is : size ≡ file_length w ss
  pub room : file_length w ss ≤ length out
  pub short : file_length w ss ≤ max_length w
  pub few : length ss ≤ max_slaves w

-- a slave's directory is put, and its files end at a place; the slave is put, and the next one starts there in the file
pub record DirectoryDone (w at : ℕ) (s : Slave) (old new : List ℕ) (end : ℕ) : Type 0 where
  pub put : Put old at (directory_of w at s) new
  pub ends : end ≡ at + slave_size w s

pub record SlaveDone (w : ℕ) (f : List ℕ) (s at : ℕ) (old new : List ℕ) (start end : ℕ) : Type 0 where
  pub put : Put old at (slave_bytes w at (slave_of (decode f) s)) new
  pub ends : end ≡ at + slave_size w (slave_of (decode f) s)
  pub starts : StartsAt f (s + 1) start

-- the table of slaves is put from one place on, with their sleep bytes or all awake, and the slaves from another on
pub record BodyDone (kept : Bool) (w at place : ℕ) (ss : List Slave) (old new : List ℕ) : Type 0 where
  pub put : Put (sets old at (table w place (listed kept ss))) place (slaves_bytes w place ss) new

-- over slaves that were copied to a place their directories are put, and from another place on their table, all awake: all other bytes stay
pub record MovedDone (w at place : ℕ) (ss : List Slave) (old new : List ℕ) : Type 0 where
  pub put : Put (with_directories w place ss old) at (table w place (listed false ss)) new
