-- Words of the contracts between functions: a screen's read in the code's struct, and the ground of a post.
use Rattle.std.specs.Prelude.{ℕ, ◌+◌, ◌<◌, ◌≡◌, List, get_or}
use Rattle.file.specs.Rules.Bytes.{Byte}
use Rattle.file.specs.Inner.Typed.{file_in, record_in, name_in_lem}
use Rattle.master_slave.specs.declared.types.RecordAddress.{RecordAddress}
use Rattle.screens.specs.Rules.Screens.{screens, Read, read_by, read_of, post_ground}

abbrev pub read_in : RecordAddress → Read
read_in a = read_by (name_in_lem a.name) (file_in a.number) (record_in a.«record»)

-- the read in the four bytes at a place, whose name and record are bytes
pub record ReadAt (state : List ℕ) (place : ℕ) (a : RecordAddress) : Type 0 where
  pub is : read_in a ≡ read_by (get_or state (place + 1) 0) (get_or state (place + 2) 0) (get_or state (place + 3) 0)
  pub name : Byte (name_in_lem a.name)
  pub «record» : Byte (record_in a.«record»)

-- the read that a screen has posted
pub record PostedRead (state : List ℕ) (i : ℕ) (a : RecordAddress) : Type 0 where
  pub is : read_in a ≡ read_of state i
  pub name : Byte (name_in_lem a.name)
  pub «record» : Byte (record_in a.«record»)

-- the ground of a post, 0 only of one of the eight screens
pub record PostGround (state : List ℕ) (i : ℕ) (r : Read) (reason : ℕ) : Type 0 where
  pub is : reason ≡ post_ground state i r
  pub few : reason ≡ 0 → i < screens
