-- Joins of small files, computed: each case of the rule on a name, the sleep byte and the pending bytes, both editions in either order,
-- empty files, and the grounds in their order.
-- Assumes nothing.
use Rattle.std.proofs.Common.{ℕ, ◌≡◌, refl, List, [], ◌∷◌, ◌++◌, replicate, set}
use Rattle.file.specs.Rules.Results.{refused, done}
use Rattle.file.specs.Rules.Cluster.{logical_name, logical_names, no_operation, broadcast_read}
use Rattle.file.specs.Rules.Decode.{decode}
use Rattle.file.specs.Rules.Changes.{put_among, put_in_slave, with_sleep}
use Rattle.file.specs.Rules.FileGrounds.{held_names, equal_logical_names, load_ground}
use Rattle.convert.proofs.Examples.{examples as convert_examples}
use Rattle.join.specs.Rules.Joined.{turned, slaves_joined, awake, joined, joined_file, any_among, shares_name}
use Rattle.join.specs.Rules.Join.{join_grounds, join_ground, join_on}

-- ---- the files

-- the records of 0x08 and of 0x3D of a slave with this logical name and serial number
abbrev records : ℕ → ℕ → List ℕ
records name serial =
    0xA0 ∷ 0xA1 ∷ 0xA2 ∷ 0xA3 ∷ 0x00 ∷ 0x00 ∷ 0x05 ∷ name ∷ 0x00 ∷ 0x00 ∷ 0x00 ∷ 0x07 ∷ 0x00 ∷ 0x00 ∷ 0x00 ∷ 0xA0 ∷
    0xD0 ∷ 0xD1 ∷ 0xD2 ∷ 0xD3 ∷ 0x00 ∷ 0x00 ∷ 0x00 ∷ 0x07 ∷ 0x00 ∷ 0x00 ∷ 0x00 ∷ serial ∷ []

-- epoch, pending flag, logical name, PB2 and PB3: a write that is pending, and nothing
abbrev pub pending : List ℕ
pending = 0x0C ∷ 0x01 ∷ 0x05 ∷ 0x21 ∷ 0x02 ∷ []

abbrev pub free : List ℕ
free = 0x00 ∷ 0x00 ∷ 0x05 ∷ 0x21 ∷ 0x02 ∷ []

abbrev pub nothing : List ℕ
nothing = 0x00 ∷ 0x00 ∷ 0x00 ∷ 0x00 ∷ 0x00 ∷ []

-- one slave in edition 1, 56 bytes, and in edition 2, 76 bytes: the header's five bytes, its sleep byte, its logical name, its serial number
abbrev pub one : List ℕ → ℕ → ℕ → ℕ → List ℕ
one five sleep name serial =
    (0x54 ∷ 0x41 ∷ 0x01 ∷ 0x01 ∷ 0x00 ∷ 0x10 ∷ 0x00 ∷ 0x38 ∷ []) ++ five ++ (0x00 ∷ 0x00 ∷ 0x00 ∷
    0x00 ∷ 0x14 ∷ 0x02 ∷ sleep ∷
    0x08 ∷ 0x03 ∷ 0x00 ∷ 0x1C ∷ 0x3D ∷ 0x02 ∷ 0x00 ∷ 0x2C ∷ []) ++ records name serial

abbrev pub one_wide : List ℕ → ℕ → ℕ → ℕ → List ℕ
one_wide five sleep name serial =
    (0x54 ∷ 0x41 ∷ 0x02 ∷ 0x01 ∷ 0x00 ∷ 0x00 ∷ 0x00 ∷ 0x18 ∷ 0x00 ∷ 0x00 ∷ 0x00 ∷ 0x4C ∷ []) ++ five ++
    (0x00 ∷ 0x00 ∷ 0x00 ∷ 0x00 ∷ 0x00 ∷ 0x00 ∷ 0x00 ∷
    0x00 ∷ 0x00 ∷ 0x00 ∷ 0x20 ∷ 0x02 ∷ sleep ∷ 0x00 ∷ 0x00 ∷
    0x08 ∷ 0x03 ∷ 0x00 ∷ 0x00 ∷ 0x00 ∷ 0x00 ∷ 0x00 ∷ 0x30 ∷ 0x3D ∷ 0x02 ∷ 0x00 ∷ 0x00 ∷ 0x00 ∷ 0x00 ∷ 0x00 ∷ 0x40 ∷ []) ++ records name serial

-- two slaves that are awake, with nothing pending, by their logical names and serial numbers: 96 bytes, and 128 bytes
abbrev pub two : ℕ → ℕ → ℕ → ℕ → List ℕ
two name serial name' serial' =
    (0x54 ∷ 0x41 ∷ 0x01 ∷ 0x02 ∷ 0x00 ∷ 0x10 ∷ 0x00 ∷ 0x60 ∷ []) ++ nothing ++ (0x00 ∷ 0x00 ∷ 0x00 ∷
    0x00 ∷ 0x18 ∷ 0x02 ∷ 0x00 ∷ 0x00 ∷ 0x3C ∷ 0x02 ∷ 0x00 ∷
    0x08 ∷ 0x03 ∷ 0x00 ∷ 0x20 ∷ 0x3D ∷ 0x02 ∷ 0x00 ∷ 0x30 ∷ []) ++ records name serial ++
    (0x08 ∷ 0x03 ∷ 0x00 ∷ 0x44 ∷ 0x3D ∷ 0x02 ∷ 0x00 ∷ 0x54 ∷ []) ++ records name' serial'

abbrev pub two_wide : ℕ → ℕ → ℕ → ℕ → List ℕ
two_wide name serial name' serial' =
    (0x54 ∷ 0x41 ∷ 0x02 ∷ 0x02 ∷ 0x00 ∷ 0x00 ∷ 0x00 ∷ 0x18 ∷ 0x00 ∷ 0x00 ∷ 0x00 ∷ 0x80 ∷ []) ++ nothing ++
    (0x00 ∷ 0x00 ∷ 0x00 ∷ 0x00 ∷ 0x00 ∷ 0x00 ∷ 0x00 ∷
    0x00 ∷ 0x00 ∷ 0x00 ∷ 0x28 ∷ 0x02 ∷ 0x00 ∷ 0x00 ∷ 0x00 ∷ 0x00 ∷ 0x00 ∷ 0x00 ∷ 0x54 ∷ 0x02 ∷ 0x00 ∷ 0x00 ∷ 0x00 ∷
    0x08 ∷ 0x03 ∷ 0x00 ∷ 0x00 ∷ 0x00 ∷ 0x00 ∷ 0x00 ∷ 0x38 ∷ 0x3D ∷ 0x02 ∷ 0x00 ∷ 0x00 ∷ 0x00 ∷ 0x00 ∷ 0x00 ∷ 0x48 ∷ []) ++ records name serial ++
    (0x08 ∷ 0x03 ∷ 0x00 ∷ 0x00 ∷ 0x00 ∷ 0x00 ∷ 0x00 ∷ 0x64 ∷ 0x3D ∷ 0x02 ∷ 0x00 ∷ 0x00 ∷ 0x00 ∷ 0x00 ∷ 0x00 ∷ 0x74 ∷ []) ++ records name' serial'

-- no slave, in edition 1
abbrev pub empty : List ℕ → List ℕ
empty five = (0x54 ∷ 0x41 ∷ 0x01 ∷ 0x00 ∷ 0x00 ∷ 0x10 ∷ 0x00 ∷ 0x10 ∷ []) ++ five ++ (0x00 ∷ 0x00 ∷ 0x00 ∷ [])

-- refused by 2, and by 3
abbrev pub other_mark : List ℕ
other_mark = 0x54 ∷ 0x42 ∷ 0x01 ∷ replicate 20 0

abbrev pub other_edition : List ℕ
other_edition = 0x54 ∷ 0x41 ∷ 0x03 ∷ replicate 20 0

abbrev pub room : ℕ → List ℕ
room n = replicate n 0xEE

-- ---- joined

pub record Joins : Type 0 where
  -- a name that the first does not hold is kept; the sleepers of both are awake, and nothing is pending; what lies behind stays
  pub kept : join_on (one pending 1 0x04 0x10) (one pending 1 0x05 0x11) (room 98) ≡ (done 96, two 0x04 0x10 0x05 0x11 ++ (0xEE ∷ 0xEE ∷ []))
  -- a name that the first holds becomes 0xFF, 0x00 too; 0xFF stays
  pub held : join_on (one pending 0 0x04 0x10) (one nothing 1 0x04 0x11) (room 96) ≡ (done 96, two 0x04 0x10 0xFF 0x11)
  pub broadcasts : join_on (one nothing 0 0x00 0x10) (one nothing 0 0x00 0x11) (room 96) ≡ (done 96, two 0x00 0x10 0xFF 0x11)
  pub unnamed_both : join_on (one nothing 0 0xFF 0x10) (one nothing 0 0xFF 0x11) (room 96) ≡ (done 96, two 0xFF 0x10 0xFF 0x11)
  pub unnamed_first : join_on (one nothing 0 0xFF 0x10) (one nothing 0 0x04 0x11) (room 96) ≡ (done 96, two 0xFF 0x10 0x04 0x11)
  pub unnamed_second : join_on (one nothing 0 0x04 0x10) (one nothing 0 0xFF 0x11) (room 96) ≡ (done 96, two 0x04 0x10 0xFF 0x11)
  -- names are compared by all eight bits, and each with those of all places
  pub nearly : join_on (one nothing 0 0x04 0x10) (one nothing 0 0x84 0x11) (room 96) ≡ (done 96, two 0x04 0x10 0x84 0x11)
  pub crossed : logical_names (decode (joined_file (two 0x04 0x10 0x05 0x11) (two 0x05 0x12 0x04 0x13))) ≡ 0x04 ∷ 0x05 ∷ 0xFF ∷ 0xFF ∷ []
  -- bytes that stand where no operation is pending
  pub free_bytes : join_on (one free 0 0x04 0x10) (one free 0 0x05 0x11) (room 96) ≡ (done 96, two 0x04 0x10 0x05 0x11)
  -- equal names of the second are both turned where the first holds that name, and both kept where it does not; those of the first stay
  pub both_turned : logical_names (decode (joined_file (one nothing 0 0x04 0x10) (two 0x04 0x11 0x04 0x12))) ≡ 0x04 ∷ 0xFF ∷ 0xFF ∷ []
  pub both_kept : logical_names (decode (joined_file (one nothing 0 0x04 0x10) (two 0x05 0x11 0x05 0x12))) ≡ 0x04 ∷ 0x05 ∷ 0x05 ∷ []
  pub first_kept : logical_names (decode (joined_file (two 0x05 0x11 0x05 0x12) (one nothing 0 0x05 0x10))) ≡ 0x05 ∷ 0x05 ∷ 0xFF ∷ []
  -- the edition of the first
  pub wide_first : join_on (one_wide pending 1 0x04 0x10) (one nothing 0 0x05 0x11) (room 128) ≡ (done 128, two_wide 0x04 0x10 0x05 0x11)
  pub wide_second : join_on (one pending 1 0x04 0x10) (one_wide pending 0 0x04 0x11) (room 96) ≡ (done 96, two 0x04 0x10 0xFF 0x11)
  pub wide_both : join_on (one_wide nothing 0 0x04 0x10) (one_wide nothing 0 0x05 0x11) (room 128) ≡ (done 128, two_wide 0x04 0x10 0x05 0x11)
  -- either file empty, and both
  pub empty_first : join_on (empty nothing) (one pending 1 0x04 0x10) (room 56) ≡ (done 56, one nothing 0 0x04 0x10)
  pub empty_narrow : join_on (empty nothing) (one_wide pending 1 0x04 0x10) (room 56) ≡ (done 56, one nothing 0 0x04 0x10)
  pub empty_second : join_on (one pending 1 0x04 0x10) (empty nothing) (room 56) ≡ (done 56, one nothing 0 0x04 0x10)
  pub empty_both : join_on (empty pending) (empty pending) (room 16) ≡ (done 16, empty nothing)

-- ---- refused

pub record Refusals : Type 0 where
  -- 29, also where the buffer is too short; 30 by the buffer
  pub same_name : join_on (one nothing 0 0x04 0x10) (one nothing 0 0x05 0x10) (room 96) ≡ (refused 29, room 96)
  -- also of sleepers of one logical name, at other places, and in files of two editions
  pub asleep : join_ground (one nothing 1 0x04 0x10) (one nothing 1 0x04 0x10) (room 96) ≡ 29
  pub elsewhere : join_ground (two 0x04 0x10 0x05 0x11) (two 0x06 0x12 0x07 0x10) (room 176) ≡ 29
  pub across_editions : join_ground (one nothing 0 0x04 0x10) (one_wide nothing 0 0x05 0x10) (room 96) ≡ 29
  -- and of no others: another series (byte 51 of `one`) with the same serial number, so with the same remainder, or with another
  pub other_series : join_ground (one nothing 0 0x04 0x10) (set (one nothing 0 0x05 0x10) 51 0x08) (room 96) ≡ 0
  pub other_remainder : join_ground (one nothing 0 0x04 0x10) (set (one nothing 0 0x05 0x0F) 51 0x08) (room 96) ≡ 0
  pub names_first : join_ground (one nothing 0 0x04 0x10) (one nothing 0 0x05 0x10) [] ≡ 29
  pub too_short : join_on (one nothing 0 0x04 0x10) (one nothing 0 0x05 0x11) (room 95) ≡ (refused 30, room 95)
  pub too_short_wide : join_ground (one_wide nothing 0 0x04 0x10) (one nothing 0 0x05 0x11) (room 127) ≡ 30
  -- the first file's ground before the second's, and these before 29 and 30
  pub first_before : join_ground other_mark [] [] ≡ 2
  pub second_then : join_ground (one nothing 0 0x04 0x10) other_mark [] ≡ 2
  pub unknown_first : join_ground other_edition other_mark [] ≡ 3
  pub unknown_second : join_ground (one nothing 0 0x04 0x10) other_edition [] ≡ 3

-- ---- on loading

-- a join of two files that load is one that loads; where the second does not, the name that it holds twice may be turned
pub record Loading : Type 0 where
  pub loads : load_ground (two 0x04 0x10 0xFF 0x11) ≡ 0
  pub second_refused : load_ground (two 0x04 0x11 0x04 0x12) ≡ 22
  pub turned_loads : load_ground (joined_file (one nothing 0 0x04 0x10) (two 0x04 0x11 0x04 0x12)) ≡ 0
  pub kept_refused : load_ground (joined_file (one nothing 0 0x04 0x10) (two 0x05 0x11 0x05 0x12)) ≡ 22

-- `unfolding joins` below unfolds what stands here
unfoldable pub joins : Joins
unfolding convert_examples join_on join_ground join_grounds joined_file joined slaves_joined turned awake any_among shares_name put_in_slave put_among with_sleep
    logical_names logical_name no_operation broadcast_read
joins =
    record {
      kept = refl;
      held = refl;
      broadcasts = refl;
      unnamed_both = refl;
      unnamed_first = refl;
      unnamed_second = refl;
      nearly = refl;
      crossed = refl;
      free_bytes = refl;
      both_turned = refl;
      both_kept = refl;
      first_kept = refl;
      wide_first = refl;
      wide_second = refl;
      wide_both = refl;
      empty_first = refl;
      empty_narrow = refl;
      empty_second = refl;
      empty_both = refl;
    }

pub refusals : Refusals
unfolding joins
refusals =
    record {
      same_name = refl;
      asleep = refl;
      elsewhere = refl;
      across_editions = refl;
      other_series = refl;
      other_remainder = refl;
      names_first = refl;
      too_short = refl;
      too_short_wide = refl;
      first_before = refl;
      second_then = refl;
      unknown_first = refl;
      unknown_second = refl;
    }

unfoldable pub loading : Loading
unfolding joins held_names equal_logical_names load_ground
loading = record { loads = refl; second_refused = refl; turned_loads = refl; kept_refused = refl }
