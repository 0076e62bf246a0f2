-- Bytes and numbers that a function read at a place of a list.
use Rattle.std.specs.Prelude.{ℕ, ◌^◌, ◌<◌, ◌≡◌, List, get_or}
use Rattle.file.specs.Rules.Bytes.{Byte, number_of, part}

-- b is the byte at a place of the list
pub record ByteAt (l : List ℕ) (at b : ℕ) : Type 0 where
  pub is : b ≡ get_or l at 0
  pub byte : Byte b

-- n is the number in the w bytes at a place of the list
pub record NumberAt (l : List ℕ) (at w n : ℕ) : Type 0 where
  pub is : n ≡ number_of (part l at w)
  pub below : n < 256 ^ w
