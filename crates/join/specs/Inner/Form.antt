-- The parts of a joined file, over the slaves of both files in order.
use Rattle.std.specs.Prelude.{ℕ, ◌+◌, ◌≤◌, ◌≡◌, List, ◌++◌, false, length, replicate}
use Rattle.file.specs.Rules.Bytes.{Byte}
use Rattle.file.specs.Rules.Layout.{OffsetWidth, header_size, zeros_length, max_slaves, max_length}
use Rattle.file.specs.Rules.Cluster.{Slave}
use Rattle.file.specs.Rules.Encode.{table, slaves_bytes, slaves_place, file_length}
use Rattle.convert.specs.Inner.Putting.{OffsetFits, header_front}
use Rattle.convert.specs.Inner.Slaves.{listed}

-- a header of so many slaves and so many bytes, its five fields and its zeros 0
unfoldable pub joined_header : ℕ → ℕ → ℕ → List ℕ
joined_header w count size = header_front w count size ++ replicate (5 + zeros_length w) 0

-- the table of slaves that are all awake, the slaves, and both
unfoldable pub joined_table : ℕ → List Slave → List ℕ
joined_table w ss = table w (slaves_place w ss) (listed false ss)

unfoldable pub joined_slaves : ℕ → List Slave → List ℕ
joined_slaves w ss = slaves_bytes w (slaves_place w ss) ss

unfoldable pub joined_body : ℕ → List Slave → List ℕ
joined_body w ss = joined_table w ss ++ joined_slaves w ss

-- a list has room for such a header, and it can state them
pub record HeaderFits (w : ℕ) (out : List ℕ) (count size : ℕ) : Type 0 where
  pub offset : OffsetFits w size
  pub byte : Byte count
  pub room : header_size w ≤ length out

-- a list has room for the form of the two lists of slaves at a width, which is within the edition's limits; the first list's form alone has
-- so many bytes
pub record JoinFits (w : ℕ) (out : List ℕ) (alone : ℕ) (ss ts : List Slave) : Type 0 where
  pub width : OffsetWidth w
  pub first : alone ≡ file_length w ss
  pub room : file_length w (ss ++ ts) ≤ length out
  pub short : file_length w (ss ++ ts) ≤ max_length w
  pub few : length (ss ++ ts) ≤ max_slaves w

-- the same, and the form of both has so many bytes
pub record JoinedFits (w : ℕ) (out : List ℕ) (alone size : ℕ) (ss ts : List Slave) : Type 0 where
  pub fits : JoinFits w out alone ss ts
  pub whole : size ≡ file_length w (ss ++ ts)
