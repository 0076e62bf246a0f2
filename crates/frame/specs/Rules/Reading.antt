-- What the address-frame reader answers to a frame.
use Rattle.std.specs.Prelude.{ℕ, List, [], ◌∷◌, get_or}
use Rattle.file.specs.Rules.Order.{first_of}
use Rattle.file.specs.Rules.Results.{Result, result_of}
use Rattle.file.specs.Rules.Cluster.{file_number_of, operation_of}
use Rattle.frame.specs.Rules.Check.{address_check}
use Rattle.frame.specs.Rules.Frames.{frame_size}
use Rattle.frame.specs.Rules.FrameGrounds.{no_address, wrong_frame_length, wrong_check, no_operation, broadcast_read}

-- what an address frame says
-- "A file number, a record number and a logical name are never taken for one another.": each by its name here, by its own type in code
pub record Parts : Type 0 where
  pub epoch : ℕ
  pub name : ℕ
  pub file : ℕ
  pub operation : ℕ
  pub «record» : ℕ

abbrev pub parts : ℕ → ℕ → ℕ → ℕ → ℕ → Parts
parts epoch name file operation «record» =
    record { epoch = epoch; name = name; file = file; operation = operation; «record» = «record» }

-- "Checked in this order"
unfoldable pub read_ground : List ℕ → ℕ
read_ground frame =
    let name = get_or frame 2 0 in let operation = operation_of (get_or frame 3 0) in
    first_of ((10, no_address frame) ∷ (11, wrong_frame_length frame_size frame) ∷ (12, wrong_check address_check frame) ∷
    (13, no_operation operation) ∷ (14, broadcast_read operation name) ∷ [])

-- "0x55, PB0 epoch, PB1 logical name, PB2, PB3 record number, check"
unfoldable pub parts_of : List ℕ → Parts
parts_of frame =
    let pb2 = get_or frame 3 0 in parts (get_or frame 1 0) (get_or frame 2 0) (file_number_of pb2) (operation_of pb2) (get_or frame 4 0)

unfoldable pub read_address : List ℕ → Result Parts
read_address frame = result_of (read_ground frame) (parts_of frame)
