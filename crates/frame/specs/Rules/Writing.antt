-- What the two frame writers answer, and what they leave in the buffer.
use Rattle.std.specs.Prelude.{ℕ, List, [], ◌∷◌, ◌++◌, cond, drop, eqb}
use Rattle.file.specs.Rules.Order.{first_of}
use Rattle.file.specs.Rules.Results.{Result, result_of}
use Rattle.frame.specs.Rules.Frames.{frame_size, address_frame, data_frame}
use Rattle.frame.specs.Rules.FrameGrounds.{short_frame_buffer, no_operation, broadcast_read, no_file_number}

-- "A refusal returns its number and alters nothing lent"; "Past the bytes a call writes, a buffer keeps its content."
unfoldable pub write_frame : ℕ → List ℕ → List ℕ → Result (Unit {0}) × List ℕ
write_frame reason frame buffer = (result_of reason tt, cond (eqb reason 0) (frame ++ drop frame_size buffer) buffer)

-- "Checked in this order"
unfoldable pub write_ground : List ℕ → ℕ → ℕ → ℕ → ℕ
write_ground buffer name file operation =
    first_of ((9, short_frame_buffer buffer) ∷ (13, no_operation operation) ∷ (14, broadcast_read operation name) ∷
    (18, no_file_number file) ∷ [])

unfoldable pub write_address : List ℕ → ℕ → ℕ → ℕ → ℕ → ℕ → Result (Unit {0}) × List ℕ
write_address buffer epoch name file operation «record» =
    write_frame (write_ground buffer name file operation) (address_frame epoch name file operation «record») buffer

unfoldable pub data_ground : List ℕ → ℕ
data_ground buffer = first_of ((9, short_frame_buffer buffer) ∷ [])

unfoldable pub write_data : List ℕ → List ℕ → Result (Unit {0}) × List ℕ
write_data buffer bytes = write_frame (data_ground buffer) (data_frame bytes) buffer
