-- The grounds that a frame or the arguments of a frame writer can have (document 01, "Grounds for turning something away").
use Rattle.std.specs.Prelude.{ℕ, List, Bool, not, length, get_or, eqb, ltb}
use Rattle.file.specs.Rules.Order.{either}
use Rattle.frame.specs.Rules.Fireworks.{address_firework}
use Rattle.frame.specs.Rules.Frames.{frame_size, between}
-- 13. "An address frame, read or to be written, has operation 3, or above 3 when handed to the writer.": `no_operation`.
-- 14. "A read, received or to be written, is addressed to 0x00.": `broadcast_read`. A file's pending operation is judged by both too.
unfoldable pub use Rattle.file.specs.Rules.Cluster.{no_operation, broadcast_read}

-- 9. "The answer buffer is shorter .. than 6 for the frame writer."
unfoldable pub short_frame_buffer : List ℕ → Bool
short_frame_buffer buffer = ltb (length buffer) frame_size

-- 10. "The frame is empty or its first byte is .. for the address-frame reader not 0x55."
unfoldable pub no_address : List ℕ → Bool
no_address frame = either (eqb (length frame) 0) (not (eqb (get_or frame 0 0) address_firework))

-- 11. "The frame's length does not fit its firework.": it is not the given one
unfoldable pub wrong_frame_length : ℕ → List ℕ → Bool
wrong_frame_length size frame = not (eqb (length frame) size)

-- 12. "The check byte is wrong.", by the given check, that of an MSA or of an MSD's data
unfoldable pub wrong_check : (List ℕ → ℕ) → List ℕ → Bool
wrong_check check frame = not (eqb (get_or frame 5 0) (check (between frame)))

-- 18. "A file number handed to the writer is above 63."
unfoldable pub no_file_number : ℕ → Bool
no_file_number file = ltb 63 file
