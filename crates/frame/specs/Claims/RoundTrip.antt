-- Reader and writer of address frames undo one another (document 01, preamble: "a reader and writer of address frames"; the frame they
-- share: "MSA is 6 bytes: 0x55, PB0 epoch, PB1 logical name, PB2, PB3 record number, check.").
use Rattle.std.specs.Prelude.{ℕ, ◌≤◌, ◌≡◌, List, ◌++◌, length, take, drop}
use Rattle.file.specs.Rules.Bytes.{Bytes}
use Rattle.file.specs.Rules.Results.{done}
use Rattle.frame.specs.Rules.Frames.{frame_size}
use Rattle.frame.specs.Rules.Reading.{parts, read_address}
use Rattle.frame.specs.Rules.Writing.{write_address}

-- what the writer writes, the reader reads as the same parts
abbrev pub WrittenReads : Type 0
WrittenReads =
    (buffer : List ℕ) (epoch name file operation «record» : ℕ) →
    (write_address buffer epoch name file operation «record»).0 ≡ done tt →
    read_address (take frame_size (write_address buffer epoch name file operation «record»).1) ≡ done (parts epoch name file operation «record»)

-- what the reader accepts, the writer writes again byte for byte, and past it keeps the buffer
abbrev pub ReadWrites : Type 0
ReadWrites =
    (frame buffer : List ℕ) (epoch name file operation «record» : ℕ) → Bytes frame →
    read_address frame ≡ done (parts epoch name file operation «record») → frame_size ≤ length buffer →
    write_address buffer epoch name file operation «record» ≡ (done tt, frame ++ drop frame_size buffer)
