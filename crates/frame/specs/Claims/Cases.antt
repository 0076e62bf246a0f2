-- The cases M1 to M5 of document 01, "Fireworks and frames", with the last bytes of request 1: "Cases M1 to M4 get new last bytes and
-- M5 ends 8E".
use Rattle.std.specs.Prelude.{ℕ, ◌≡◌, List, [], ◌∷◌, replicate}
use Rattle.file.specs.Rules.Cluster.{read_operation, write_operation, execute_operation}
use Rattle.file.specs.Rules.Results.{refused, done}
use Rattle.frame.specs.Rules.Frames.{frame_size}
use Rattle.frame.specs.Rules.Reading.{parts, read_address}
use Rattle.frame.specs.Rules.Writing.{write_address, write_data}

-- a buffer of a frame's size
abbrev pub six_zeros : List ℕ
six_zeros = replicate frame_size 0

-- a frame that the reader reads as these parts and the writer writes for them
pub record ReadAndWritten (frame : List ℕ) (epoch name file operation «record» : ℕ) : Type 0 where
  pub reads : read_address frame ≡ done (parts epoch name file operation «record»)
  pub writes : write_address six_zeros epoch name file operation «record» ≡ (done tt, frame)

pub record FrameCases : Type 0 where
  -- "M1: execute 0x08 record 2 at 0xFF, epoch 5: 55 05 FF 22 02 DA.": by request 1 it ends 8F
  pub m1 : ReadAndWritten (0x55 ∷ 0x05 ∷ 0xFF ∷ 0x22 ∷ 0x02 ∷ 0x8F ∷ []) 5 0xFF 0x08 execute_operation 2
  -- "M2: write 0x08 record 1 at 0xFF, epoch 0: 55 00 FF 21 01 DF.": by request 1 it ends 8A
  pub m2 : ReadAndWritten (0x55 ∷ 0x00 ∷ 0xFF ∷ 0x21 ∷ 0x01 ∷ 0x8A ∷ []) 0 0xFF 0x08 write_operation 1
  -- "M3: its data for name 1: 49 00 00 01 FF FE.": by request 1 it ends B7
  pub m3 : write_data six_zeros (0x00 ∷ 0x00 ∷ 0x01 ∷ 0xFF ∷ []) ≡ (done tt, 0x49 ∷ 0x00 ∷ 0x00 ∷ 0x01 ∷ 0xFF ∷ 0xB7 ∷ [])
  -- "M4: read 0x3D record 1 at 1, epoch 2: 55 02 01 F4 01 F6.": by request 1 it ends A3
  pub m4 : ReadAndWritten (0x55 ∷ 0x02 ∷ 0x01 ∷ 0xF4 ∷ 0x01 ∷ 0xA3 ∷ []) 2 1 0x3D read_operation 1
  -- "M5: M1 ending DB is refused, 12.": by request 1 it ends 8E
  pub m5 : read_address (0x55 ∷ 0x05 ∷ 0xFF ∷ 0x22 ∷ 0x02 ∷ 0x8E ∷ []) ≡ refused 12
