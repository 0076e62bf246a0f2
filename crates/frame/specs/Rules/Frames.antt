-- The two frames of six bytes (document 01, "Fireworks and frames", second paragraph).
use Rattle.std.specs.Prelude.{ℕ, List, [], ◌∷◌, ◌++◌, get_or}
use Rattle.file.specs.Rules.Cluster.{pb2_of}
use Rattle.frame.specs.Rules.Fireworks.{address_firework, data_firework}
use Rattle.frame.specs.Rules.Check.{address_check, data_check}

-- "MSA is 6 bytes", "MSD is 6 bytes"
abbrev pub frame_size : ℕ
frame_size = 6

-- firework, four bytes, check
unfoldable pub frame_of : ℕ → List ℕ → ℕ → List ℕ
frame_of firework bytes check = firework ∷ (bytes ++ (check ∷ []))

-- the "four bytes between firework and check": PB0 to PB3 are bytes 1 to 4, the check is byte 5
abbrev pub between : List ℕ → List ℕ
between frame = get_or frame 1 0 ∷ get_or frame 2 0 ∷ get_or frame 3 0 ∷ get_or frame 4 0 ∷ []

-- "PB0 epoch, PB1 logical name, PB2, PB3 record number"
unfoldable pub address_bytes : ℕ → ℕ → ℕ → ℕ → ℕ → List ℕ
address_bytes epoch name file operation «record» = epoch ∷ name ∷ pb2_of file operation ∷ «record» ∷ []

-- "MSA is 6 bytes: 0x55, PB0 epoch, PB1 logical name, PB2, PB3 record number, check."
unfoldable pub address_frame : ℕ → ℕ → ℕ → ℕ → ℕ → List ℕ
address_frame epoch name file operation «record» =
    let bytes = address_bytes epoch name file operation «record» in frame_of address_firework bytes (address_check bytes)

-- "MSD is 6 bytes (0x49, four data bytes, check)"
unfoldable pub data_frame : List ℕ → List ℕ
data_frame bytes = frame_of data_firework bytes (data_check bytes)
