-- The sender mask of an accepted round (document 01, "What slaves do": "The answer holds a 64-bit number whose bit s is set exactly when
-- someone sent in slot s").
use Rattle.std.specs.Prelude.{ℕ, ◌/◌, ◌%◌, ◌^◌, ◌<◌, ◌≡◌, ◌≢◌, ◌↔◌, List, []}
use Rattle.file.specs.Rules.Results.{done}
use Rattle.file.specs.Rules.Decode.{decode}
use Rattle.master_slave.specs.Rules.Bus.{slots}
use Rattle.cluster.specs.Rules.Round.{frame_on, round_on}

-- "a 64-bit number whose bit s is set exactly when someone sent in slot s"
pub record MaskOf (file frame : List ℕ) (mask : ℕ) : Type 0 where
  pub size : mask < 2 ^ slots
  pub bits : (s : ℕ) → s < slots → (mask / 2 ^ s % 2 ≡ 1) ↔ ((frame_on (decode file) frame).senders s ≢ [])

abbrev pub BitsAreSenders : Type 0
BitsAreSenders = (file frame buffer : List ℕ) (mask : ℕ) → (round_on file frame buffer).0 ≡ done mask → MaskOf file frame mask

-- "Only slaves count as senders; bit 0 is never set.": of the mask of every accepted round
abbrev pub BitZeroNeverSet : Type 0
BitZeroNeverSet = (file frame buffer : List ℕ) (mask : ℕ) → (round_on file frame buffer).0 ≡ done mask → mask % 2 ≡ 0
