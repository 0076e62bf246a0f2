-- Masks of slots: bit s stands for slot s.
use Rattle.std.specs.Prelude.{ℕ, ◌/◌, ◌%◌, ◌^◌, ◌<◌, ◌≡◌, Bool, true, false, eqb, leb, ltb}
use Rattle.file.specs.Rules.Order.{both}
use Rattle.master_slave.specs.Rules.Bus.{slots}

unfoldable pub is_set : ℕ → ℕ → Bool
is_set mask slot = eqb (mask / 2 ^ slot % 2) 1

-- the mask has the slots that pass a test
pub record Marks (mask : ℕ) (test : ℕ → Bool) : Type 0 where
  pub each : (slot : ℕ) → slot < slots → is_set mask slot ≡ test slot

unfoldable pub between : ℕ → ℕ → ℕ → Bool
between first end slot = both (leb first slot) (ltb slot end)

-- the most slots that an entry covers
abbrev pub longest_entry : ℕ
longest_entry = 16

-- the last slot of a mask, 0 where it has none
pub record LastIs (mask last : ℕ) : Type 0 where
  pub few : last < slots
  pub here : 0 < last → is_set mask last ≡ true
  pub above : (slot : ℕ) → last < slot → slot < slots → is_set mask slot ≡ false
