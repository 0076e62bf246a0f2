-- The class of a nine-bit pattern of the line as ttpa_pattern tells it (document 02, job 14): TTPA_DATA_BYTE is 0, TTPA_FIREWORK 1 and
-- TTPA_BROKEN 2, whatever the byte held before. (`line/specs/Claims` has the same over the rule's own answers.)
use Rattle.std.specs.Prelude.{ℕ, ◌%◌, ◌≤◌, ◌<◌, ◌≡◌, ◌↔◌, ◌≢◌, ◌⊎◌, true}
use Rattle.std.specs.Int.Bits.{bit_xor}
use Rattle.file.specs.Rules.FileGrounds.{is_among}
use Rattle.frame.specs.Rules.Fireworks.{no_round, round_of}
use Rattle.line.specs.Claims.Classes.{all_ones, the_eight}
use Rattle.line.specs.Claims.Parity.{pattern_by, even_parity, odd_parity, OfRound}
use Rattle.line.specs.Claims.Flips.{differing}
use Rattle.ttpa.specs.Rules.Calls.{pattern_call}

-- "data byte (even count of ones), a firework (odd count and in the list), or broken"
pub record ToldByBits (pattern kind : ℕ) : Type 0 where
  pub even : (pattern_call pattern kind ≡ (0, 0)) ↔ (all_ones pattern % 2 ≡ 0)
  pub listed : (pattern_call pattern kind ≡ (0, 1)) ↔ ((all_ones pattern % 2 ≡ 1) × (round_of (pattern % 256) ≢ no_round))
  pub other : (pattern_call pattern kind ≡ (0, 2)) ↔ ((all_ones pattern % 2 ≡ 1) × (round_of (pattern % 256) ≡ no_round))

-- "Each of the 512 patterns has an entry", and one of these three; eight are fireworks
pub record PatternsTold : Type 0 where
  pub bits : (pattern kind : ℕ) → pattern < 512 → ToldByBits pattern kind
  pub one :
      (pattern kind : ℕ) → pattern < 512 →
      (pattern_call pattern kind ≡ (0, 0)) ⊎ ((pattern_call pattern kind ≡ (0, 1)) ⊎ (pattern_call pattern kind ≡ (0, 2)))
  pub eight : (pattern kind : ℕ) → (pattern_call pattern kind ≡ (0, 1)) ↔ (is_among pattern the_eight ≡ true)
  pub above : (pattern kind : ℕ) → ((pattern_call pattern kind).0 ≡ 31) ↔ (511 < pattern)

-- a byte with the parity bit that goes with it
pub record ParityTold : Type 0 where
  pub even : (byte kind : ℕ) → byte < 256 → pattern_call (pattern_by byte (even_parity byte)) kind ≡ (0, 0)
  pub opens : (byte kind : ℕ) → byte < 256 → round_of byte ≢ no_round → pattern_call (pattern_by byte (odd_parity byte)) kind ≡ (0, 1)
  pub opens_none : (byte kind : ℕ) → byte < 256 → round_of byte ≡ no_round → pattern_call (pattern_by byte (odd_parity byte)) kind ≡ (0, 2)
  pub of_round : (pattern kind : ℕ) → pattern_call pattern kind ≡ (0, 1) → OfRound pattern

-- "No firework pattern with one to three of its nine bits flipped is read as a firework."
abbrev pub FlippedIsNotTold : Type 0
FlippedIsNotTold =
    (pattern flips kind again : ℕ) → pattern_call pattern kind ≡ (0, 1) → flips < 512 → 1 ≤ all_ones flips → all_ones flips ≤ 3 →
    pattern_call (bit_xor pattern flips) again ≢ (0, 1)

-- the same with the bits alone
abbrev pub ToldFireworksApart : Type 0
ToldFireworksApart =
    (p q kind again : ℕ) → pattern_call p kind ≡ (0, 1) → pattern_call q again ≡ (0, 1) → p ≢ q → 4 ≤ differing p q
