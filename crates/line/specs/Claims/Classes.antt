-- The class of every pattern, by its bits and by the rounds that bytes open (document 02, job 14).
use Rattle.std.specs.Prelude.{ℕ, ◌+◌, ◌/◌, ◌%◌, ◌^◌, ◌<◌, ◌≡◌, ◌↔◌, ◌≢◌, ◌⊎◌, List, [], ◌∷◌, true}
use Rattle.file.specs.Rules.Results.{refused, done}
use Rattle.file.specs.Rules.FileGrounds.{is_among}
use Rattle.frame.specs.Rules.Fireworks.{no_round, round_of}
use Rattle.line.specs.Rules.Patterns.{data_byte, firework, broken, pattern_on}

-- bit i of a pattern, 0 or 1: "the byte in bits 7 to 0 and the parity bit in bit 8"
abbrev pub bit : ℕ → ℕ → ℕ
bit pattern i = pattern / 2 ^ i % 2

-- how many of bits 7 to 0, and of all nine, are 1
abbrev pub byte_ones : ℕ → ℕ
byte_ones pattern =
    bit pattern 0 + bit pattern 1 + bit pattern 2 + bit pattern 3 + bit pattern 4 + bit pattern 5 + bit pattern 6 + bit pattern 7

abbrev pub all_ones : ℕ → ℕ
all_ones pattern = byte_ones pattern + bit pattern 8

-- "data byte (even count of ones), a firework (odd count and in the list), or broken"; in the list is a byte that opens a round
pub record ByBits (pattern : ℕ) : Type 0 where
  pub even : (pattern_on pattern ≡ done data_byte) ↔ (all_ones pattern % 2 ≡ 0)
  pub listed : (pattern_on pattern ≡ done firework) ↔ ((all_ones pattern % 2 ≡ 1) × (round_of (pattern % 256) ≢ no_round))
  pub other : (pattern_on pattern ≡ done broken) ↔ ((all_ones pattern % 2 ≡ 1) × (round_of (pattern % 256) ≡ no_round))

abbrev pub ClassesByBits : Type 0
ClassesByBits = (pattern : ℕ) → pattern < 512 → ByBits pattern

-- the fireworks are eight: each byte of document 01's list, written out, with its odd parity
abbrev pub the_eight : List ℕ
the_eight = 0x178 ∷ 0x049 ∷ 0x0BA ∷ 0x18B ∷ 0x064 ∷ 0x155 ∷ 0x1A6 ∷ 0x097 ∷ []

abbrev pub TheEight : Type 0
TheEight = (pattern : ℕ) → (pattern_on pattern ≡ done firework) ↔ (is_among pattern the_eight ≡ true)

-- "Each of the 512 patterns has an entry": one of the three, and no two of them
pub record OneOfThree : Type 0 where
  pub one :
      (pattern : ℕ) → pattern < 512 →
      (pattern_on pattern ≡ done data_byte) ⊎ ((pattern_on pattern ≡ done firework) ⊎ (pattern_on pattern ≡ done broken))
  pub data_or_firework : (pattern : ℕ) → pattern_on pattern ≡ done data_byte → pattern_on pattern ≢ done firework
  pub data_or_broken : (pattern : ℕ) → pattern_on pattern ≡ done data_byte → pattern_on pattern ≢ done broken
  pub firework_or_broken : (pattern : ℕ) → pattern_on pattern ≡ done firework → pattern_on pattern ≢ done broken

-- "31, a pattern above 511": exactly such a one is refused, and by this number alone
pub record AboveIsRefused : Type 0 where
  pub above : (pattern : ℕ) → (pattern_on pattern ≡ refused 31) ↔ (511 < pattern)
  pub only : (pattern n : ℕ) → pattern_on pattern ≡ refused n → n ≡ 31
