-- Patterns made of a byte and of the parity bit that goes with it (document 02, job 14).
use Rattle.std.specs.Prelude.{ℕ, ◌+◌, ◌*◌, ◌%◌, ◌<◌, ◌≡◌, ◌≢◌}
use Rattle.file.specs.Rules.Results.{done}
use Rattle.frame.specs.Rules.Fireworks.{no_round, round_of}
use Rattle.line.specs.Rules.Patterns.{data_byte, firework, broken, pattern_on}
use Rattle.line.specs.Claims.Classes.{byte_ones}

-- "the byte in bits 7 to 0 and the parity bit in bit 8"
abbrev pub pattern_by : ℕ → ℕ → ℕ
pattern_by byte parity = byte + 256 * parity

-- the parity bit that makes the count of ones even, and the one that makes it odd
abbrev pub even_parity : ℕ → ℕ
even_parity byte = byte_ones byte % 2

abbrev pub odd_parity : ℕ → ℕ
odd_parity byte = (byte_ones byte + 1) % 2

-- each byte value with its even parity is data, also that of a firework
abbrev pub EvenIsData : Type 0
EvenIsData = (byte : ℕ) → byte < 256 → pattern_on (pattern_by byte (even_parity byte)) ≡ done data_byte

-- with its odd parity it is a firework where it opens a round, else broken
pub record OddByRound : Type 0 where
  pub opens : (byte : ℕ) → byte < 256 → round_of byte ≢ no_round → pattern_on (pattern_by byte (odd_parity byte)) ≡ done firework
  pub opens_none : (byte : ℕ) → byte < 256 → round_of byte ≡ no_round → pattern_on (pattern_by byte (odd_parity byte)) ≡ done broken

-- and a firework pattern is the byte of a round with its odd parity
pub record OfRound (pattern : ℕ) : Type 0 where
  pub round : round_of (pattern % 256) ≢ no_round
  pub parity : pattern ≡ pattern_by (pattern % 256) (odd_parity (pattern % 256))

abbrev pub FireworksOpenRounds : Type 0
FireworksOpenRounds = (pattern : ℕ) → pattern_on pattern ≡ done firework → OfRound pattern
