-- The laws of line patterns; a module cites those above it.

-- a test of every number, and the table by its rule
pub mod Computed
pub mod Table
-- the class of every pattern, by its bits; a byte with its parity bit; flipped bits
pub mod Classes
pub mod Parity
pub mod Flips
-- answers are told apart
pub mod Distinct
-- patterns computed from the rules
pub mod Examples
-- each claim with its theorem
pub mod Claimed
