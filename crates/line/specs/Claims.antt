-- Statements of theorems: the class of every pattern by its bits, patterns made of a byte and its parity bit, and flipped bits.
pub mod Classes
pub mod Parity
pub mod Flips
