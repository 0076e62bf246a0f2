-- What document 02 says of nine-bit line patterns.
pub mod Patterns
