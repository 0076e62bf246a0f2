-- The code's terms of the programs' input.
pub mod Lines
