-- Inner: what the test programs' input is cut into.
pub mod Inner
