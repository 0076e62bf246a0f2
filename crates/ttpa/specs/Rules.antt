-- The C calls.
pub mod Calls
