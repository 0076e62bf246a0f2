-- The laws of the call that reads a slave's file; a module cites those above it.

-- the bytes that fit, and the call by its answers
pub mod Calls
-- what it tells and leaves
pub mod ContentsRead
-- files computed from the rules
pub mod Examples
-- each claim with its theorem
pub mod Claimed
