-- Statements of theorems: who sends as planned, the owner file's bytes, the call, and both editions.
pub mod PlannedRounds
pub mod Sizes
pub mod Header
pub mod OwnerGrounds
pub mod Call
pub mod OwnerEditions
