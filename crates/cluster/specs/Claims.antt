-- Statements of theorems: the sender mask, what stays pending, frames sent as they were written, which bytes a write puts, who is renamed,
-- the summary of job 8, who sleeps and wakes, what a frame leaves, an unknown edition, both editions, and the cases M6 to M9.
pub mod Mask
pub mod Pending
pub mod Written
pub mod Writes
pub mod Renaming
pub mod Summary
pub mod Sleep
pub mod Kept
pub mod Edition
pub mod RoundEditions
pub mod Cases
