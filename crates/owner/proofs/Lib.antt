-- The laws of the owner file, layer by layer; a module cites those above it. Each function's own proof stands in the folder of its source
-- file.

-- owner files computed from the rules
pub mod Examples
-- masks bit by bit; what an entry adds to a plan; the rounds that a slave has a file for
pub mod MaskLaws
pub mod EntryMasks
pub mod HeldLaws
pub mod PlannerLaws
-- one slave entry by entry; a round slave by slave; the rows round by round
pub mod SlavePlan
pub mod RoundLaws
pub mod RowLaws
-- the call, by its answers, and that it does not ask who sleeps
pub mod Calls
pub mod OwnerGrounds
pub mod Asleep
pub mod OwnerEditions
pub mod Witnesses
-- who sends in a round as it runs; the file's size and its index
pub mod Runs
pub mod Sizes
-- the buffer that the call leaves
pub mod Buffer
-- each claim with its theorem
pub mod Claimed
