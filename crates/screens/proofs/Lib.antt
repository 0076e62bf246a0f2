-- The laws of the screens, layer by layer; a module cites those above it. Each function's own proof stands in the folder of its source
-- file.

-- answers are told apart
pub mod Distinct
-- a law for each way of the state's functions and of a post
pub mod StateLaws
pub mod PostLaws
-- the grounds in their order, and who is due
pub mod ScreenGrounds
pub mod Due
-- a law for each way of a turn's functions
pub mod TurnLaws
-- what a post and a turn do
pub mod StateBytes
pub mod Posts
pub mod Turns
pub mod Names
-- a posted read is served within eight turns
pub mod Fairness
pub mod Eighth
-- turns on both editions
pub mod ScreenEditions
-- each claim with its theorem
pub mod Claimed
