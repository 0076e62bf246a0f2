-- The laws of a summary; a module cites those above it. Each function's own proof stands in the folder of its source file.

-- the filling and the question
pub mod FillLaws
pub mod HolderLaws
-- ground 24, and a summary that matches
pub mod MatchLaws
-- a round and a naming step given a summary
pub mod RoundLaws
pub mod StepLaws
-- the answers are told apart
pub mod Distinct
