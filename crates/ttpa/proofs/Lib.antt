pub mod CallLaws
pub mod Numbers
pub mod Refusals
-- the words of a run
pub mod WordExamples
-- what the question tells
pub mod HolderLaws
-- what conversions leave
pub mod Conversion
-- turns shared between screens
pub mod Turns
pub mod TurnExamples
-- what a join leaves
pub mod Joins
-- patterns of the line
pub mod Patterns
pub mod PatternExamples
-- a slave's file
pub mod Contents
-- each claim with its theorem
pub mod Claimed
