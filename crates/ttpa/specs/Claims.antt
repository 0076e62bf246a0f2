-- Statements of theorems: that a refusal alters nothing lent, the numbers that the calls return, what the question tells, what conversions
-- leave, turns shared between screens, what a join leaves, the class of a line pattern, and what is told of a slave's file.
pub mod Refusals
pub mod Numbers
pub mod Holder
pub mod Conversion
pub mod Turns
pub mod Join
pub mod Patterns
pub mod Contents
