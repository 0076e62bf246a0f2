-- The code's answers in the terms of the rules, and its table.
pub mod LineAnswers
pub mod Rows
