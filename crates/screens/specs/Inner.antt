-- The code's answers in the terms of the rules, and words of the contracts between functions.
pub mod ScreenAnswers
pub mod Parts
