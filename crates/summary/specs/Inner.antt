-- Maps of the code's types, and words of the contracts between functions.
pub mod SummaryAnswers
pub mod Kept
