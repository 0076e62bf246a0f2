-- Maps of the code's types, and words of the contracts between functions.
pub mod TraceAnswers
pub mod Sent
