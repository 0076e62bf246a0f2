-- Maps of the code's types, and words of the contracts between functions.
pub mod ConversionAnswers
pub mod ListedSleep
pub mod Putting
pub mod Slaves
