-- Words of the contracts: the typed numbers, places in the file, the accepted file, the numbers of refusals, the code's answers, and what the checker's parts
-- promise one another; marks for what was seen.
pub mod Typed
pub mod Layout
pub mod Numbers
pub mod Places
pub mod Accepted
pub mod Refusals
pub mod FileAnswers
pub mod Surveyed
pub mod Checked
pub mod Marked
