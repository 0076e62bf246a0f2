-- Words of the contracts between functions.
pub mod Names
pub mod Turned
pub mod Form
