-- Words of the contracts between functions.
pub mod Told
