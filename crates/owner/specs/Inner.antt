-- Words of the contracts between functions.
pub mod OwnerEntries
pub mod Held
pub mod Masks
pub mod Planned
