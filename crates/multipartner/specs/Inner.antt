-- Words of the contracts between functions: the code's entries, and the slots of a round.
pub mod EntryForm
pub mod Slots
