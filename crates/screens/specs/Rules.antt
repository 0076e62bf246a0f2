-- What document 02, job 12, says: the screens' state, posting, and a turn.
pub mod Screens
pub mod Turn
