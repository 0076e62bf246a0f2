-- Statements of theorems: what is told of which file, what the buffer holds, and a file of unknown edition.
pub mod ContentsRead
