-- Statements of theorems: the listing in closed form, what its run leaves, and that of an unknown edition.
pub mod Closed
pub mod Listed
pub mod Edition
