-- Statements of theorems: the numbers of each edition, what is accepted, other logical names, an unknown edition, and a file in its other
-- edition.
pub mod EditionOne
pub mod EditionTwo
pub mod Accepted
pub mod LogicalNames
pub mod Edition
pub mod Editions
