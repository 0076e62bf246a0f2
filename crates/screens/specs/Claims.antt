-- Statements of theorems: the grounds in their order, what a post and a turn do, that a posted read is served within eight accepted turns,
-- and turns on both editions.
pub mod ScreenGrounds
pub mod Turns
pub mod Fairness
pub mod ScreenEditions
