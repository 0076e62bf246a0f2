-- What document 01 says of the naming run, in its order: its rounds, its position, the places of a pass, how it moves on, its grounds, one
-- step, the plain account and the closed figures; and, of our own, several steps after one check.
pub mod RunRounds
pub mod Position
pub mod Pass
pub mod Run
pub mod RunGrounds
pub mod Step
pub mod Steps
pub mod Account
pub mod Figures
