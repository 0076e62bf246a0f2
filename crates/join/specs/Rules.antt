-- What document 02 says of two clusters that are joined ("Job 13. Joining two clusters."): the result, and the call, with grounds 29 and 30.
pub mod Joined
pub mod Join
