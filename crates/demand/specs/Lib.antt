-- Claims: the statements of theorems, with the definitions that they alone need.
pub mod Claims
