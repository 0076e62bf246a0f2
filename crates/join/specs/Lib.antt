-- Rules: what a reader must believe of a join. Claims: statements of theorems. Inner: words of the contracts between functions.
pub mod Rules
pub mod Claims
pub mod Inner
