-- Rules: what a reader must believe of the owner file. Claims: statements of theorems. Inner: words of the contracts between functions.
pub mod Rules
pub mod Claims
pub mod Inner
