-- Rules: what a reader must believe of line patterns. Claims: what is proved of them beside the contract. Inner: the code's answers and its table.
pub mod Rules
pub mod Claims
pub mod Inner
