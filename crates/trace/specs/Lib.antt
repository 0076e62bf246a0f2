-- Rules: what a reader must believe of a captured trace. Claims: statements of theorems. Inner: maps of the code's types.
pub mod Rules
pub mod Claims
pub mod Inner
