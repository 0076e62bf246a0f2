-- Rules: what a reader must believe of the bus and of slaves in master-slave rounds. Inner: words of the contracts between functions and
-- maps of the code's types.
pub mod Rules
pub mod Inner
