-- Rules: what a reader must believe of a round on a cluster. Claims: what is proved of it beside the contracts. Inner: words of the
-- contracts between functions and maps of the code's types.
pub mod Rules
pub mod Claims
pub mod Inner
