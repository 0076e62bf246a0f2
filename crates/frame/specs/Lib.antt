-- Rules: what a reader must believe of fireworks and frames. Claims: what is proved of them beside the contracts. Inner: maps of the
-- code's types, and the rule of the firework lookup.
pub mod Rules
pub mod Claims
pub mod Inner
