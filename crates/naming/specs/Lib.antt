-- Rules: what a reader must believe of the naming run. Claims: demand 3 and the marked cases, as they are stated. Inner: words of the
-- contracts and laws.
pub mod Rules
pub mod Claims
pub mod Inner
