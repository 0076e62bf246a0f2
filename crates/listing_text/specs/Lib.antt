-- Rules: what a reader must believe of the listing. Claims: the listing in closed form. Inner: words of the contracts.
pub mod Rules
pub mod Claims
pub mod Inner
