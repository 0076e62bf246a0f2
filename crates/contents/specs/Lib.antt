-- Rules: what a reader must believe of the call that reads a slave's file. Claims: what is proved of it beside the contract.
pub mod Rules
pub mod Claims
