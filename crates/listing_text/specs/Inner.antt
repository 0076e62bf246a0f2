-- Words of the contracts: bytes put into a text, and a run under way.
pub mod Puts
pub mod ListRuns
