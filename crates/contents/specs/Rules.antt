-- What the call says that reads a slave's file.
pub mod Contents
