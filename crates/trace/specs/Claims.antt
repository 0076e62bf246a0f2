-- Statements of theorems: what a trace is, its grounds, a refused frame, what running it keeps, who is awake after it, and both editions.
pub mod Encoding
pub mod TraceGrounds
pub mod Refused
pub mod TraceRun
pub mod TraceEditions
pub mod Sleep
