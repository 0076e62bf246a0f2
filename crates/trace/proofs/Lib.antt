-- The laws of a trace, layer by layer; a module cites those above it. Each function's own proof stands in the folder of its source
-- file.

-- what ground 19 says of the bytes, and the loop along the rows
pub mod Facts
pub mod RowLaws
-- a trace is accepted exactly where it is the encoding of its frames
pub mod Encoded
pub mod Examples
pub mod RunExamples
-- what running frames keeps, and the call
pub mod Runs
pub mod Calls
pub mod TraceGrounds
-- who is awake after a trace
pub mod Sleep
pub mod TraceEditions
-- one frame more in a report, and the loop along the frames
pub mod ReportLaws
pub mod RunLaws
-- the answers are told apart
pub mod Distinct
-- each claim with its theorem
pub mod Claimed
