-- What document 02 says of a captured trace ("Job 2. Running a captured trace."): its layout, the trace of given frames, the frames
-- of a given trace with ground 19, and what running it does and reports.
pub mod Layout
pub mod Encode
pub mod Trace
pub mod TraceRun
