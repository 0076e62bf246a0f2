-- The laws of rounds, layer by layer; a module cites those above it. Each function's own proof stands in the folder of its source
-- file.

-- what a round keeps, what it leaves alone, and the laws of the round definition
pub mod Mask
pub mod AwakeAlone
pub mod UntouchedByFrame
pub mod Rounds
pub mod Replaced
pub mod StaysPending
pub mod UnnamedWrites
pub mod RecordWrites
pub mod Renaming
-- the summary: which ones match, a round given it, the filling and the question
pub mod SummaryLaws
pub mod Keeping
pub mod Holders
-- the functions: one law for each way through a frame
pub mod WritePending
pub mod RoundNumbers
pub mod FrameLaws
-- the document's cases, frames that the writers wrote, the ways of the round call, and a complete round
pub mod Cases
pub mod Sleep
pub mod SleepExamples
pub mod SleepWitnesses
pub mod RoundCall
pub mod Sent
pub mod SentAsWritten
pub mod SentRounds
pub mod FrameCall
-- a frame that nobody hears
pub mod UnheardLaws
-- both editions
pub mod RoundEditions
-- the answers are told apart
pub mod Distinct
-- each claim with its theorem
pub mod Claimed
