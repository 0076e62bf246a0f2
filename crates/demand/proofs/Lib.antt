-- demand 3 over lists with traces
pub mod Traces
-- demand 3 over the C calls
pub mod TurnFrames
pub mod DemandCalls
-- which lists are permitted, and rounds among them
pub mod Permitted
-- a step is two calls of ttpa_round
pub mod Steps
-- a trace is its frames, one call of ttpa_round or ttpa_round_keeping each
pub mod TraceCalls
-- two lists of names, one run after the other
pub mod TwoLists
pub mod TwoListsExamples
-- what stays pending, who is renamed, and who is awake, over lists of calls
pub mod Pending
pub mod Renaming
pub mod Sleep
pub mod SleepExamples
-- the summary over the C calls
pub mod Summary
pub mod SummaryExamples
-- both editions over the C calls
pub mod DemandEditions
pub mod EditionExamples
-- turns among the C calls
pub mod ServedTurn
pub mod Turns
pub mod TurnExamples
-- naming after a join
pub mod Join
pub mod JoinExamples
-- each claim with its theorem
pub mod Claimed
