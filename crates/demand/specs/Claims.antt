-- Statements of theorems: demand 3 over lists with traces and over the C calls, the lists that it permits there, two lists of names, a step
-- and a trace as calls of ttpa_round, what stays pending, who is renamed and who is awake over lists of calls, the summary and both
-- editions over the C calls, turns among the C calls, naming after a join.
pub mod Traces
pub mod DemandCalls
pub mod Permitted
pub mod TwoLists
pub mod Steps
pub mod TraceCalls
pub mod Pending
pub mod Renaming
pub mod Sleep
pub mod Summary
pub mod DemandEditions
pub mod Turns
pub mod Join
