-- Statements of theorems: demand 3, the lists that it permits, two lists of names, a step and its two frames, several steps, the rounds really made, a pass
-- written out, who is renamed, who is awake, the summary of job 8, an unknown edition, both editions, and the marked cases.
pub mod Demand
pub mod Throughout
pub mod Permitted
pub mod PermittedRounds
pub mod TwoLists
pub mod StepFrames
pub mod Steps
pub mod RoundsMade
pub mod Renaming
pub mod Sleep
pub mod Summary
pub mod Edition
pub mod StepEditions
pub mod Files
pub mod Passes
pub mod Cases
