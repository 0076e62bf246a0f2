-- The laws of joins, layer by layer; a module cites those above it. Each function's own proof stands in the folder of its source file.

-- small files, computed from the rules
pub mod Examples
-- the marks of names, and the physical names of two files
pub mod MarkLaws
pub mod NamesLaws
-- the second file's slaves, and the parts of a joined file
pub mod TurnLaws
pub mod BodyLaws
-- the joined cluster, that it is legal, and the names held in it
pub mod Joining
pub mod Legal
pub mod HeldOnce
-- the call, by its answers
pub mod Order
pub mod JoinLaws
pub mod JoinGrounds
pub mod Result
-- joins of converted files
pub mod JoinEditions
-- what the claims ask can be met
pub mod Witnesses
-- each claim with its theorem
pub mod Claimed
