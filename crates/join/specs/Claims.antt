-- Statements of theorems: the call's grounds, what it leaves, and joins of converted files.
pub mod JoinGrounds
pub mod Result
pub mod JoinEditions
