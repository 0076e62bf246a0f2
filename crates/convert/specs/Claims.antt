-- Statements of theorems: the call's grounds, and what it leaves.
pub mod ConversionGrounds
pub mod Forms
