-- Inner: maps of the code's types, and words of the contracts between functions. What document 02 says of a summary stands in
-- `cluster/specs/Rules/Summary`, and of a step given one in `naming/specs/Rules/Step`; what is claimed of them, in these crates' Claims.
pub mod Inner
