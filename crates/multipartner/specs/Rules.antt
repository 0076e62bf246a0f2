-- What document 01 says in "Multipartner rounds": the entries of a round file, and the slots of a round.
pub mod Entries
pub mod Multipartner
