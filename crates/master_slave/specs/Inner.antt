-- Words of the contracts between functions: a round carried out, slave by slave, and the code's duties.
pub mod Carried
pub mod Duties
