-- What document 01 says of slaves, "What slaves do": the bus, what a round does over it, and master-slave rounds.
pub mod Bus
pub mod Effect
pub mod Slaves
