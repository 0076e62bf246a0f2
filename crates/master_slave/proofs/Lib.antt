-- The laws of master-slave rounds, layer by layer; a module cites those above it. Each function's own proof stands in the folder of its
-- source file.

-- the bus: mask and buffer of any sender rule
pub mod Bus
-- what a round keeps and what it leaves alone
pub mod Kept
pub mod Asleep
pub mod Untouched
pub mod WrittenBytes
-- loops along the slaves: their replies, and their changes
pub mod Hearing
pub mod Changing
-- the functions: one law for each way through a slave's part, the epoch, a data part and a complete round
pub mod SlaveLaws
pub mod Settled
pub mod EpochLaws
pub mod DataLaws
pub mod AddressLaws
