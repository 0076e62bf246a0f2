pub mod FireworkBits
pub mod Tests
pub mod Reading
pub mod Writing
pub mod Accepted
pub mod Written
pub mod RoundTrip
pub mod Distinct
-- each claim with its theorem
pub mod Claimed
