-- Statements of theorems: the round trips of frames, and the cases M1 to M5.
pub mod RoundTrip
pub mod Cases
