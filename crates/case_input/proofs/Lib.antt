-- what is read of an input that is known; what the calls at its lines answered
pub mod Reading
pub mod Handing
