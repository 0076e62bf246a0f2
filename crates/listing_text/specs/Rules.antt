-- What document 01 says of the listing program: its lines as bytes, and the run that they tell of.
pub mod Text
pub mod Listing
