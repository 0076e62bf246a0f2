-- Laws of the text.
pub mod PutLaws
pub mod ListLaws
pub mod BatchLaws
pub mod GivingLaws
pub mod ClosedLaws
-- each claim with its theorem
pub mod Claimed
