-- What document 02 says of the owner file ("Job 4. Writing the owner file.", and of multiplexed entries "Job 7. Multiplexed slots."): who
-- sends in which slot, the file's bytes, and the call with grounds 23, 20 and 21.
pub mod Plan
pub mod OwnerFile
pub mod OwnerWriting
