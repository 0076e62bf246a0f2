-- What document 01, with request 1, says of fireworks and frames, in its order, and what the reader and the writers of frames answer.
pub mod Fireworks
pub mod Check
pub mod Frames
pub mod FrameGrounds
pub mod Reading
pub mod Writing
