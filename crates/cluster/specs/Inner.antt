-- Words of the contracts between functions: a frame's grounds one by one, what a frame does and its answer, the sending of a complete
-- round, the code's answers and a frame that nobody hears.
pub mod EachGround
pub mod Effects
pub mod Exchanged
pub mod Sending
pub mod RoundAnswers
pub mod Unheard
