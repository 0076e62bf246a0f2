-- The code's answers in the terms of the rules, and the rule of the firework lookup.
pub mod FrameAnswers
pub mod FireworkBits
