-- What the three calls give is a turn (Comes), and the claim of crates/turn_rules speaks of something (Some). For the functions: Steps; their calls: Calls;
-- the claim for them: Functions. The numbers answered: Numbers. Document 01's samples: Samples.
pub mod Comes
pub mod Some
pub mod Steps
pub mod Calls
pub mod Functions
pub mod Numbers
pub mod Samples
