pub mod Tree
pub mod Walk
pub mod Progress
