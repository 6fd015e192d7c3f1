pub mod Accepted
pub mod Sizes
pub mod Kept
