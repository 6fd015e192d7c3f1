pub mod Spelling
pub mod Sizes
