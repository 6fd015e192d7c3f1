pub mod Identifier
pub mod Vectors
