pub mod Value
pub mod Write
pub mod Compared
pub mod Vectors
