pub mod Laws
pub mod Shift
pub mod Vectors
