pub mod Laws
pub mod Spelled
pub mod Least
pub mod Words
pub mod CodeLaws
pub mod Vectors
