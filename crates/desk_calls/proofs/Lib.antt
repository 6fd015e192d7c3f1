pub mod Served
pub mod Setup
pub mod AsRead
pub mod Claims
pub mod Numbers
pub mod Vectors
