pub mod Rules
pub mod Session
pub mod Vectors
pub mod Steps
