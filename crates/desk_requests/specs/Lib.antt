pub mod Request
pub mod Lists
pub mod Steps
pub mod Vectors
