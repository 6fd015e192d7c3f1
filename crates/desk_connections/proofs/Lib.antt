pub mod Paths
pub mod Operations
pub mod Rows
