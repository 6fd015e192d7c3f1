pub mod Connections
pub mod Rows
