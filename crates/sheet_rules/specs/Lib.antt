pub mod Sheet
pub mod Lines
pub mod Reading
pub mod KeepAlives
pub mod InLines
pub mod Vectors
pub mod Steps
