pub mod Caps
pub mod Words
pub mod Members
