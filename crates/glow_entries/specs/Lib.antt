pub mod Held
pub mod Member
pub mod Record
