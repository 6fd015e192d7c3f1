pub mod Content
pub mod Rows
pub mod Trees
pub mod Legal
pub mod Written
