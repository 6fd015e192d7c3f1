pub mod Lines
pub mod Events
pub mod Ways
pub mod Steps
pub mod Messages
pub mod Answers
pub mod Stores
pub mod Numbers
