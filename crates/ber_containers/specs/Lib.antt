pub mod Ends
pub mod Passing
pub mod Progress
pub mod Short
pub mod Numbers
