pub mod Putting
pub mod Placing
pub mod Messages
pub mod Numbers
