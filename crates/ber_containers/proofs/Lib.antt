pub mod Heads
pub mod Laws
pub mod Quick
pub mod Numbers
pub mod Stack
