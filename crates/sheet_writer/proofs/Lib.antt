pub mod Laws
pub mod Entries
pub mod Packets
pub mod Answers
pub mod Theorems
pub mod Numbers
