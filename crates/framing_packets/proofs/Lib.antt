-- Laws of what is written (Laws, Sizes), and of reading it by the rules (Reading, Back).
pub mod Laws
pub mod Sizes
pub mod Reading
pub mod Back
