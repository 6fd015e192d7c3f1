-- Number, Real and Write are what the contracts say, Means what the theorems say; Pattern is for private functions alone.
pub mod Number
pub mod Real
pub mod Means
pub mod Write
pub mod Pattern
pub mod Vectors
