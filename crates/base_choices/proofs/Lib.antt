-- What a test and its answers say, and what equal pairs do.
pub mod Laws
pub mod Pairs
