pub mod Grammar
pub mod Leaf
pub mod Vectors
