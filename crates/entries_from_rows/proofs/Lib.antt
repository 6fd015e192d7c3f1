pub mod Cells
pub mod Records
pub mod Theorems
pub mod Vectors
