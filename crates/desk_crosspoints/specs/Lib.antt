pub mod Figures
pub mod Crosspoints
pub mod Desk
pub mod Vectors
