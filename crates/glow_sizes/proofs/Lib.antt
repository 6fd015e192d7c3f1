pub mod Cells
pub mod Entry
pub mod Rules
pub mod Places
pub mod Sums
pub mod Fits
pub mod Trees
pub mod Notes
