pub mod Desks
pub mod Messages
pub mod Whole
pub mod Theorems
pub mod Alone
pub mod Numbered
