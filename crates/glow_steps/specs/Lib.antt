pub mod Members
pub mod Root
pub mod Progress
pub mod Brief
