pub mod Rules
pub mod Supervisor
pub mod Events
pub mod Promise
pub mod Vectors
pub mod Order
