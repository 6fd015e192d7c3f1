pub mod Laws
pub mod Ticks
pub mod Bounds
pub mod Promise
pub mod Claims
pub mod Order
pub mod OrderCalls
