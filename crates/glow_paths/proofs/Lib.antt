pub mod Numbers
pub mod Items
pub mod Walk
