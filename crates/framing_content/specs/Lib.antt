pub mod Numbers
pub mod Content
