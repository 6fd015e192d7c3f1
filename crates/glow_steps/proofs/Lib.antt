-- For what stands above: Laws, Rooted, Quick, and what a set's marks mean, Marks.
pub mod Laws
pub mod Rooted
pub mod Marks
pub mod Quick
