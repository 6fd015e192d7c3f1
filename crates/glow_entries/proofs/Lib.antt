-- What several proofs use, and the theorems: each kind of entry and its row.
pub mod Cells
mod Answers
mod Back
pub mod Words
pub mod RoundTrip
pub mod Vectors
