-- What several proofs use, and the laws of cells, words, entries and rows.
mod Cells
pub mod Laws
pub mod Words
pub mod Values
