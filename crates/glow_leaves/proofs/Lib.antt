-- What the proofs share (Laws, Words), and what holds of a value that is kept: `leaf-bounded`, `kept-part`, `kept-path` (Bounds).
pub mod Laws
pub mod Words
pub mod Bounds
