-- What the proofs share: what the tables say (Tables), and numbers and names (Laws).
pub mod Tables
pub mod Laws
