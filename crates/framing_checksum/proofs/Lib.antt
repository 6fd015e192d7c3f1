-- Linear functions of bits, and the checksum by division.
pub mod Linear
pub mod Division
pub mod Folds
