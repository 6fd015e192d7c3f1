-- What the proofs share (WriteLaws, Puts), and the round trip of the functions: `round_trip`, `written-read-by-calls` (Calls).
pub mod WriteLaws
pub mod Puts
pub mod Calls
