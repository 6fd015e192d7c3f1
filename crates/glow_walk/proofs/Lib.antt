-- For what stands above: Ways. The rest is what the proofs of the code share.
pub mod Ways
pub mod Rooted
pub mod Held
pub mod Loops
