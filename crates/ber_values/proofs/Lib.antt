-- What the proofs share (Laws, Shorts), and the theorems on values: `written-read-value`, `read-value-writes`, `read_again` (RoundTrip); with which
-- numbers each call answers (Numbers).
pub mod Laws
pub mod Shorts
pub mod RoundTrip
pub mod Numbers
