-- What the proofs share (Laws, Within), and the theorems on relative identifiers: `written_read`, `read-written` (RoundTrip); with which numbers
-- each call answers (Numbers).
pub mod Laws
pub mod Within
pub mod RoundTrip
pub mod Numbers
