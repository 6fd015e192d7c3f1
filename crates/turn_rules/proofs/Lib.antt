-- The claim (Claim); below it a stream of octets (Octets), the rules by framing's events (Events), the tree reader's answer by the bytes (Trees) and what
-- follows an event (Follows). Samples: Vectors.
pub mod Octets
pub mod Events
pub mod Trees
pub mod Follows
pub mod Claim
pub mod Vectors
