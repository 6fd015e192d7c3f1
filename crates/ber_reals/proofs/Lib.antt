-- What the proofs share, and the theorems on reals: `exactly`, `unique`, `otherwise` (Exactly); `Written-Read`, `read-written`, `written-least`,
-- `written-plain`, `written-read-at` (RoundTrip); with which numbers each call answers (Numbers).
pub mod Powers
pub mod Odd
pub mod Doubles
pub mod Patterns
pub mod Laws
pub mod RealLaws
pub mod WriteLaws
pub mod Naturals
pub mod PowerOctets
pub mod Exactly
pub mod RoundTrip
pub mod Numbers
