-- What SETUP's tests tell, and what a caller has to show.
pub mod Laws
