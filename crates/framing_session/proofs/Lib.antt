-- Laws of lists, of the rules and of what the store keeps, and of a whole stream.
pub mod Lists
pub mod Laws
pub mod Stream
