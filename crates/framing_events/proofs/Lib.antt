-- What an event says in any store, and with which numbers (Said); a stream for each number (Numbers).
pub mod Said
pub mod Numbers
