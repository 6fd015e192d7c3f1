-- What is written is read back in any chunks (Chunks); the calls, and that there are such calls (Calls).
pub mod Chunks
pub mod Calls
