-- What one call makes of the stream (OneCall), and what can be said (Sayable); the claim over every list of offers (Chunks); its calls, and that there are such
-- lists (Calls).
pub mod OneCall
pub mod Chunks
pub mod Sayable
pub mod Calls
