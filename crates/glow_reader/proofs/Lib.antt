-- For what stands above: Answers (`answer-by-bytes`, `refused-as-was`, `past-untouched`, `rows-kept`, `count-bounded`, `place-within`, `parts_within`,
-- `refusal-numbers`, `read-numbers`, `read-setup`), over Places and Within (`fuel-enough`). Samples: Vectors. The rest is what the proof of the code needs.
pub mod Laws
pub mod Vectors
pub mod Places
pub mod Within
pub mod Answers
