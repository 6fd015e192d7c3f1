-- With which numbers the calls answer: the rows of document 01's "Numbers answered". (glow_read: read_numbers, crates/glow_reader/specs/Message.antt.)
use Rattle.std.specs.Prelude.{ℕ, List, [], ◌∷◌}

-- glow_write: 0 done; 1 SETUP, for an answer of other than one word; 46 OUT
abbrev pub write_numbers : List ℕ
write_numbers = 0 ∷ 1 ∷ 46 ∷ []

-- glow_accepts: no, or yes
abbrev pub accept_numbers : List ℕ
accept_numbers = 0 ∷ 1 ∷ []
