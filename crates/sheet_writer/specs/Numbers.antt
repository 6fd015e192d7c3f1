-- With which numbers the call answers: the rows of document 01's "Numbers answered".
use Rattle.std.specs.Prelude.{ℕ, List, [], ◌∷◌}

-- 0 done; "1 SETUP: .. desk not legal"; "46 OUT: output too short"
abbrev pub sheet_put_numbers : List ℕ
sheet_put_numbers = 0 ∷ 1 ∷ 46 ∷ []
