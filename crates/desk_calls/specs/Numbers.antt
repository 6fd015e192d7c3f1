-- The numbers that each call answers (document 01, "Numbers answered").
use Rattle.std.specs.Prelude.{ℕ, List, [], ◌∷◌}
use types.Run.{OneOf}

-- opening: done, "1 SETUP", "45 DESK"
abbrev pub open_numbers : List ℕ
open_numbers = 0 ∷ 1 ∷ 45 ∷ []

-- a request: done, "1 SETUP", "41 TARGET, 42 SOURCE", "43 MANY, 44 TOTAL"
abbrev pub request_numbers : List ℕ
request_numbers = 0 ∷ 1 ∷ 41 ∷ 42 ∷ 43 ∷ 44 ∷ []

-- the call on a message's connections: done, "1 SETUP"
abbrev pub call_numbers : List ℕ
call_numbers = 0 ∷ 1 ∷ []

-- the answer to a connection: done, "40 MATRIX", 41 to 44
abbrev pub answer_numbers : List ℕ
answer_numbers = 0 ∷ 40 ∷ 41 ∷ 42 ∷ 43 ∷ 44 ∷ []

-- each of some numbers is one of these
abbrev pub AllOneOf : List ℕ → List ℕ → Type 0
AllOneOf these [] = Unit {0}
AllOneOf these (n ∷ ns) = OneOf these n × AllOneOf these ns
