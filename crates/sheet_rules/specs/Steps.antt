-- For the functions of this crate.
use Rattle.std.specs.Prelude.{ℕ, Bool, true, List, [], ◌∷◌, eqb}
use Rattle.base_choices.specs.Choices.{pick}
use Rattle.base_hex.specs.Digits.{digit_of}
use Rattle.sheet_rules.specs.Lines.{Come, fresh, pairs, half}

-- no place that the writer comes to is past this
abbrev pub room : ℕ
room = 262144

-- what has come of a line as a number: 0 nothing, 1 whole pairs, 2 a first digit too; 3 for a bad line
unfoldable pub step_line : ℕ → ℕ → ℕ
step_line k b =
    pick (eqb k 1) (pick (eqb b 10) 0 (pick (eqb (digit_of b) 16) 3 2))
    (pick (eqb (digit_of b) 16) 3 (pick (eqb k 0) 2 1))

unfoldable pub bad_from : ℕ → List ℕ → Bool
bad_from k [] = eqb k 2
bad_from k (b ∷ bs) =
    let later : Bool = bad_from (step_line k b) bs in
    pick (eqb (step_line k b) 3) true later

abbrev pub comes : Come → ℕ
comes fresh = 0
comes pairs = 1
comes (half d) = 2
