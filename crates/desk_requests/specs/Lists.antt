-- Lists of numbers as sets.
use Rattle.std.specs.Prelude.{ℕ, List, [], ◌∷◌, ◌++◌, Bool, true, false, eqb}
use Rattle.base_choices.specs.Choices.{pick}

unfoldable pub has : List ℕ → ℕ → Bool
has [] x = false
has (y ∷ ys) x =
    let rest : Bool = has ys x in
    pick (eqb y x) true rest

-- a list with x, once
unfoldable pub once : List ℕ → ℕ → List ℕ
once ys x = pick (has ys x) ys (ys ++ (x ∷ []))
