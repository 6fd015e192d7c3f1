-- Lines by computation: what is no line is a fault, after the pairs before it.
use Rattle.std.specs.Prelude.{ℕ, true, false, List, [], ◌∷◌, ◌≡◌, refl, None, Some}
use Rattle.base_hex.specs.Digits.{digit_of}
use Rattle.framing_digits.specs.declared.Stop.TheVariants.{Input, Line, Fault}
use Rattle.framing_digits.specs.Lines.{Whole, stops, scanned}

-- a block at a line's start, over a chunk of three bytes
abbrev block : List ℕ → Whole
block bs = scanned bs 0 None false (0 ∷ 0 ∷ 0 ∷ []) 0

-- `Fe0A` and 0A, and what follows is not read
pub whole-line : block (70 ∷ 101 ∷ 48 ∷ 65 ∷ 10 ∷ 70 ∷ []) ≡ record { answer = stops Line 5 None false 2; chunk = 254 ∷ 10 ∷ 0 ∷ [] }
unfolding scanned digit_of
whole-line = refl

-- `FEF`: the block ends in a pair
pub begun-line : block (70 ∷ 69 ∷ 70 ∷ []) ≡ record { answer = stops Input 3 (Some 15) true 1; chunk = 254 ∷ 0 ∷ 0 ∷ [] }
unfolding scanned digit_of
begun-line = refl

-- an empty line
pub empty-line : block (10 ∷ []) ≡ record { answer = stops Fault 1 None false 0; chunk = 0 ∷ 0 ∷ 0 ∷ [] }
unfolding scanned
empty-line = refl

-- `FEF` and 0A
pub odd-line : block (70 ∷ 69 ∷ 70 ∷ 10 ∷ []) ≡ record { answer = stops Fault 4 None false 1; chunk = 254 ∷ 0 ∷ 0 ∷ [] }
unfolding scanned digit_of
odd-line = refl

-- `FE`, 0D, 0A
pub return-line : block (70 ∷ 69 ∷ 13 ∷ 10 ∷ []) ≡ record { answer = stops Fault 3 None false 1; chunk = 254 ∷ 0 ∷ 0 ∷ [] }
unfolding scanned digit_of
return-line = refl

-- four pairs: the fourth has no place
pub long-line : block (48 ∷ 49 ∷ 48 ∷ 50 ∷ 48 ∷ 51 ∷ 48 ∷ 52 ∷ []) ≡ record { answer = stops Input 8 None true 4; chunk = 1 ∷ 2 ∷ 3 ∷ [] }
unfolding scanned digit_of
long-line = refl
