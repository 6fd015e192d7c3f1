-- Frames in lines that are cut anywhere: a line may hold several frames, or part of one. The rules of framing know no lines.
use Rattle.std.specs.Prelude.{ℕ, List, [], ◌∷◌, ◌≡◌}
use Rattle.framing.specs.Offers.{joined}
use Rattle.sheet_rules.specs.KeepAlives.{Lines}

-- "one or more pairs": a line holds something
abbrev pub Holds : List ℕ → Type 0
Holds [] = ⊥
Holds (b ∷ bs) = Unit {0}

abbrev pub AllHold : List (List ℕ) → Type 0
AllHold [] = Unit {0}
AllHold (l ∷ ls) = Holds l × AllHold ls

-- a text of lines in digits of either case, whose bytes, one line after another, are those of the frames
pub record InLines (frames : List (List ℕ)) (text : List ℕ) : Type 0 where
  pub lines : List (List ℕ)
  pub hold : AllHold lines
  pub bytes : joined lines ≡ joined frames
  pub written : Lines lines text
