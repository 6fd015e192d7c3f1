-- What the functions of this crate answer.
use Rattle.std.specs.Prelude.{ℕ, ◌≤◌, ◌<◌, ◌≡◌, List, [], ◌∷◌, Bool, false, length, take, eqb, ℤ, Option, Some, None}
use Rattle.base_choices.specs.Choices.{both}
use Rattle.glow_grammar.specs.Grammar.{qualified_matrix}
use Rattle.glow_trees.specs.Content.{Item}
use Rattle.glow_rows.specs.Cell.{word_of}
use Rattle.sheet_rules.specs.Reading.{all_links}

-- the limit that a number gives
abbrev pub limit_from : Option ℤ → Option ℕ
limit_from None = None
limit_from (Some z) = Some (word_of z)

-- one qualified matrix, and connections alone
abbrev pub is_sheet : List Item → Bool
is_sheet [] = false
is_sheet (e ∷ es) = both (eqb e.kind qualified_matrix) (all_links es)

-- r words of a list of sixteen are the numbers; or there are more than sixteen numbers
pub record Taken (xs : List ℕ) (r : ℕ) (list : List ℕ) : Type 0 where
  pub all : r ≤ 16 → take r list ≡ xs
  pub more : 16 < r → 16 < length xs
