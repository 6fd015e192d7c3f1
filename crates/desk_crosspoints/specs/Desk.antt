-- The desk (document 01, "Desk"): all that it holds, when it is legal, and opening one.
use Rattle.std.specs.Prelude.{ℕ, List, [], ◌∷◌, Bool, true, false, length, leb, eqb}
use Rattle.base_choices.specs.Choices.{pick, unless, both}
use Rattle.desk_crosspoints.specs.declared.Figures.{Figures}
use Rattle.desk_crosspoints.specs.Figures.{figures_fit, cells_of}
use Rattle.desk_crosspoints.specs.Crosspoints.{Cells, clear, legal}

pub record Desk : Type 0 where
  pub figures : Figures
  pub path : List ℕ
  pub crosspoints : Cells

abbrev pub desk_at : Figures → List ℕ → Cells → Desk
desk_at f path cells = record { figures = f; path = path; crosspoints = cells }

-- the same desk with other crosspoints: the only way a call changes one
abbrev pub with_cells : Desk → Cells → Desk
with_cells d cells = record { figures = d.figures; path = d.path; crosspoints = cells }

-- "A full path has 1 to 16 numbers"; "Numbers are 1 to 2,147,483,647"
unfoldable pub all_numbers : List ℕ → Bool
all_numbers [] = true
all_numbers (n ∷ ns) =
    let rest : Bool = all_numbers ns in
    pick (both (leb 1 n) (leb n 2147483647)) rest false

unfoldable pub path_fits : List ℕ → Bool
path_fits path = both (both (leb 1 (length path)) (leb (length path) 16)) (all_numbers path)

-- "A desk is legal if its figures could be opened and its crosspoints fit ..": its path is one of the figures
unfoldable pub desk_legal : Desk → Bool
desk_legal d = both (path_fits d.path) (legal d.figures d.crosspoints)

-- A number answered, and the crosspoints after it.
pub record Answer : Type 0 where
  pub number : ℕ
  pub cells : Cells

abbrev pub answer : ℕ → Cells → Answer
answer n cells = record { number = n; cells = cells }

-- Opening a desk on lent crosspoints: "45 DESK: opening figures, mode (1) or path out of range", nothing changed; else all of them cleared. Figures in their
-- ranges have a size: lent crosspoints of another count are 1, before the mode and the path.
unfoldable pub desk_opened : Desk → ℕ → Answer
desk_opened d mode =
    unless (figures_fit d.figures) (answer 45 d.crosspoints)
    (unless (eqb (length d.crosspoints) (cells_of d.figures)) (answer 1 d.crosspoints)
    (unless (both (eqb mode 0) (path_fits d.path)) (answer 45 d.crosspoints)
    (answer 0 (clear (cells_of d.figures)))))
