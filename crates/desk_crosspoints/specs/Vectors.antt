-- Each rule at a small desk, by computation.
use Rattle.std.specs.Prelude.{ℕ, ◌+◌, ◌≡◌, refl, List, [], ◌∷◌, true, false, Option, Some, None}
use Rattle.desk_crosspoints.specs.declared.Figures.{Figures}
use Rattle.desk_crosspoints.specs.Figures.{side, most_cells, is_count, figures_fit, size_of, most_each, most_total}
use Rattle.desk_crosspoints.specs.Crosspoints.{Cells, bit, count, all_bits, clear, row_at, with_row, holders, taken_from, rows_fit, sources_fit}
use Rattle.desk_crosspoints.specs.Crosspoints.{kind_fits, cells_fit, legal}
use Rattle.desk_crosspoints.specs.Desk.{desk_at, all_numbers, path_fits, desk_legal, Answer, answer, desk_opened}

abbrev pub figures : ℕ → ℕ → ℕ → Option ℕ → Option ℕ → Figures
figures kind targets sources total each = record { kind = kind; targets = targets; sources = sources; total = total; each = each }

-- three targets and three sources, without limits
abbrev pub desk : ℕ → Figures
desk kind = figures kind 3 3 None None

abbrev pub cells2 : ℕ → ℕ → Cells
cells2 a b = a ∷ b ∷ []

abbrev pub cells6 : ℕ → ℕ → ℕ → ℕ → ℕ → ℕ → Cells
cells6 a b c d e f = a ∷ b ∷ c ∷ d ∷ e ∷ f ∷ []

abbrev pub cells9 : ℕ → ℕ → ℕ → ℕ → ℕ → ℕ → ℕ → ℕ → ℕ → Cells
cells9 a b c d e f g h i = a ∷ b ∷ c ∷ d ∷ e ∷ f ∷ g ∷ h ∷ i ∷ []

-- nine cells that are 1
abbrev ones : Cells
ones = cells9 1 1 1 1 1 1 1 1 1

-- "A full path has 1 to 16 numbers"; "Numbers are 1 to 2,147,483,647"
abbrev sixteen : List ℕ
sixteen = 1 ∷ 2 ∷ 3 ∷ 4 ∷ 5 ∷ 6 ∷ 7 ∷ 8 ∷ 9 ∷ 10 ∷ 11 ∷ 12 ∷ 13 ∷ 14 ∷ 15 ∷ 2147483647 ∷ []

pub v-path :
    (path_fits (1 ∷ []) ≡ true) ×
    (path_fits sixteen ≡ true) ×
    (path_fits [] ≡ false) ×
    (path_fits (1 ∷ sixteen) ≡ false) ×
    (path_fits (1 ∷ 0 ∷ []) ≡ false) ×
    (path_fits (1 ∷ 2147483648 ∷ []) ≡ false)
unfolding path_fits all_numbers
v-path = (refl, refl, refl, refl, refl, refl)

abbrev opening : Figures → ℕ → List ℕ → Cells → Answer
opening f mode path cells = desk_opened (desk_at f path cells) mode

pub v-opening :
    (opening (desk 0) 0 (1 ∷ []) ones ≡ answer 0 (cells9 0 0 0 0 0 0 0 0 0)) ×
    -- a row for each target, in it a cell for each source
    (opening (figures 0 3 2 None None) 0 (1 ∷ []) (cells6 1 1 1 1 1 1) ≡ answer 0 (cells6 0 0 0 0 0 0)) ×
    (opening (figures 2 1 2 (Some 2147483647) (Some 1)) 0 (1 ∷ []) (cells2 1 1) ≡ answer 0 (cells2 0 0)) ×
    -- "mode (1)"
    (opening (desk 0) 1 (1 ∷ []) ones ≡ answer 45 ones) ×
    -- type, then counts: "1 to 64 targets, 1 to 64 sources"
    (opening (desk 3) 0 (1 ∷ []) ones ≡ answer 45 ones) ×
    (opening (figures 0 0 1 None None) 0 (1 ∷ []) [] ≡ answer 45 []) ×
    (opening (figures 0 (side + 1) 1 None None) 0 (1 ∷ []) (clear (side + 1)) ≡ answer 45 (clear (side + 1))) ×
    (opening (figures 0 side 1 None None) 0 (1 ∷ []) (clear side) ≡ answer 0 (clear side)) ×
    (opening (figures 0 1 0 None None) 0 (1 ∷ []) [] ≡ answer 45 []) ×
    (opening (figures 0 1 (side + 1) None None) 0 (1 ∷ []) (clear (side + 1)) ≡ answer 45 (clear (side + 1))) ×
    (opening (figures 0 1 side None None) 0 (1 ∷ []) (clear side) ≡ answer 0 (clear side)) ×
    -- "Limits, where given, are at least 1": those of a 1:N desk too
    (opening (figures 0 3 3 (Some 0) None) 0 (1 ∷ []) ones ≡ answer 45 ones) ×
    (opening (figures 2 3 3 None (Some 0)) 0 (1 ∷ []) ones ≡ answer 45 ones) ×
    (opening (figures 2 3 3 (Some 2147483648) None) 0 (1 ∷ []) ones ≡ answer 45 ones) ×
    -- "or path out of range"
    (opening (desk 0) 0 [] ones ≡ answer 45 ones) ×
    (opening (desk 0) 0 (1 ∷ 2 ∷ 0 ∷ []) ones ≡ answer 45 ones)
unfolding is_count figures_fit clear path_fits all_numbers desk_opened
v-opening = (refl, refl, refl, refl, refl, refl, refl, refl, refl, refl, refl, refl, refl, refl, refl, refl)

-- Openings refused for two reasons: figures out of range have no size and are 45 whatever is lent; another count of cells is 1, before a mode or a path.
pub v-order :
    (opening (desk 3) 0 (1 ∷ []) (cells2 1 1) ≡ answer 45 (cells2 1 1)) ×
    (opening (desk 3) 1 [] (cells2 1 1) ≡ answer 45 (cells2 1 1)) ×
    (opening (desk 0) 0 (1 ∷ []) (cells2 1 1) ≡ answer 1 (cells2 1 1)) ×
    (opening (desk 0) 1 (1 ∷ []) (cells2 1 1) ≡ answer 1 (cells2 1 1)) ×
    (opening (desk 0) 0 [] (1 ∷ ones) ≡ answer 1 (1 ∷ ones)) ×
    (opening (desk 0) 1 [] ones ≡ answer 45 ones)
unfolding is_count figures_fit clear path_fits all_numbers desk_opened
v-order = (refl, refl, refl, refl, refl, refl)

pub v-size :
    (size_of (figures 0 3 2 None None) ≡ 6) ×
    (size_of (figures 0 side side None None) ≡ most_cells) ×
    (size_of (figures 0 (side + 1) 1 None None) ≡ 0) ×
    (size_of (figures 3 3 2 None None) ≡ 0)
unfolding is_count figures_fit size_of
v-size = (refl, refl, refl, refl)

-- Legal desks and others. 1:N: one source a target, on any number of targets.
pub v-legality :
    (legal (desk 0) (cells9 1 0 0 1 0 0 0 1 0) ≡ true) ×
    (legal (desk 0) (cells9 1 1 0 0 0 0 0 0 0) ≡ false) ×
    -- 1:1: no source on two targets
    (legal (desk 1) (cells9 1 0 0 0 0 1 0 1 0) ≡ true) ×
    (legal (desk 1) (cells9 1 0 0 0 0 0 1 0 0) ≡ false) ×
    -- N:N: the limits, by default the counts
    (legal (desk 2) (cells9 1 1 1 1 1 1 1 1 1) ≡ true) ×
    (legal (figures 2 3 3 (Some 3) (Some 2)) (cells9 1 1 0 1 0 0 0 0 0) ≡ true) ×
    (legal (figures 2 3 3 (Some 3) (Some 2)) (cells9 1 1 1 0 0 0 0 0 0) ≡ false) ×
    (legal (figures 2 3 3 (Some 3) (Some 2)) (cells9 1 1 0 1 1 0 0 0 0) ≡ false) ×
    -- "only N:N heeds them"
    (legal (figures 0 3 3 (Some 1) (Some 1)) (cells9 1 0 0 1 0 0 1 0 0) ≡ true) ×
    -- rows of the desk's own source count: the same cells are two sources of one target, or one of each of two
    (legal (figures 0 3 2 None None) (cells6 0 1 1 0 0 0) ≡ true) ×
    (legal (figures 0 2 3 None None) (cells6 0 1 1 0 0 0) ≡ false) ×
    -- a cell that is neither 0 nor 1
    (legal (desk 2) (cells9 2 0 0 0 0 0 0 0 0) ≡ false) ×
    -- cells of another count
    (legal (desk 0) (0 ∷ []) ≡ false) ×
    (legal (figures 2 2 3 None None) (cells9 0 0 0 0 0 0 0 0 0) ≡ false) ×
    -- the path beside them
    (desk_legal (desk_at (desk 0) (1 ∷ []) (cells9 1 0 0 1 0 0 0 1 0)) ≡ true) ×
    (desk_legal (desk_at (desk 0) [] (cells9 1 0 0 1 0 0 0 1 0)) ≡ false)
unfolding is_count figures_fit most_each most_total
    bit count all_bits clear row_at with_row holders taken_from rows_fit sources_fit kind_fits cells_fit legal path_fits all_numbers desk_legal
v-legality = (refl, refl, refl, refl, refl, refl, refl, refl, refl, refl, refl, refl, refl, refl, refl, refl)
