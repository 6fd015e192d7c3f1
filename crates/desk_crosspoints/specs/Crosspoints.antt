-- Crosspoints (document 01, "Desk"): a cell for each target and source and no other, row by row. That of target t and source s stands at t * w + s, w the row
-- size: the desk's source count. A cell is 1 where the source is connected to the target, else 0.
use Rattle.std.specs.Prelude.{ℕ, zero, suc, ◌+◌, ◌*◌, List, [], ◌∷◌, ◌++◌, Bool, true, false, length, take, drop, get_or, set, leb, eqb}
use Rattle.base_choices.specs.Choices.{pick, both}
use Rattle.desk_crosspoints.specs.declared.Figures.{Figures}
use Rattle.desk_crosspoints.specs.Figures.{one_to_one, n_to_n, figures_fit, cells_of, most_each, most_total}

abbrev pub Cells : Type 0
Cells = List ℕ

-- 1 for a cell that is set
unfoldable pub bit : ℕ → ℕ
bit c = pick (eqb c 0) 0 1

-- how many cells are set
unfoldable pub count : Cells → ℕ
count [] = 0
count (c ∷ cs) = bit c + count cs

-- every cell is 0 or 1
unfoldable pub all_bits : Cells → Bool
all_bits [] = true
all_bits (c ∷ cs) =
    let rest : Bool = all_bits cs in
    pick (leb c 1) rest false

-- n cells that are 0
unfoldable pub clear : ℕ → Cells
clear zero = []
clear (suc n) = 0 ∷ clear n

-- the cells of a target
unfoldable pub row_at : ℕ → Cells → ℕ → Cells
row_at w cells t = take w (drop (t * w) cells)

-- the crosspoints with other cells for a target
unfoldable pub with_row : ℕ → Cells → ℕ → Cells → Cells
with_row w cells t new = take (t * w) cells ++ (new ++ drop (t * w + w) cells)

-- how many of the first n targets have a source
unfoldable pub holders : ℕ → Cells → ℕ → ℕ → ℕ
holders w cells s zero = 0
holders w cells s (suc n) = bit (get_or cells (n * w + s) 0) + holders w cells s n

-- a source taken from the first n targets
unfoldable pub taken_from : ℕ → Cells → ℕ → ℕ → Cells
taken_from w cells s zero = cells
taken_from w cells s (suc n) = taken_from w (set cells (n * w + s) 0) s n

-- the first n targets have no more than `most` sources
unfoldable pub rows_fit : ℕ → ℕ → Cells → ℕ → Bool
rows_fit w most cells zero = true
rows_fit w most cells (suc n) =
    let rest : Bool = rows_fit w most cells n in
    both (leb (count (row_at w cells n)) most) rest

-- for 1:1, each of the first n sources is connected to one target at most, of t targets
unfoldable pub sources_fit : ℕ → ℕ → Cells → ℕ → Bool
sources_fit w t cells zero = true
sources_fit w t cells (suc n) =
    let rest : Bool = sources_fit w t cells n in
    both (leb (holders w cells n t) 1) rest

-- 1:1: no source is connected twice; N:N: no more than the limit in total
unfoldable pub kind_fits : Figures → Cells → Bool
kind_fits f cells =
    pick (eqb f.kind one_to_one) (sources_fit f.sources f.targets cells f.sources)
    (pick (eqb f.kind n_to_n) (leb (count cells) (most_total f)) true)

-- "its crosspoints fit its counts, type and limits"
unfoldable pub cells_fit : Figures → Cells → Bool
cells_fit f cells =
    both (eqb (length cells) (cells_of f))
    (both (all_bits cells)
    (both (rows_fit f.sources (most_each f) cells f.targets) (kind_fits f cells)))

-- "A desk is legal if its figures could be opened and its crosspoints fit its counts, type and limits.": of these all but the path
unfoldable pub legal : Figures → Cells → Bool
legal f cells = both (figures_fit f) (cells_fit f cells)
