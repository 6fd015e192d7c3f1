-- Rows of words: what is put into one, and what stands there.
use Rattle.std.specs.Prelude.{ℕ, zero, suc, ◌+◌, ◌*◌, Bool, true, false, List, [], ◌∷◌, get_or, set, ltb, eqb}
use Rattle.base_choices.specs.Choices.{pick}
use Rattle.glow_rows.specs.declared.Cell.{Cell}
use Rattle.glow_rows.specs.Cell.{cell, absent}
use Rattle.glow_rows.specs.Entry.{Entry, Entries, Rows, row, blank}

-- a row with a cell put: cell c is the words 2 + 3c to 4 + 3c, and there are sixteen
unfoldable pub put_in : List ℕ → ℕ → Cell → List ℕ
put_in r c v = pick (ltb c 16) (set (set (set r (2 + c * 3) v.kind) (3 + c * 3) v.first) (4 + c * 3) v.second) r

-- What is put into a row of the lent table: past the table's end nothing.
unfoldable pub cell_put : Rows → ℕ → ℕ → Cell → Rows
cell_put rows i c v =
    pick (ltb c 16) (set rows i (set (set (set (get_or rows i []) (2 + c * 3) v.kind) (3 + c * 3) v.first) (4 + c * 3) v.second)) rows

unfoldable pub blanked : Rows → ℕ → ℕ → ℕ → Rows
blanked rows i kind parent = set rows i (row (blank kind parent))

-- what stands in cell c
abbrev pub cell_at : List ℕ → ℕ → Cell
cell_at r c = cell (get_or r (2 + c * 3) 0) (get_or r (3 + c * 3) 0) (get_or r (4 + c * 3) 0)

-- of the sixteen
unfoldable pub cell_in : List ℕ → ℕ → Cell
cell_in r c = pick (ltb c 16) (cell_at r c) absent

-- n cells from c on
unfoldable pub cells_from : ℕ → ℕ → List ℕ → List Cell
cells_from zero c r = []
cells_from (suc n) c r = cell_at r c ∷ cells_from n (suc c) r

-- the entry of a row, and the entries of rows
abbrev pub entry_of : List ℕ → Entry
entry_of r = record { kind = get_or r 0 0; parent = get_or r 1 0; cells = cells_from 16 0 r }

unfoldable pub entries_of : Rows → Entries
entries_of [] = []
entries_of (r ∷ rows) = entry_of r ∷ entries_of rows

-- the cell c of the row i: an absent one where there is none
unfoldable pub row_cell : Rows → ℕ → ℕ → Cell
row_cell rows i c = get_or (cells_from 16 0 (get_or rows i [])) c absent

-- the word j of the row i, of fifty: 0 where there is none
abbrev pub row_word : Rows → ℕ → ℕ → ℕ
row_word rows i j = pick (ltb j 50) (get_or (get_or rows i []) j 0) 0

-- whether two rows hold the same words
unfoldable pub same : List ℕ → List ℕ → Bool
same [] [] = true
same [] (y ∷ ys) = false
same (x ∷ xs) [] = false
same (x ∷ xs) (y ∷ ys) = pick (eqb x y) (same xs ys) false
