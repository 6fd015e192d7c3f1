-- Entries: "Each element, connection and stream entry is one entry, in message order, with its parent's place."
use Rattle.std.specs.Prelude.{ℕ, zero, suc, List, [], ◌∷◌, get_or, set, ltb}
use Rattle.base_choices.specs.Choices.{pick}
use Rattle.glow_rows.specs.declared.Cell.{Cell}
use Rattle.glow_rows.specs.Cell.{absent}

-- its kind, its parent's place and 1 (0: it has none), and its cells: of an element the number or path is cell 0 and the contents' member n is
-- cell n + 1; of a command, a connection or a stream entry the member n is cell n
pub record Entry : Type 0 where
  pub kind : ℕ
  pub parent : ℕ
  pub cells : List Cell

abbrev pub Entries : Type 0
Entries = List Entry

-- sixteen cells, all absent
unfoldable pub blanks : ℕ → List Cell
blanks zero = []
blanks (suc n) = absent ∷ blanks n

abbrev pub blank : ℕ → ℕ → Entry
blank kind parent = record { kind = kind; parent = parent; cells = blanks 16 }

-- an entry with a cell put; there are sixteen
unfoldable pub with_cell : Entry → ℕ → Cell → Entry
with_cell e c v = pick (ltb c 16) (record { kind = e.kind; parent = e.parent; cells = set e.cells c v }) e

-- the entry at a place, with a cell put
unfoldable pub put_cell : Entries → ℕ → ℕ → Cell → Entries
put_cell es i c v = set es i (with_cell (get_or es i (blank 0 0)) c v)

-- An entry as a row of words: kind, parent, and three words for each cell.
unfoldable pub words : List Cell → List ℕ
words [] = []
words (v ∷ vs) = v.kind ∷ v.first ∷ v.second ∷ words vs

abbrev pub row : Entry → List ℕ
row e = e.kind ∷ e.parent ∷ words e.cells

abbrev pub Rows : Type 0
Rows = List (List ℕ)

-- The lent table with the entries in its first rows; rows past the entries are as they were.
unfoldable pub overlay : Entries → Rows → Rows
overlay [] rows = rows
overlay (e ∷ es) [] = []
overlay (e ∷ es) (r ∷ rows) = row e ∷ overlay es rows
