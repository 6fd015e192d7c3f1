-- A desk's entries as rows (document 01, "Desk": "the qualified matrix with type, counts and limits, every target and its sources ascending,
-- operation and empty lists left out"). The octets of path and sources stand beside the rows.
use Rattle.std.specs.Prelude.{ℕ, ◌∷◌, eqb, Option, Some, None}
use Rattle.base_choices.specs.Choices.{pick}
use Rattle.glow_rows.specs.declared.Cell.{Cell}
use Rattle.glow_rows.specs.Cell.{integer, cell, absent, numbers_cell}
use Rattle.glow_rows.specs.Kind.{qualified_matrix, connection}
use Rattle.glow_rows.specs.Entry.{Entry, blanks}
use Rattle.desk_crosspoints.specs.declared.Figures.{Figures}

-- cells of numbers, of limits where given, of sources where there are any
abbrev pub number_cell : ℕ → Cell
number_cell n = cell integer n 0

abbrev pub limit_cell : Option ℕ → Cell
limit_cell None = absent
limit_cell (Some n) = number_cell n

unfoldable pub list_cell : ℕ → ℕ → Cell
list_cell start len = pick (eqb len 0) absent (numbers_cell start len)

-- the matrix, with the octets of its path first of all, and a connection
abbrev pub matrix_entry : Figures → ℕ → Entry
matrix_entry f n = record {
  kind = qualified_matrix;
  parent = 0;
  cells = numbers_cell 0 n ∷ absent ∷ absent ∷ number_cell f.kind ∷ absent ∷ number_cell f.targets ∷ number_cell f.sources
      ∷ limit_cell f.total ∷ limit_cell f.each ∷ blanks 7;
}

abbrev pub link_entry : ℕ → Cell → Entry
link_entry target sources = record { kind = connection; parent = 1; cells = number_cell target ∷ sources ∷ blanks 14 }
