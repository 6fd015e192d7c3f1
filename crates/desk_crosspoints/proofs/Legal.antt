-- What a legal desk tells of its figures and its crosspoints.
use Prim.Native.Nat.{ℕ, ◌+◌, ◌*◌, ◌≤◌, ◌<◌}
use mathlib.Core.Path.{◌≡◌}
use mathlib.Core.Bool.{Bool, true}
use native.Mathlib.Omega.{arith}
use borrow.Author.Tests.{eqb-true}
use lib.ListN.{length}
use lib.Dec.{eqb}
use Rattle.desk_crosspoints.specs.declared.Figures.{Figures}
use Rattle.base_choices.specs.Choices.{both}
use Rattle.base_choices.proofs.Laws.{both_left, both_right}
use Rattle.desk_crosspoints.specs.Figures.{figures_fit, cells_of, most_each}
use Rattle.desk_crosspoints.specs.Crosspoints.{Cells, all_bits, rows_fit, kind_fits, cells_fit, legal}
use Rattle.desk_crosspoints.proofs.Under.{rows_apart}

module _ (f : Figures) (cells : Cells) (h : legal f cells ≡ true) where
  pub legal-fit : figures_fit f ≡ true
  unfolding legal
  legal-fit = both_left (figures_fit f) (cells_fit f cells) h

  pub legal-cells-fit : cells_fit f cells ≡ true
  unfolding legal
  legal-cells-fit = both_right (figures_fit f) (cells_fit f cells) h

  abbrev rows_ok : Bool
  rows_ok = rows_fit f.sources (most_each f) cells f.targets

  pub legal-length : length cells ≡ cells_of f
  unfolding cells_fit
  legal-length =
      eqb-true (length cells) (cells_of f)
      (both_left (eqb (length cells) (cells_of f)) (both (all_bits cells) (both rows_ok (kind_fits f cells))) legal-cells-fit)

  rest : both (all_bits cells) (both rows_ok (kind_fits f cells)) ≡ true
  unfolding cells_fit
  rest = both_right (eqb (length cells) (cells_of f)) (both (all_bits cells) (both rows_ok (kind_fits f cells))) legal-cells-fit

  pub legal-bits : all_bits cells ≡ true
  legal-bits = both_left (all_bits cells) (both rows_ok (kind_fits f cells)) rest

  pub legal-rows : rows_fit f.sources (most_each f) cells f.targets ≡ true
  legal-rows = both_left rows_ok (kind_fits f cells) (both_right (all_bits cells) (both rows_ok (kind_fits f cells)) rest)

  pub legal-kind : kind_fits f cells ≡ true
  legal-kind = both_right rows_ok (kind_fits f cells) (both_right (all_bits cells) (both rows_ok (kind_fits f cells)) rest)

  pub legal-row-there : (t : ℕ) → t < f.targets → t * f.sources + f.sources ≤ length cells
  legal-row-there t k = omega (arith, rows_apart t f.targets f.sources k, legal-length)
