-- A desk that was opened is legal.
use Prim.Native.Nat.{ℕ, ◌+◌, ◌*◌, ◌≤◌}
use mathlib.Core.Path.{◌≡◌, refl, ◌∙◌}
use mathlib.Core.Bool.{Bool, true, false}
use native.Mathlib.Omega.{arith}
use borrow.Author.Tests.{le-leb, eqb-true, eqb-false}
use lib.ListN.{length}
use lib.Dec.{eqb}
use Rattle.base_choices.specs.Choices.{pick, both}
use Rattle.base_choices.proofs.Laws.{both_right}
use Rattle.desk_crosspoints.specs.declared.Figures.{Figures}
use Rattle.desk_crosspoints.specs.Figures.{figures_fit, cells_of, most_each, most_total}
use Rattle.desk_crosspoints.specs.Crosspoints.{Cells, count, clear, row_at, kind_fits, legal}
use Rattle.desk_crosspoints.specs.Desk.{Desk, with_cells, path_fits, desk_legal, Answer, answer, desk_opened}
use Rattle.desk_crosspoints.proofs.Laws.{cells_rest, legal-cells, kind-one, kind-many, kind-other}
use Rattle.desk_crosspoints.proofs.Under.{Under, under-count, row_under, bits-from, rows-from, sources-from, holders-none}
use Rattle.desk_crosspoints.proofs.Counts.{clear-cell, clear-length, clear-count}

module _ (f : Figures) where
  abbrev cells : Cells
  cells = clear (cells_of f)

  abbrev w : ℕ
  w = f.sources

  clear-row : (t : ℕ) → count (row_at w cells t) ≤ most_each f
  clear-row t =
      let u : Under (row_at w cells t) (clear w) = row_under w cells t (clear w) (λ i k. omega (arith, clear-cell (cells_of f) (t * w + i))) in
      omega (arith, under-count (row_at w cells t) (clear w) u, clear-count w)

  clear-kind : kind_fits f cells ≡ true
  clear-kind = go (eqb f.kind 1) refl (eqb f.kind 2) refl
    where
      go : (u : Bool) → eqb f.kind 1 ≡ u → (v : Bool) → eqb f.kind 2 ≡ v → kind_fits f cells ≡ true
      go true e v d =
          kind-one f cells (eqb-true f.kind 1 e)
          ∙ sources-from w f.targets cells w (λ s k. omega (arith, holders-none w cells s f.targets (λ t j. clear-cell (cells_of f) (t * w + s))))
      go false e true d =
          kind-many f cells (eqb-true f.kind 2 d) ∙ le-leb (count cells) (most_total f) (omega (arith, clear-count (cells_of f)))
      go false e false d = kind-other f cells (eqb-false f.kind 1 e) (eqb-false f.kind 2 d)

  pub clear-legal : figures_fit f ≡ true → legal f cells ≡ true
  clear-legal h =
      legal-cells f cells h
      ∙ cells_rest f cells (clear-length (cells_of f)) (bits-from cells (λ i. omega (arith, clear-cell (cells_of f) i)))
      (rows-from w (most_each f) cells f.targets (λ t k. clear-row t))
      ∙ clear-kind

module _ (d : Desk) (mode : ℕ) where
  abbrev before : Cells
  before = d.crosspoints

  abbrev empty : Cells
  empty = clear (cells_of d.figures)

  abbrev by : Bool → Bool → Bool → Answer
  by u v t = pick u (pick v (pick t (answer 0 empty) (answer 45 before)) (answer 1 before)) (answer 45 before)

  -- a desk that was opened is legal
  pub open-legal : (desk_opened d mode).number ≡ 0 → desk_legal (with_cells d (desk_opened d mode).cells) ≡ true
  unfolding desk_opened desk_legal
  open-legal n =
      go (figures_fit d.figures) refl (eqb (length before) (cells_of d.figures)) (both (eqb mode 0) (path_fits d.path)) refl n
    where
      go : (u : Bool) → figures_fit d.figures ≡ u → (v t : Bool) → both (eqb mode 0) (path_fits d.path) ≡ t → (by u v t).number ≡ 0
          → both (path_fits d.path) (legal d.figures (by u v t).cells) ≡ true
      go false e v t k z = absurd (omega (arith, z))
      go true e false t k z = absurd (omega (arith, z))
      go true e true false k z = absurd (omega (arith, z))
      go true e true true k z = rw (both_right (eqb mode 0) (path_fits d.path) k) (clear-legal d.figures e)
