-- The words of a cell, as the code finds them.
use Prim.Native.Nat.{ℕ, ◌≤◌}
use mathlib.Core.Path.{◌≡◌, refl, sym, ap, ◌∙◌}
use mathlib.Core.Bool.{Bool, true, false}
use mathlib.Core.List.{List, []}
use lib.Dec.{T}
use lib.ListN.{length, get_or, set}
use lib.Seq.{set-get_or, set_out}
use Rattle.base_choices.specs.Choices.{pick}
use Rattle.glow_rows.specs.declared.Cell.{Cell}
use Rattle.glow_rows.specs.Entry.{Rows}
use Rattle.glow_rows.specs.Row.{put_in, cell_put, blanked}

-- a row of the table with a cell put
module _ (rows : Rows) (i c : ℕ) (v : Cell) where
  pub put-row-in : (r : List ℕ) → r ≡ put_in (get_or rows i []) c v → set rows i r ≡ cell_put rows i c v
  unfolding put_in cell_put
  put-row-in r e = ap (set rows i) e ∙ go (lib.Dec.ltb c 16) _
    where
      go : (b : Bool) (w : List ℕ) → set rows i (pick b w (get_or rows i [])) ≡ pick b (set rows i w) rows
      go true w = refl
      go false w = set-get_or rows i []

  pub put-past : length rows ≤ i → rows ≡ cell_put rows i c v
  unfolding cell_put
  put-past h = go (lib.Dec.ltb c 16) (set_out rows i _ h)
    where
      go : (b : Bool) {t : Rows} → t ≡ rows → rows ≡ pick b t rows
      go true e = sym e
      go false e = refl

pub blank-past : (rows : Rows) (i kind parent : ℕ) → length rows ≤ i → rows ≡ blanked rows i kind parent
unfolding blanked
blank-past rows i kind parent h = sym (set_out rows i _ h)
