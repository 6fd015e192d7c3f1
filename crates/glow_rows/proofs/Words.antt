-- The cells and words of rows, as the code finds and puts them.
use Prim.Native.Nat.{ℕ, zero, suc, ◌+◌, ◌*◌, ◌≤◌, ◌<◌}
use mathlib.Core.Path.{◌≡◌, refl, sym, ap, ◌∙◌}
use mathlib.Core.Bool.{Bool, true, false, ◌&&◌}
use mathlib.Core.List.{List, [], ◌∷◌}
use native.Mathlib.Omega.{arith}
use borrow.Author.Tests.{lt-ltb, le-ltb, ltb-true, ltb-false}
use lib.Dec.{ltb, eqb}
use lib.Pointwise.{pointwise}
use lib.ListN.{length, get_or, set, get_or-eq_default}
use Rattle.base_choices.specs.Choices.{pick}
use Rattle.glow_rows.specs.declared.Cell.{Cell}
use Rattle.glow_rows.specs.Cell.{cell, absent}
use Rattle.glow_rows.specs.Entry.{Rows}
use Rattle.glow_rows.specs.Row.{put_in, cell_at, cell_in, cells_from, row_cell, same}

-- the cells and words of rows, one by one
cells_at : (n k c : ℕ) (r : List ℕ) → c < n → get_or (cells_from n k r) c absent ≡ cell_at r (k + c)
unfolding cells_from
cells_at zero k c r h = absurd (omega (arith, h))
cells_at (suc n) k zero r h = let d : k ≡ k + 0 = omega arith in ap (cell_at r) d
cells_at (suc n) k (suc c) r h =
    let d : suc k + c ≡ k + suc c = omega arith in cells_at n (suc k) c r (omega (arith, h)) ∙ ap (cell_at r) d

cells-past : (n k c : ℕ) (r : List ℕ) → n ≤ c → get_or (cells_from n k r) c absent ≡ absent
unfolding cells_from
cells-past zero k c r h = refl
cells-past (suc n) k zero r h = absurd (omega (arith, h))
cells-past (suc n) k (suc c) r h = cells-past n (suc k) c r (omega (arith, h))

cells-none : (n k c : ℕ) → get_or (cells_from n k []) c absent ≡ absent
unfolding cells_from
cells-none zero k c = refl
cells-none (suc n) k zero = refl
cells-none (suc n) k (suc c) = cells-none n (suc k) c

module _ (rows : Rows) (i c : ℕ) where
  pub cell-rowless : length rows ≤ i → absent ≡ row_cell rows i c
  unfolding row_cell
  cell-rowless h = sym (ap (λ (r : List ℕ). get_or (cells_from 16 0 r) c absent) (get_or-eq_default rows [] h) ∙ cells-none 16 0 c)

  pub cell-past : 16 ≤ c → absent ≡ row_cell rows i c
  unfolding row_cell
  cell-past h = sym (cells-past 16 0 c (get_or rows i []) h)

  pub cell_in_lem : c < 16 → row_cell rows i c ≡ cell_at (get_or rows i []) c
  unfolding row_cell
  cell_in_lem h = let z : 0 + c ≡ c = omega arith in cells_at 16 0 c (get_or rows i []) h ∙ ap (cell_at (get_or rows i [])) z

module _ (r : List ℕ) where
  pub row-cell : (c : ℕ) → c < 16 → cell (get_or r (2 + c * 3) 0) (get_or r (2 + c * 3 + 1) 0) (get_or r (2 + c * 3 + 2) 0) ≡ cell_in r c
  unfolding cell_in
  row-cell c h =
      let one : 2 + c * 3 + 1 ≡ 3 + c * 3 = omega arith in
      let two : 2 + c * 3 + 2 ≡ 4 + c * 3 = omega arith in
      rw (lt-ltb _ _ h, one, two)

  pub row-past : (c : ℕ) → 16 ≤ c → absent ≡ cell_in r c
  unfolding cell_in
  row-past c h = rw (le-ltb _ _ h)

-- a cell put into a row
pub put-row : (r : List ℕ) (c : ℕ) (v : Cell) → c < 16
    → set (set (set r (2 + c * 3) v.kind) (2 + c * 3 + 1) v.first) (2 + c * 3 + 2) v.second ≡ put_in r c v
unfolding put_in
put-row r c v h =
    let one : 2 + c * 3 + 1 ≡ 3 + c * 3 = omega arith in
    let two : 2 + c * 3 + 2 ≡ 4 + c * 3 = omega arith in
    rw (lt-ltb _ _ h, one, two)

pub put-row-past : (r : List ℕ) (c : ℕ) (v : Cell) → 16 ≤ c → r ≡ put_in r c v
unfolding put_in
put-row-past r c v h = rw (le-ltb _ _ h)

-- a row of the table, or none
module _ (rows : Rows) (i c : ℕ) where
  pub cell-in-row : cell_in (get_or rows i []) c ≡ row_cell rows i c
  unfolding cell_in
  cell-in-row = go (ltb c 16) refl
    where
      go : (b : Bool) → ltb c 16 ≡ b → pick b (cell_at (get_or rows i []) c) absent ≡ row_cell rows i c
      go true e = sym (cell_in_lem rows i c (ltb-true c 16 e))
      go false e = cell-past rows i c (ltb-false c 16 e)

-- two rows, word by word
pub same-is : (a b : List ℕ) → pointwise eqb a b ≡ same a b
unfolding same
same-is [] [] = refl
same-is [] (y ∷ ys) = refl
same-is (x ∷ xs) [] = refl
same-is (x ∷ xs) (y ∷ ys) = go (eqb x y) (same-is xs ys)
  where
    go : (b : Bool) {s t : Bool} → s ≡ t → b && s ≡ pick b t false
    go true e = e
    go false e = refl
