-- What SETUP leaves, and what the call gives where it is none.
use Prim.Native.Nat.{ℕ, zero, suc, ◌-◌}
use mathlib.Core.Path.{◌≡◌, sym, ap, ◌∙◌}
use mathlib.Core.List.{List, ◌++◌}
use mathlib.Core.Bool.{true, false}
use native.Mathlib.Omega.{arith}
use lib.ListN.{length, drop}
use Rattle.glow_rows.specs.Entry.{Rows}
use Rattle.glow_trees.specs.Rows.{items_in}
use Rattle.desk_crosspoints.specs.Crosspoints.{Cells, clear}
use Rattle.desk_crosspoints.specs.Desk.{Desk}
use Rattle.desk_setup.specs.Ready.{is_ready}
use Rattle.desk_calls.specs.Calls.{Served, handled, Outcome, outcome, filled, laid, unserved, called, outcome_of}
use Rattle.desk_calls.specs.Steps.{laid_over}
use Rattle.desk_calls.specs.declared.Called.{Called}

module _ (d : Desk) (root : ℕ) (rows : Rows) (n : ℕ) (s : List ℕ) where
  pub called-not : is_ready d root rows n s ≡ false → called d root rows n s ≡ unserved d.crosspoints
  unfolding called
  called-not h = rw h

  pub called-ready : is_ready d root rows n s ≡ true → called d root rows n s ≡ laid (handled d (items_in s rows n))
  unfolding called
  called-ready h = rw h

-- what the call answers for 1
pub unready-told : (r : Called) (cells : Cells) → r ≡ record { number = 1; count = 0; answers = clear 256 } → unserved cells ≡ outcome_of r cells
unready-told r cells e = ap (λ (x : Called). outcome_of x cells) (sym e)

-- answers laid over zeros
drop-clear : (n m : ℕ) → drop n (clear m) ≡ clear (m - n)
unfolding clear
drop-clear zero m = let d : m - 0 ≡ m = omega arith in ap clear (sym d)
drop-clear (suc n) zero = let d : 0 - suc n ≡ 0 = omega arith in ap clear (sym d)
drop-clear (suc n) (suc m) = let d : suc m - suc n ≡ m - n = omega arith in drop-clear n m ∙ ap clear (sym d)

pub laid-zeros : (z : Served) (lent : List ℕ) (x : Outcome) → lent ≡ clear 256 → laid_over z lent ≡ x → laid z ≡ x
unfolding laid laid_over filled
laid-zeros z lent x e h =
    ap (λ (ns : List ℕ). outcome 0 (length z.answers) (z.answers ++ ns) z.cells) (sym (drop-clear (length z.answers) 256))
    ∙ ap (λ (l : List ℕ). laid_over z l) (sym e) ∙ h
