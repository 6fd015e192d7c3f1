-- What the definitions say at a test's answer.
use Prim.Native.Nat.{ℕ}
use mathlib.Core.Path.{◌≡◌}
use mathlib.Core.Bool.{true}
use lib.Dec.{eqb}
use borrow.Author.Tests.{eq-eqb, ne_eqb}
use Rattle.glow_trees.specs.Legal.{is_root}

pub root-zero : (root : ℕ) → root ≡ 0 → true ≡ is_root root
root-zero root h = simp (eq-eqb _ _ h)

pub root-other : (root : ℕ) → (root ≡ 0 → ⊥) → eqb root 3 ≡ is_root root
root-other root h = simp (ne_eqb _ _ h)
