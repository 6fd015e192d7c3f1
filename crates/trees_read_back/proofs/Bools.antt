-- What a test that holds says.
use Prim.Native.Nat.{ℕ}
use mathlib.Core.Path.{◌≡◌, refl}
use mathlib.Core.Bool.{Bool, true, false}
use mathlib.Core.Logic.{◌⊎◌, inl, inr}
use native.Mathlib.Omega.{arith}
use borrow.Author.Tests.{eqb-true}
use lib.Dec.{eqb}
use Rattle.base_choices.specs.Choices.{pick}
use Rattle.glow_trees.specs.Content.{is_part, is_word}

pub never : {A : Type 0} → false ≡ true → A
never e = let z : ◌≡◌ {A = ℕ} 0 1 = cc in absurd (omega arith)

-- a test that must not hold, and another that must
pub unless : (a b : Bool) → pick a false b ≡ true → (a ≡ false) × (b ≡ true)
unless true b e = never e
unless false b e = (refl, e)

or_else : (a b : Bool) {P Q : Type 0} → (a ≡ true → P) → (b ≡ true → Q) → pick a true b ≡ true → P ⊎ Q
or_else true b f g e = inl (f refl)
or_else false b f g e = inr (g e)

pub word-kinds : (kind : ℕ) → is_word kind ≡ true → (kind ≡ 1) ⊎ ((kind ≡ 2) ⊎ (kind ≡ 9))
word-kinds kind e = or_else (eqb kind 1) _ (eqb-true kind 1) (or_else (eqb kind 2) _ (eqb-true kind 2) (eqb-true kind 9)) e

pub part-kinds : (kind : ℕ) → is_part kind ≡ true → (kind ≡ 4) ⊎ ((kind ≡ 12) ⊎ (kind ≡ 13))
part-kinds kind e = or_else (eqb kind 4) _ (eqb-true kind 4) (or_else (eqb kind 12) _ (eqb-true kind 12) (eqb-true kind 13)) e
