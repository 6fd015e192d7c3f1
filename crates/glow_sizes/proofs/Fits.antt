-- The test on entries, by the length that is measured.
use Prim.Native.Nat.{ℕ, ◌≤◌}
use mathlib.Core.Path.{◌≡◌, refl, sym, subst, ◌∙◌}
use mathlib.Core.Bool.{Bool, true, false, not}
use mathlib.Core.List.{List}
use native.Mathlib.Omega.{arith}
use borrow.Author.Tests.{le-leb, lt-leb, leb-true}
use lib.Dec.{T, leb}
use lib.ListN.{length}
use Rattle.base_choices.specs.Choices.{pick}
use Rattle.base_choices.proofs.Laws.{both_right}
use Rattle.glow_trees.specs.Content.{Item}
use Rattle.glow_sizes.specs.Accepted.{is_whole, octets_of, fits, length_of}

never : {P : Type 0} → false ≡ true → P
never e = absurd (subst (λ (b : Bool). T (not b)) e tt)

module _ (real : ℕ → List ℕ) (root rows n : ℕ) (es : List Item) where
  few : fits real root rows n es ≡ true → length (octets_of real root es) ≤ 16384
  unfolding fits
  few h =
      leb-true _ _ (both_right (is_whole root es) _ (both_right (leb n 256) _ (both_right (leb n rows) _ h)))

  pub fits_by : (m : ℕ) → length_of real root rows n es ≡ m → fits real root rows n es ≡ leb m 16384
  unfolding length_of
  fits_by m e = go (fits real root rows n es) refl e
    where
      go : (b : Bool) → fits real root rows n es ≡ b → pick b (length (octets_of real root es)) 65536 ≡ m → fits real root rows n es ≡ leb m 16384
      go true f i = let l = few f in f ∙ sym (le-leb m 16384 (omega arith))
      go false f i = f ∙ sym (lt-leb m 16384 (omega arith))
