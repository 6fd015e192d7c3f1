-- Tests that hold together.
use Prim.Native.Nat.{ℕ, zero, suc, ◌+◌}
use mathlib.Core.Path.{◌≡◌, ap, ◌∙◌}
use mathlib.Core.List.{List, [], ◌∷◌}
use mathlib.Core.Bool.{Bool, true, false}
use native.Mathlib.Omega.{arith}
use lib.ListN.{get_or}
use Rattle.base_choices.specs.Choices.{both}
use Rattle.base_choices.proofs.Laws.{both_left, both_right}

pub never : {A : Type 0} → false ≡ true → A
never e = let z : ◌≡◌ {A = ℕ} 0 1 = cc in absurd (omega arith)

-- a test that holds at every place of a list, from the place i on
abbrev pub all_from : (ℕ → ℕ → Bool) → ℕ → List ℕ → Bool
all_from P i [] = true
all_from P i (x ∷ xs) = both (P i x) (all_from P (suc i) xs)

all-from : (P : ℕ → ℕ → Bool) → ((n : ℕ) → P n 0 ≡ true) → (i : ℕ) (l : List ℕ) (n : ℕ) → all_from P i l ≡ true → P (i + n) (get_or l n 0) ≡ true
all-from P z i [] n e = z (i + n)
all-from P z i (x ∷ xs) zero e =
    let q : i + 0 ≡ i = omega arith in
    ap (λ (m : ℕ). P m x) q ∙ both_left (P i x) (all_from P (suc i) xs) e
all-from P z i (x ∷ xs) (suc n) e =
    let q : i + suc n ≡ suc i + n = omega arith in
    ap (λ (m : ℕ). P m (get_or xs n 0)) q ∙ all-from P z (suc i) xs n (both_right (P i x) (all_from P (suc i) xs) e)

pub all-at : (P : ℕ → ℕ → Bool) → ((n : ℕ) → P n 0 ≡ true) → (l : List ℕ) (n : ℕ) → all_from P 0 l ≡ true → P n (get_or l n 0) ≡ true
all-at P z l n e =
    let q : n ≡ 0 + n = omega arith in
    ap (λ (m : ℕ). P m (get_or l n 0)) q ∙ all-from P z 0 l n e
