-- Counts and single cells, and cells that are clear.
use Prim.Native.Nat.{ℕ, zero, suc, ◌+◌, ◌≤◌}
use mathlib.Core.Path.{◌≡◌, refl, ap}
use mathlib.Core.List.{[], ◌∷◌}
use mathlib.Core.Bool.{Bool, true, false}
use native.Mathlib.Omega.{arith}
use borrow.Author.Tests.{eqb-true, eqb-false}
use lib.ListN.{length, take, get_or}
use lib.Dec.{eqb}
use Rattle.desk_crosspoints.specs.Crosspoints.{Cells, bit, count, clear}
use Rattle.desk_crosspoints.proofs.Laws.{bit-set, bit-clear}
use Rattle.desk_crosspoints.proofs.Under.{Under}

pub bit-zero : (x : ℕ) → bit x ≤ 0 → x ≡ 0
bit-zero x h = go (eqb x 0) refl
  where
    go : (u : Bool) → eqb x 0 ≡ u → x ≡ 0
    go true e = eqb-true x 0 e
    go false e = absurd (omega (arith, h, bit-set x (eqb-false x 0 e)))

pub bit-one : (x : ℕ) → x ≡ 1 → bit x ≡ 1
bit-one x h = bit-set x (λ z. omega (arith, h, z))

pub count-one : (l : Cells) (i : ℕ) → bit (get_or l i 0) ≤ count l
unfolding count
count-one [] i = omega (arith, bit-clear 0 refl)
count-one (x ∷ xs) zero = omega arith
count-one (x ∷ xs) (suc i) = omega (arith, count-one xs i)

pub count-two : (l : Cells) (i j : ℕ) → (i ≡ j → ⊥) → bit (get_or l i 0) + bit (get_or l j 0) ≤ count l
unfolding count
count-two [] i j h = omega (arith, bit-clear 0 refl)
count-two (x ∷ xs) zero zero h = absurd (h refl)
count-two (x ∷ xs) zero (suc j) h = omega (arith, count-one xs j)
count-two (x ∷ xs) (suc i) zero h = omega (arith, count-one xs i)
count-two (x ∷ xs) (suc i) (suc j) h = omega (arith, count-two xs i j (λ e. h (ap suc e)))

pub count_none : (l b : Cells) → count l ≤ 0 → Under l b
count_none l b h i = omega (arith, bit-zero (get_or l i 0) (omega (arith, h, count-one l i)))

pub clear-cell : (n i : ℕ) → get_or (clear n) i 0 ≡ 0
unfolding clear
clear-cell zero i = refl
clear-cell (suc n) zero = refl
clear-cell (suc n) (suc i) = clear-cell n i

pub clear-length : (n : ℕ) → length (clear n) ≡ n
unfolding clear
clear-length zero = refl
clear-length (suc n) = ap suc (clear-length n)

pub clear-count : (n : ℕ) → count (clear n) ≡ 0
unfolding clear count
clear-count zero = refl
clear-count (suc n) = omega (arith, bit-clear 0 refl, clear-count n)

pub clear-take : (k n : ℕ) → k ≤ n → take k (clear n) ≡ clear k
unfolding clear
clear-take zero n h = refl
clear-take (suc k) zero h = absurd (omega (arith, h))
clear-take (suc k) (suc n) h = ap (λ (l : Cells). 0 ∷ l) (clear-take k n (omega (arith, h)))
