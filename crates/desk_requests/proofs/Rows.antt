-- A target's cells after a request, and crosspoints from which a source was taken.
use Prim.Native.Nat.{ℕ, zero, suc, ◌+◌, ◌*◌, ◌≤◌, ◌<◌}
use mathlib.Core.Path.{◌≡◌, refl, sym, subst, ◌∙◌}
use mathlib.Core.List.{List, [], ◌∷◌}
use mathlib.Core.Bool.{Bool, true, false, true≢false}
use mathlib.Core.Logic.{⊎_elim}
use native.Mathlib.Omega.{arith}
use borrow.Author.Tests.{ltb-true}
use lib.ListN.{length, get_or, set, length-set}
use lib.Seq.{get_or-set_same}
use lib.Dec.{ltb}
use Rattle.base_choices.specs.Choices.{pick}
use Rattle.ber_integers.proofs.Radix.{lt-or-le}
use Rattle.desk_crosspoints.specs.Crosspoints.{Cells, count, clear, taken_from}
use Rattle.desk_crosspoints.proofs.Under.{Under}
use Rattle.desk_crosspoints.proofs.Counts.{bit-zero, bit-one, count-one, count-two, clear-cell, clear-length, clear-count}
use Rattle.desk_requests.specs.Request.{marked, named, all_below}

-- one cell set
pub set-under : (l : Cells) (i : ℕ) → Under (set l i 0) l
set-under [] i j = omega arith
set-under (x ∷ xs) zero zero = omega arith
set-under (x ∷ xs) zero (suc j) = omega arith
set-under (x ∷ xs) (suc i) zero = omega arith
set-under (x ∷ xs) (suc i) (suc j) = set-under xs i j

pub set-zero : (l : Cells) (i : ℕ) → get_or (set l i 0) i 0 ≡ 0
set-zero [] i = refl
set-zero (x ∷ xs) zero = refl
set-zero (x ∷ xs) (suc i) = set-zero xs i

pub set-bits : (l : Cells) (i v : ℕ) → v ≤ 1 → ((j : ℕ) → get_or l j 0 ≤ 1) → (j : ℕ) → get_or (set l i v) j 0 ≤ 1
set-bits [] i v k h j = omega arith
set-bits (x ∷ xs) zero v k h zero = k
set-bits (x ∷ xs) zero v k h (suc j) = h (suc j)
set-bits (x ∷ xs) (suc i) v k h zero = h 0
set-bits (x ∷ xs) (suc i) v k h (suc j) = set-bits xs i v k (λ m. h (suc m)) j

pub set-stays : (l : Cells) (i j : ℕ) → get_or l j 0 ≡ 1 → get_or (set l i 1) j 0 ≡ 1
set-stays [] i j h = h
set-stays (x ∷ xs) zero zero h = refl
set-stays (x ∷ xs) zero (suc j) h = h
set-stays (x ∷ xs) (suc i) zero h = h
set-stays (x ∷ xs) (suc i) (suc j) h = set-stays xs i j h

-- a source taken from the first n targets
module _ (w s : ℕ) where
  pub taken-length : (n : ℕ) (cells : Cells) → length (taken_from w cells s n) ≡ length cells
  unfolding taken_from
  taken-length zero cells = refl
  taken-length (suc n) cells = taken-length n (set cells (n * w + s) 0) ∙ length-set cells (n * w + s) 0

  pub taken-under : (n : ℕ) (cells : Cells) → Under (taken_from w cells s n) cells
  unfolding taken_from
  taken-under zero cells i = omega arith
  taken-under (suc n) cells i = omega (arith, taken-under n (set cells (n * w + s) 0) i, set-under cells (n * w + s) i)

  pub taken-cell : (n : ℕ) (cells : Cells) (t : ℕ) → t < n → get_or (taken_from w cells s n) (t * w + s) 0 ≡ 0
  unfolding taken_from
  taken-cell zero cells t h = absurd (omega (arith, h))
  taken-cell (suc n) cells t h =
      ⊎_elim (λ (k : t < n). taken-cell n (set cells (n * w + s) 0) t k)
      (λ (k : n ≤ t).
      let e : n ≡ t = omega (arith, h, k) in
      subst (λ (x : ℕ). get_or (taken_from w (set cells (n * w + s) 0) s n) (x * w + s) 0 ≡ 0) e
      (omega (arith, taken-under n (set cells (n * w + s) 0) (n * w + s), set-zero cells (n * w + s))))
      (lt-or-le t n)

-- sources marked
pub marked-length : (v : ℕ) (l : List ℕ) (r : Cells) → length (marked v r l) ≡ length r
unfolding marked
marked-length v [] r = refl
marked-length v (s ∷ ss) r = marked-length v ss (set r s v) ∙ length-set r s v

pub marked-under : (l : List ℕ) (r : Cells) → Under (marked 0 r l) r
unfolding marked
marked-under [] r i = omega arith
marked-under (s ∷ ss) r i = omega (arith, marked-under ss (set r s 0) i, set-under r s i)

pub marked-bits : (v : ℕ) (l : List ℕ) (r : Cells) → v ≤ 1 → ((j : ℕ) → get_or r j 0 ≤ 1) → (j : ℕ) → get_or (marked v r l) j 0 ≤ 1
unfolding marked
marked-bits v [] r k h j = h j
marked-bits v (s ∷ ss) r k h j = marked-bits v ss (set r s v) k (set-bits r s v k h) j

pub marked-stays : (l : List ℕ) (r : Cells) (j : ℕ) → get_or r j 0 ≡ 1 → get_or (marked 1 r l) j 0 ≡ 1
unfolding marked
marked-stays [] r j h = h
marked-stays (s ∷ ss) r j h = marked-stays ss (set r s 1) j (set-stays r s j h)

module _ (n s : ℕ) (ss : List ℕ) (h : all_below n (s ∷ ss) ≡ true) where
  pub below-first : s < n
  unfolding all_below
  below-first = go (ltb s n) refl h
    where
      go : (u : Bool) → ltb s n ≡ u → pick u (all_below n ss) false ≡ true → s < n
      go true e k = ltb-true s n e
      go false e k = absurd (true≢false (sym k))

  pub below-later : all_below n ss ≡ true
  unfolding all_below
  below-later = go (ltb s n) h
    where
      go : (u : Bool) → pick u (all_below n ss) false ≡ true → all_below n ss ≡ true
      go true k = k
      go false k = absurd (true≢false (sym k))

-- the list as cells
pub named-length : (w : ℕ) (l : List ℕ) → length (named w l) ≡ w
unfolding named
named-length w l = marked-length 1 l (clear w) ∙ clear-length w

pub named-bits : (w : ℕ) (l : List ℕ) (j : ℕ) → get_or (named w l) j 0 ≤ 1
unfolding named
named-bits w l j = marked-bits 1 l (clear w) (omega arith) (λ i. omega (arith, clear-cell w i)) j

pub named-first : (w n s : ℕ) (ss : List ℕ) → n ≤ w → all_below n (s ∷ ss) ≡ true → get_or (named w (s ∷ ss)) s 0 ≡ 1
unfolding named marked
named-first w n s ss k h =
    marked-stays ss (set (clear w) s 1) s (get_or-set_same (clear w) s 1 0 (omega (arith, clear-length w, below-first n s ss h, k)))

-- no cell is set: nothing is named
pub named_none : (w n : ℕ) (l : List ℕ) → n ≤ w → all_below n l ≡ true → count (named w l) ≤ 0 → l ≡ []
named_none w n [] k h c = refl
named_none w n (s ∷ ss) k h c =
    absurd (omega (arith, c, count-one (named w (s ∷ ss)) s, bit-one (get_or (named w (s ∷ ss)) s 0) (named-first w n s ss k h)))

-- one cell is set: that of the first source named
pub named_other : (w n : ℕ) (l : List ℕ) → n ≤ w → all_below n l ≡ true → count (named w l) ≡ 1
    → (s : ℕ) → (get_or l 0 0 ≡ s → ⊥) → get_or (named w l) s 0 ≡ 0
unfolding named marked
named_other w n [] k h c s d = clear-cell w s
named_other w n (x ∷ xs) k h c s d =
    bit-zero (get_or (named w (x ∷ xs)) s 0)
    (omega (arith, c, count-two (named w (x ∷ xs)) x s d, bit-one (get_or (named w (x ∷ xs)) x 0) (named-first w n x xs k h)))

pub named-one : (w n : ℕ) (l : List ℕ) → n ≤ w → all_below n l ≡ true → count (named w l) ≡ 1 → get_or (named w l) (get_or l 0 0) 0 ≡ 1
unfolding named marked
named-one w n [] k h c = absurd (omega (arith, c, clear-count w))
named-one w n (x ∷ xs) k h c = named-first w n x xs k h
