-- Cells compared one by one: counts, rows and sources of crosspoints that are set only where others are.
use Prim.Native.Nat.{ℕ, zero, suc, ◌+◌, ◌-◌, ◌*◌, ◌≤◌, ◌<◌}
use mathlib.Core.Path.{◌≡◌, refl, sym, ap, subst, ◌∙◌}
use mathlib.Core.List.{[], ◌∷◌, ◌++◌}
use mathlib.Core.Bool.{Bool, true, false, true≢false}
use mathlib.Core.Logic.{⊎_elim}
use native.Mathlib.Omega.{arith}
use borrow.Author.Tests.{leb-true, eqb-true, eqb-false, le-leb}
use lib.ListN.{length, take, drop, get_or, get_or-eq_default, get_or-append, length-drop, length-append}
use lib.Seq.{get_or-take, get_or-drop, get_or-append-add, length-take-le}
use lib.Dec.{leb, eqb}
use Rattle.base_choices.specs.Choices.{pick}
use Rattle.base_choices.proofs.Laws.{both_left, both_right}
use Rattle.ber_integers.proofs.Radix.{lt-or-le}
use Rattle.desk_crosspoints.specs.Figures.{side, most_cells}
use Rattle.desk_crosspoints.specs.Crosspoints.{Cells, bit, count, all_bits, row_at, with_row, holders, rows_fit, sources_fit}
use Rattle.desk_crosspoints.proofs.Laws.{bit_le, bit-set, bit-clear}

-- a's cells are set only where b's are
abbrev pub Under : Cells → Cells → Type 0
Under a b = (i : ℕ) → get_or a i 0 ≤ get_or b i 0

pub bit-mono : (x y : ℕ) → x ≤ y → bit x ≤ bit y
bit-mono x y h = go (eqb x 0) refl
  where
    go : (u : Bool) → eqb x 0 ≡ u → bit x ≤ bit y
    go true e = omega (arith, bit-clear x (eqb-true x 0 e))
    go false e = omega (arith, bit_le x, bit-set y (λ z. eqb-false x 0 e (omega (arith, h, z))))

pub under-count : (a b : Cells) → Under a b → count a ≤ count b
unfolding count
under-count [] b h = omega arith
under-count (x ∷ xs) [] h = omega (arith, bit-mono x 0 (h 0), bit-clear 0 refl, under-count xs [] (λ i. h (suc i)))
under-count (x ∷ xs) (y ∷ ys) h = omega (arith, bit-mono x y (h 0), under-count xs ys (λ i. h (suc i)))

pub under_drop : (n : ℕ) (a b : Cells) → Under a b → Under (drop n a) (drop n b)
under_drop n a b h i = omega (arith, get_or-drop n a i 0, get_or-drop n b i 0, h (n + i))

-- a cell of a target
pub take_short : (n : ℕ) (l : Cells) → length (take n l) ≤ n
take_short zero l = omega arith
take_short (suc n) [] = omega arith
take_short (suc n) (x ∷ xs) = omega (arith, take_short n xs)

module _ (w : ℕ) (cells : Cells) (t : ℕ) where
  pub row-cell : (i : ℕ) → i < w → get_or (row_at w cells t) i 0 ≡ get_or cells (t * w + i) 0
  unfolding row_at
  row-cell i h = get_or-take w (drop (t * w) cells) i 0 h ∙ get_or-drop (t * w) cells i 0

  pub row-past : (i : ℕ) → w ≤ i → get_or (row_at w cells t) i 0 ≡ 0
  unfolding row_at
  row-past i h = get_or-eq_default (take w (drop (t * w) cells)) 0 {n = i} (omega (arith, h, take_short w (drop (t * w) cells)))

  pub row-length : t * w + w ≤ length cells → length (row_at w cells t) ≡ w
  unfolding row_at
  row-length h = length-take-le w (drop (t * w) cells) (omega (arith, h, length-drop (t * w) cells))

  -- a row whose cells are no more than those of a list
  pub row_under : (b : Cells) → ((i : ℕ) → i < w → get_or cells (t * w + i) 0 ≤ get_or b i 0) → Under (row_at w cells t) b
  row_under b h i =
      ⊎_elim (λ (k : i < w). omega (arith, row-cell i k, h i k)) (λ (k : w ≤ i). omega (arith, row-past i k)) (lt-or-le i w)

-- a cell of crosspoints with other cells for a target
module _ (w : ℕ) (cells : Cells) (t : ℕ) (new : Cells) (h : t * w + w ≤ length cells) (n : length new ≡ w) where
  front : length (take (t * w) cells) ≡ t * w
  front = length-take-le (t * w) cells (omega (arith, h))

  pub with-length : length (with_row w cells t new) ≡ length cells
  unfolding with_row
  with-length =
      omega (
        arith,
        length-append (take (t * w) cells) (new ++ drop (t * w + w) cells),
        length-append new (drop (t * w + w) cells),
        front,
        n,
        length-drop (t * w + w) cells,
        h,
      )

  pub with-before : (i : ℕ) → i < t * w → get_or (with_row w cells t new) i 0 ≡ get_or cells i 0
  unfolding with_row
  with-before i k =
      get_or-append (take (t * w) cells) (new ++ drop (t * w + w) cells) 0 i (omega (arith, front, k)) ∙ get_or-take (t * w) cells i 0 k

  pub with-inside : (i : ℕ) → i < w → get_or (with_row w cells t new) (t * w + i) 0 ≡ get_or new i 0
  unfolding with_row
  with-inside i k =
      ap (λ (m : ℕ). get_or (take (t * w) cells ++ (new ++ drop (t * w + w) cells)) (m + i) 0) (sym front)
      ∙ get_or-append-add (take (t * w) cells) (new ++ drop (t * w + w) cells) i 0
      ∙ get_or-append new (drop (t * w + w) cells) 0 i (omega (arith, n, k))

  pub with-after : (i : ℕ) → t * w + w ≤ i → get_or (with_row w cells t new) i 0 ≡ get_or cells i 0
  unfolding with_row
  with-after i k =
      let j : i ≡ length (take (t * w) cells) + (length new + (i - (t * w + w))) = omega (arith, front, n, k) in
      let m : t * w + w + (i - (t * w + w)) ≡ i = omega (arith, k) in
      ap (λ (x : ℕ). get_or (take (t * w) cells ++ (new ++ drop (t * w + w) cells)) x 0) j
      ∙ get_or-append-add (take (t * w) cells) (new ++ drop (t * w + w) cells) (length new + (i - (t * w + w))) 0
      ∙ get_or-append-add new (drop (t * w + w) cells) (i - (t * w + w)) 0
      ∙ get_or-drop (t * w + w) cells (i - (t * w + w)) 0
      ∙ ap (λ (x : ℕ). get_or cells x 0) m

  -- what holds of each cell, from what holds of the cells left and of the new ones
  pub with_each : (P : ℕ → ℕ → Type 0) → ((i : ℕ) → P i (get_or cells i 0)) → ((i : ℕ) → i < w → P (t * w + i) (get_or new i 0))
      → (i : ℕ) → P i (get_or (with_row w cells t new) i 0)
  with_each P old fresh i =
      ⊎_elim (λ (k : i < t * w). subst (P i) (sym (with-before i k)) (old i))
      (λ (k : t * w ≤ i).
      ⊎_elim (λ (q : i < t * w + w).
      let j : t * w + (i - t * w) ≡ i = omega (arith, k) in
      let l : i - t * w < w = omega (arith, k, q) in
      subst (λ (x : ℕ). P x (get_or (with_row w cells t new) x 0)) j
      (subst (P (t * w + (i - t * w))) (sym (with-inside (i - t * w) l)) (fresh (i - t * w) l)))
      (λ (q : t * w + w ≤ i). subst (P i) (sym (with-after i q)) (old i)) (lt-or-le i (t * w + w)))
      (lt-or-le i (t * w))

pub rows_apart : (a t w : ℕ) → a < t → a * w + w ≤ t * w
rows_apart zero zero w h = absurd (omega (arith, h))
rows_apart zero (suc t) w h = omega arith
rows_apart (suc a) zero w h = absurd (omega (arith, h))
rows_apart (suc a) (suc t) w h = omega (arith, rows_apart a t w (omega (arith, h)))

pub rows-le : (a b w : ℕ) → a ≤ b → a * w ≤ b * w
rows-le zero b w h = omega arith
rows-le (suc a) zero w h = absurd (omega (arith, h))
rows-le (suc a) (suc b) w h = omega (arith, rows-le a b w (omega (arith, h)))

pub size_small : (a b : ℕ) → a ≤ side → b ≤ side → a * b ≤ most_cells
size_small a b h k = omega (arith, rows-le a side b h, k)

-- each test over all cells, rows or sources, to and from its cells, rows or sources
pub bits-tell : (l : Cells) → all_bits l ≡ true → (i : ℕ) → get_or l i 0 ≤ 1
unfolding all_bits
bits-tell [] h i = omega arith
bits-tell (x ∷ xs) h i = go (leb x 1) refl h (λ k. bits-tell xs k) i
  where
    go : (u : Bool) → leb x 1 ≡ u → pick u (all_bits xs) false ≡ true → (all_bits xs ≡ true → (i : ℕ) → get_or xs i 0 ≤ 1)
        → (i : ℕ) → get_or (x ∷ xs) i 0 ≤ 1
    go true e k r zero = leb-true x 1 e
    go true e k r (suc i) = r k i
    go false e k r i = absurd (true≢false (sym k))

pub bits-from : (l : Cells) → ((i : ℕ) → get_or l i 0 ≤ 1) → all_bits l ≡ true
unfolding all_bits
bits-from [] h = refl
bits-from (x ∷ xs) h = simp (le-leb x 1 (h 0)) (bits-from xs (λ i. h (suc i)))

module _ (w most : ℕ) (cells : Cells) where
  pub rows_tell : (n : ℕ) → rows_fit w most cells n ≡ true → (t : ℕ) → t < n → count (row_at w cells t) ≤ most
  unfolding rows_fit
  rows_tell zero h t k = absurd (omega (arith, k))
  rows_tell (suc n) h t k =
      let a = leb (count (row_at w cells n)) most in
      ⊎_elim (λ (l : t < n). rows_tell n (both_right a (rows_fit w most cells n) h) t l)
      (λ (l : n ≤ t).
      let e : n ≡ t = omega (arith, k, l) in
      subst (λ (x : ℕ). count (row_at w cells x) ≤ most) e
      (leb-true (count (row_at w cells n)) most (both_left a (rows_fit w most cells n) h)))
      (lt-or-le t n)

  pub rows-from : (n : ℕ) → ((t : ℕ) → t < n → count (row_at w cells t) ≤ most) → rows_fit w most cells n ≡ true
  unfolding rows_fit
  rows-from zero h = refl
  rows-from (suc n) h = rw (le-leb _ _ (h n (omega arith))) (rows-from n (λ t k. h t (omega (arith, k))))

module _ (w t : ℕ) (cells : Cells) where
  pub sources-tell : (n : ℕ) → sources_fit w t cells n ≡ true → (s : ℕ) → s < n → holders w cells s t ≤ 1
  unfolding sources_fit
  sources-tell zero h s k = absurd (omega (arith, k))
  sources-tell (suc n) h s k =
      let a = leb (holders w cells n t) 1 in
      ⊎_elim (λ (l : s < n). sources-tell n (both_right a (sources_fit w t cells n) h) s l)
      (λ (l : n ≤ s).
      let e : n ≡ s = omega (arith, k, l) in
      subst (λ (x : ℕ). holders w cells x t ≤ 1) e
      (leb-true (holders w cells n t) 1 (both_left a (sources_fit w t cells n) h)))
      (lt-or-le s n)

  pub sources-from : (n : ℕ) → ((s : ℕ) → s < n → holders w cells s t ≤ 1) → sources_fit w t cells n ≡ true
  unfolding sources_fit
  sources-from zero h = refl
  sources-from (suc n) h = rw (le-leb (holders w cells n t) 1 (h n (omega arith))) (sources-from n (λ s k. h s (omega (arith, k))))

module _ (w : ℕ) (cells : Cells) where
  -- a source's targets, no more than in other crosspoints
  pub holders-under : (b : Cells) (s n : ℕ) → ((t : ℕ) → t < n → get_or cells (t * w + s) 0 ≤ get_or b (t * w + s) 0)
      → holders w cells s n ≤ holders w b s n
  unfolding holders
  holders-under b s zero h = omega arith
  holders-under b s (suc n) h =
      omega (arith, bit-mono (get_or cells (n * w + s) 0) (get_or b (n * w + s) 0) (h n (omega arith)), holders-under b s n (λ t k. h t (omega (arith, k))))

  -- no target has the source
  pub holders-none : (s n : ℕ) → ((t : ℕ) → t < n → get_or cells (t * w + s) 0 ≡ 0) → holders w cells s n ≡ 0
  unfolding holders
  holders-none s zero h = refl
  holders-none s (suc n) h =
      omega (arith, bit-clear (get_or cells (n * w + s) 0) (h n (omega arith)), holders-none s n (λ t k. h t (omega (arith, k))))

  -- none but one target has the source
  pub holders-one : (s a n : ℕ) → ((t : ℕ) → t < n → (t ≡ a → ⊥) → get_or cells (t * w + s) 0 ≡ 0) → holders w cells s n ≤ 1
  unfolding holders
  holders-one s a zero h = omega arith
  holders-one s a (suc n) h = go (eqb n a) refl (holders-one s a n (λ t k. h t (omega (arith, k))))
    where
      go : (u : Bool) → eqb n a ≡ u → holders w cells s n ≤ 1 → bit (get_or cells (n * w + s) 0) + holders w cells s n ≤ 1
      go true e r =
          let q : n ≡ a = eqb-true n a e in
          omega (arith, bit_le (get_or cells (n * w + s) 0), holders-none s n (λ t k. h t (omega (arith, k)) (λ z. omega (arith, k, q, z))))
      go false e r = omega (arith, r, bit-clear (get_or cells (n * w + s) 0) (h n (omega arith) (eqb-false n a e)))
