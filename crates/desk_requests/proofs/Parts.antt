-- A request's parts: what a source taken from every target leaves, a target's cells exchanged, and their count.
use Prim.Native.Nat.{ℕ, ◌+◌, ◌-◌, ◌*◌, ◌≤◌, ◌<◌}
use mathlib.Core.Path.{◌≡◌, refl, sym, ap, ◌∙◌}
use mathlib.Core.List.{List, [], ◌∷◌, ◌++◌}
use mathlib.Core.Bool.{Bool, true, false, true≢false}
use native.Mathlib.Omega.{arith}
use borrow.Author.Tests.{lt-ltb, le-ltb, ne_eqb, ltb-true}
use lib.ListN.{length, take, drop, get_or, take-append-drop}
use lib.Seq.{drop-drop}
use lib.Dec.{ltb}
use Rattle.base_choices.specs.Choices.{pick}
use Rattle.desk_crosspoints.specs.declared.Figures.{Figures}
use Rattle.desk_crosspoints.specs.Crosspoints.{Cells, count, row_at, with_row, taken_from}
use Rattle.desk_crosspoints.proofs.Laws.{count-le, count-append}
use Rattle.desk_requests.specs.Request.{named, all_below, takes, others}

module _ (f : Figures) (l : List ℕ) (operation : ℕ) (cells : Cells) where
  pub others-kind : (f.kind ≡ 1 → ⊥) → others f l operation cells ≡ cells
  unfolding others takes
  others-kind h = simp (ne_eqb _ _ h)

  pub others-less : f.kind ≡ 1 → 2 ≤ operation → others f l operation cells ≡ cells
  unfolding others takes
  others-less h k = rw (h, le-ltb _ _ k)

  pub others-none : (n : ℕ) → f.kind ≡ 1 → operation < 2 → count (named f.sources l) ≡ n → (n ≡ 1 → ⊥) → others f l operation cells ≡ cells
  unfolding others takes
  others-none n h k e d = rw (h, lt-ltb _ _ k, e, ne_eqb _ _ d)

  pub others-take : (n s : ℕ) → f.kind ≡ 1 → operation < 2 → count (named f.sources l) ≡ n → n ≡ 1 → get_or l 0 0 ≡ s
      → others f l operation cells ≡ taken_from f.sources cells s f.targets
  unfolding others takes
  others-take n s h k e d g = rw (h, lt-ltb _ _ k, e, d, g)

pub first_below : (w n : ℕ) (l : List ℕ) (s : ℕ) → n ≤ w → 1 ≤ w → all_below n l ≡ true → get_or l 0 0 ≡ s → s + 1 ≤ w
unfolding all_below
first_below w n [] s a b h g = omega (arith, a, b, g)
first_below w n (x ∷ xs) s a b h g = go (ltb x n) refl h
  where
    go : (u : Bool) → ltb x n ≡ u → pick u (all_below n xs) false ≡ true → s + 1 ≤ w
    go true e k = omega (arith, a, ltb-true x n e, g)
    go false e k = absurd (true≢false (sym k))

pub with-row : (w : ℕ) (cells : Cells) (t : ℕ) (new : Cells) (a e : ℕ) → a ≡ t * w → e ≡ t * w + w
    → take a cells ++ (new ++ drop e cells) ≡ with_row w cells t new
unfolding with_row
with-row w cells t new a e p q = rw (p, q)

pub row_put : (w : ℕ) (cells : Cells) (t : ℕ) (last new : Cells) (a e : ℕ) → last ≡ new → a ≡ t * w → e ≡ t * w + w
    → take a cells ++ (last ++ drop (e - a) (drop a cells)) ≡ with_row w cells t new
row_put w cells t last new a e h p q =
    let d : a + (e - a) ≡ e = omega (arith, p, q) in
    ap (λ (x : Cells). take a cells ++ (last ++ x)) (drop-drop (e - a) a cells ∙ ap (λ (k : ℕ). drop k cells) d)
    ∙ with-row w cells t last a e p q ∙ ap (with_row w cells t) h

-- a target's cells exchanged for themselves
pub row_same : (w : ℕ) (cells : Cells) (t : ℕ) → with_row w cells t (row_at w cells t) ≡ cells
unfolding with_row row_at
row_same w cells t =
    ap (λ (x : Cells). take (t * w) cells ++ (take w (drop (t * w) cells) ++ x)) (sym (drop-drop w (t * w) cells))
    ∙ ap (λ (x : Cells). take (t * w) cells ++ x) (take-append-drop w (drop (t * w) cells)) ∙ take-append-drop (t * w) cells

pub count-row : (w : ℕ) (cells : Cells) (t : ℕ) (new : Cells)
    → count (with_row w cells t new) ≡ count (take (t * w) cells) + (count new + count (drop (t * w + w) cells))
unfolding with_row
count-row w cells t new =
    count-append (take (t * w) cells) (new ++ drop (t * w + w) cells)
    ∙ ap (λ (n : ℕ). count (take (t * w) cells) + n) (count-append new (drop (t * w + w) cells))

-- the total after: the total before, less the target's cells, and its new ones
module _ (w : ℕ) (cells : Cells) (t : ℕ) (old : Cells) (total before : ℕ) (h : old ≡ row_at w cells t) (i : count cells ≡ total) (j : count old ≡ before)
  where
    total-parts : total ≡ count (take (t * w) cells) + (before + count (drop (t * w + w) cells))
    total-parts =
        sym i ∙ ap count (sym (row_same w cells t)) ∙ count-row w cells t (row_at w cells t)
        ∙ ap (λ (n : ℕ). count (take (t * w) cells) + (n + count (drop (t * w + w) cells))) (ap count (sym h) ∙ j)

    pub total-after : (new : Cells) (after : ℕ) → count new ≡ after → count (with_row w cells t new) ≡ total - before + after
    total-after new after k = omega (arith, total-parts, count-row w cells t new, k)

-- no more cells are set than there are
pub all_under : (cells : Cells) (n x : ℕ) → length cells ≡ n → count cells ≡ x → x ≤ n
all_under cells n x h e = omega (arith, h, sym e, count-le cells)
