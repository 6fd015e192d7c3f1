-- One law for each answer of the definitions, at plain variables.
use Prim.Native.Nat.{ℕ, zero, suc, ◌+◌, ◌*◌, ◌≤◌, ◌<◌}
use mathlib.Core.Path.{◌≡◌, refl, sym, ap, ◌∙◌}
use mathlib.Core.List.{List, [], ◌∷◌}
use mathlib.Core.Bool.{Bool, true, false, true≢false}
use mathlib.Core.Logic.{◌↔◌}
use native.Mathlib.Omega.{arith}
use borrow.Author.Tests.{lt-ltb, le-ltb, ltb-true, ne_eqb}
use lib.ListN.{length, drop, get_or, set}
use lib.Dec.{ltb, eqb}
use Rattle.desk_crosspoints.specs.declared.Figures.{Figures}
use Rattle.base_choices.specs.Choices.{pick, both}
use Rattle.desk_crosspoints.specs.Crosspoints.{Cells, count, clear, taken_from}
use Rattle.desk_crosspoints.proofs.Laws.{part_none, part-one, both-no, both_yes}
use Rattle.desk_requests.specs.Request.{marked, named, all_below, replaces, becomes}

-- loops over a list
below-tell : (n : ℕ) (l : List ℕ) → all_below n l ≡ true → (k : ℕ) → k < length l → get_or l k 0 < n
unfolding all_below
below-tell n [] h k q = absurd (omega (arith, q))
below-tell n (s ∷ ss) h k q = go (ltb s n) refl h (λ (e : all_below n ss ≡ true) (j : ℕ) (r : j < length ss). below-tell n ss e j r) k q
  where
    go : (u : Bool) → ltb s n ≡ u → pick u (all_below n ss) false ≡ true
        → (all_below n ss ≡ true → (j : ℕ) → j < length ss → get_or ss j 0 < n) → (k : ℕ) → k < length (s ∷ ss) → get_or (s ∷ ss) k 0 < n
    go true e r f zero q = ltb-true s n e
    go true e r f (suc j) q = f r j (omega (arith, q))
    go false e r f k q = absurd (true≢false (sym r))

below-from : (n : ℕ) (l : List ℕ) → ((k : ℕ) → k < length l → get_or l k 0 < n) → all_below n l ≡ true
unfolding all_below
below-from n [] h = refl
below-from n (s ∷ ss) h = simp (lt-ltb s n (h 0 (omega arith))) (below-from n ss (λ k q. h (suc k) (omega (arith, q))))

-- every source is below n: by its test, and at each place
pub below-is : (n : ℕ) (l : List ℕ) (b : Bool) → (b ≡ true ↔ ((k : ℕ) → k < length l → get_or l k 0 < n)) → all_below n l ≡ b
below-is n l true h = below-from n l (h.0 refl)
below-is n l false h = go (all_below n l) refl
  where
    go : (u : Bool) → all_below n l ≡ u → all_below n l ≡ false
    go true e = absurd (true≢false (sym (h.1 (below-tell n l e))))
    go false e = e

pub marked-end : (v : ℕ) (r : Cells) (l : List ℕ) (i : ℕ) → length l ≤ i → marked v r (drop i l) ≡ r
unfolding marked
marked-end v r l i h = rw (part_none l i h)

pub marked_more : (v : ℕ) (r r' : Cells) (l : List ℕ) (i : ℕ) → i < length l → r' ≡ set r (get_or l i 0) v
    → marked v r (drop i l) ≡ marked v r' (drop (i + 1) l)
unfolding marked
marked_more v r r' l i h e = rw (part-one l i h, e)

-- 0 at two places, in either order
set-swap : (l : Cells) (i j : ℕ) → set (set l i 0) j 0 ≡ set (set l j 0) i 0
set-swap [] i j = refl
set-swap (x ∷ xs) zero zero = refl
set-swap (x ∷ xs) zero (suc j) = refl
set-swap (x ∷ xs) (suc i) zero = refl
set-swap (x ∷ xs) (suc i) (suc j) = ap (λ (l : Cells). x ∷ l) (set-swap xs i j)

module _ (w : ℕ) (s : ℕ) where
  pub taken_none : (cells : Cells) → cells ≡ taken_from w cells s 0
  unfolding taken_from
  taken_none cells = refl

  taken-set : (cells : Cells) (i t : ℕ) → taken_from w (set cells i 0) s t ≡ set (taken_from w cells s t) i 0
  unfolding taken_from
  taken-set cells i zero = refl
  taken-set cells i (suc t) = ap (λ (l : Cells). taken_from w l s t) (set-swap cells i (t * w + s)) ∙ taken-set (set cells (t * w + s) 0) i t

  taken-one : (cells : Cells) (t : ℕ) → taken_from w (set cells (t * w + s) 0) s t ≡ taken_from w cells s (t + 1)
  unfolding taken_from
  taken-one cells t = let d : t + 1 ≡ suc t = omega arith in rw d refl

  -- the source taken from one target more
  pub taken_more : (cells now : Cells) (t i : ℕ) → now ≡ taken_from w cells s t → i ≡ t * w + s → set now i 0 ≡ taken_from w cells s (t + 1)
  taken_more cells now t i e q =
      ap (λ (l : Cells). set l i 0) e ∙ ap (λ (k : ℕ). set (taken_from w cells s t) k 0) q ∙ sym (taken-set cells (t * w + s) t) ∙ taken-one cells t

pub replaces-not : (k n : ℕ) → 2 ≤ k → both (ltb k 2) (eqb n 1) ≡ false
replaces-not k n h = both-no _ _ (le-ltb _ _ h)

pub replaces-if : (k n : ℕ) → k < 2 → both (ltb k 2) (eqb n 1) ≡ eqb n 1
replaces-if k n h = both_yes _ _ (lt-ltb _ _ h)

pub listed : (n : ℕ) (before after : Cells) (l : List ℕ) (r : Cells) → length before ≡ n
    → after ≡ clear (length before) → r ≡ marked 1 after l → r ≡ named n l
unfolding named
listed n before after l r k a e = e ∙ ap (λ (x : Cells). marked 1 x l) (a ∙ ap clear k)

module _ (f : Figures) (l : List ℕ) (operation : ℕ) (old : Cells) where
  pub becomes-less : operation ≡ 2 → becomes f l operation old ≡ marked 0 old l
  unfolding becomes
  becomes-less h = rw h

  pub becomes-list : (operation ≡ 2 → ⊥) → (operation ≡ 1 → ⊥) → becomes f l operation old ≡ named f.sources l
  unfolding becomes
  becomes-list a b = simp (ne_eqb _ _ a, ne_eqb _ _ b)

  pub becomes-one : (n : ℕ) → operation ≡ 1 → count (named f.sources l) ≡ n → both (ltb f.kind 2) (eqb n 1) ≡ true
      → becomes f l operation old ≡ named f.sources l
  unfolding becomes replaces
  becomes-one n h k e = rw (h, k, e)

  pub becomes-more : (n : ℕ) → operation ≡ 1 → count (named f.sources l) ≡ n → both (ltb f.kind 2) (eqb n 1) ≡ false
      → becomes f l operation old ≡ marked 1 old l
  unfolding becomes replaces
  becomes-more n h k e = rw (h, k, e)
