-- Requests that make a legal desk from an empty one: each target in order, absolute with its sources ascending.
use Prim.Native.Nat.{ℕ, zero, suc, ◌+◌, ◌*◌, ◌≤◌, ◌<◌}
use mathlib.Core.Path.{◌≡◌, refl, sym, ap, subst, ◌∙◌}
use mathlib.Core.List.{[], ◌∷◌, ◌++◌, append_assoc}
use mathlib.Core.Bool.{Bool, true, false}
use mathlib.Core.Logic.{⊎_elim}
use native.Mathlib.Omega.{arith}
use borrow.Author.Tests.{eqb-true, eqb-false, lt-ltb}
use lib.ListN.{length, get_or, set, length-append}
use lib.Dec.{eqb}
use Rattle.base_choices.specs.Choices.{pick}
use Rattle.ber_integers.proofs.Radix.{lt-or-le}
use Rattle.desk_crosspoints.specs.Crosspoints.{Cells, bit, clear, holders, taken_from}
use Rattle.desk_requests.specs.Request.{marked, named, all_below}
use Rattle.sheet_rules.specs.Sheet.{sources_from}

-- ---- the list of a row names the row

set_at : (xs : Cells) (a v : ℕ) (ys : Cells) (s : ℕ) → s ≡ length xs → set (xs ++ (a ∷ ys)) s v ≡ xs ++ (v ∷ ys)
set_at [] a v ys s e = rw e refl
set_at (x ∷ xs) a v ys zero e = absurd (omega arith)
set_at (x ∷ xs) a v ys (suc s) e = ap (λ (l : Cells). x ∷ l) (set_at xs a v ys s (omega arith))

row-marks : (cs xs : Cells) (s : ℕ) → s ≡ length xs → ((i : ℕ) → get_or cs i 0 ≤ 1) → marked 1 (xs ++ clear (length cs)) (sources_from s cs) ≡ xs ++ cs
unfolding clear marked sources_from
row-marks [] xs s e h = refl
row-marks (c ∷ cs) xs s e h = go (eqb c 0) refl (λ ys l. row-marks cs ys (suc s) l (λ i. h (suc i)))
  where
    go : (u : Bool) → eqb c 0 ≡ u
        → ((ys : Cells) → suc s ≡ length ys → marked 1 (ys ++ clear (length cs)) (sources_from (suc s) cs) ≡ ys ++ cs)
        → marked 1 (xs ++ (0 ∷ clear (length cs))) (pick u (sources_from (suc s) cs) (s ∷ sources_from (suc s) cs)) ≡ xs ++ (c ∷ cs)
    go true q r =
        let z : c ≡ 0 = eqb-true c 0 q in
        let l = length-append xs (0 ∷ []) in
        ap (λ (ys : Cells). marked 1 ys (sources_from (suc s) cs)) (sym (append_assoc xs (0 ∷ []) (clear (length cs))))
        ∙ r (xs ++ (0 ∷ [])) (omega arith) ∙ append_assoc xs (0 ∷ []) cs ∙ ap (λ (x : ℕ). xs ++ (x ∷ cs)) (sym z)
    go false q r =
        let b = h 0 in
        let n = eqb-false c 0 q in
        let z : c ≡ 1 = one c b n in
        let l = length-append xs (1 ∷ []) in
        ap (λ (ys : Cells). marked 1 ys (sources_from (suc s) cs)) (set_at xs 0 1 (clear (length cs)) s e ∙ sym (append_assoc xs (1 ∷ []) (clear (length cs))))
        ∙ r (xs ++ (1 ∷ [])) (omega arith) ∙ append_assoc xs (1 ∷ []) cs ∙ ap (λ (x : ℕ). xs ++ (x ∷ cs)) (sym z)
      where
        one : (c : ℕ) → c ≤ 1 → (c ≡ 0 → ⊥) → c ≡ 1
        one zero b n = absurd (n refl)
        one (suc zero) b n = refl
        one (suc (suc c)) b n = absurd (omega arith)

pub row_named : (w : ℕ) (row : Cells) → length row ≡ w → ((i : ℕ) → get_or row i 0 ≤ 1) → named w (sources_from 0 row) ≡ row
unfolding named
row_named w row e h = ap (λ (n : ℕ). marked 1 (clear n) (sources_from 0 row)) (sym e) ∙ row-marks row [] 0 refl h

-- ---- its sources are the desk's

pub row_below : (n s : ℕ) (cs : Cells) → ((i : ℕ) → n ≤ s + i → get_or cs i 0 ≡ 0) → all_below n (sources_from s cs) ≡ true
unfolding all_below sources_from
row_below n s [] h = refl
row_below n s (c ∷ cs) h = go (eqb c 0) refl (row_below n (suc s) cs (λ i k. h (suc i) (omega arith)))
  where
    go : (u : Bool) → eqb c 0 ≡ u → all_below n (sources_from (suc s) cs) ≡ true
        → all_below n (pick u (sources_from (suc s) cs) (s ∷ sources_from (suc s) cs)) ≡ true
    go true q r = r
    go false q r =
        ⊎_elim (λ (k : s < n). simp (lt-ltb s n k) r) (λ (k : n ≤ s). absurd (eqb-false c 0 q (h 0 (omega arith)))) (lt-or-le s n)

-- ---- crosspoints cell by cell

set_same : (l : Cells) (i : ℕ) → get_or l i 0 ≡ 0 → set l i 0 ≡ l
set_same [] i e = refl
set_same (x ∷ xs) zero e = ap (λ (y : ℕ). y ∷ xs) (sym e)
set_same (x ∷ xs) (suc i) e = ap (λ (l : Cells). x ∷ l) (set_same xs i e)

pub taken_none : (w s n : ℕ) (x : Cells) → ((t : ℕ) → t < n → get_or x (t * w + s) 0 ≡ 0) → taken_from w x s n ≡ x
unfolding taken_from
taken_none w s zero x h = refl
taken_none w s (suc n) x h =
    ap (λ (y : Cells). taken_from w y s n) (set_same x (n * w + s) (h n (omega arith))) ∙ taken_none w s n x (λ t k. h t (omega arith))

-- the targets of a source: two of them are two
holders-at : (w s n : ℕ) (cells : Cells) (t : ℕ) → t < n → bit (get_or cells (t * w + s) 0) ≤ holders w cells s n
unfolding holders
holders-at w s zero cells t h = absurd (omega arith)
holders-at w s (suc n) cells t h =
    ⊎_elim (λ (k : t < n). let r = holders-at w s n cells t k in omega arith)
    (λ (k : n ≤ t).
    let e : n ≡ t = omega arith in
    subst (λ (x : ℕ). bit (get_or cells (x * w + s) 0) ≤ bit (get_or cells (n * w + s) 0) + holders w cells s n) e (omega arith))
    (lt-or-le t n)

pub holders-two : (w s n : ℕ) (cells : Cells) (t u : ℕ) → t < u → u < n
    → bit (get_or cells (t * w + s) 0) + bit (get_or cells (u * w + s) 0) ≤ holders w cells s n
unfolding holders
holders-two w s zero cells t u h k = absurd (omega arith)
holders-two w s (suc n) cells t u h k =
    ⊎_elim (λ (l : u < n). let r = holders-two w s n cells t u h l in omega arith)
    (λ (l : n ≤ u).
    let e : n ≡ u = omega arith in
    let r = holders-at w s n cells t (omega arith) in
    subst (λ (x : ℕ). bit (get_or cells (t * w + s) 0) + bit (get_or cells (x * w + s) 0) ≤ bit (get_or cells (n * w + s) 0) + holders w cells s n) e (omega arith))
    (lt-or-le u n)

-- lists of one length with the same cells are the same
pub same-cells : (a b : Cells) → length a ≡ length b → ((i : ℕ) → get_or a i 0 ≡ get_or b i 0) → a ≡ b
same-cells [] [] e h = refl
same-cells [] (y ∷ ys) e h = absurd (omega arith)
same-cells (x ∷ xs) [] e h = absurd (omega arith)
same-cells (x ∷ xs) (y ∷ ys) e h =
    ap (λ (z : ℕ). z ∷ xs) (h 0) ∙ ap (λ (l : Cells). y ∷ l) (same-cells xs ys (omega arith) (λ i. h (suc i)))
