-- Laws of `sets`, a run of stores into a list.
use Prim.Native.Nat.{ℕ, zero, suc, ◌+◌, ◌-◌, ◌≤◌}
use mathlib.Core.Path.{◌≡◌, refl, sym, ap, ◌∙◌}
use mathlib.Core.List.{List, [], ◌∷◌, ◌++◌, append_assoc}
use native.Mathlib.Omega.{arith}
use native.Mathlib.Nat.{suc-add, add-suc, add-zero, sub-zero, zero-sub, suc-sub-suc}
use lib.ListN.{length, take, drop, set, length-drop, take-append-drop}
use lib.Seq.{sets, sets-eq, length-take-le, take-nil, take-add, take_at, drop_at, take-set-le, drop-set-lt}

module _ {A : Type 0} where
  pub sets-append : (xs ys l : List A) (i : ℕ) → sets l i (xs ++ ys) ≡ sets (sets l i xs) (i + length xs) ys
  sets-append [] ys l i = ap (λ (k : ℕ). sets l k ys) (sym (add-zero i))
  sets-append (x ∷ xs) ys l i =
      sets-append xs ys (set l i x) (suc i) ∙ ap (λ (k : ℕ). sets (sets (set l i x) (suc i) xs) k ys) (suc-add i (length xs) ∙ sym (add-suc i (length xs)))

  -- a part of a list has the length that was asked for
  pub length_part : (n i : ℕ) (l : List A) → i + n ≤ length l → length (take n (drop i l)) ≡ n
  length_part n i l h = length-take-le n (drop i l) (simp length-drop (omega arith))

  -- what stands there, written there
  pub sets_same : (n i : ℕ) (l : List A) → i + n ≤ length l → sets l i (take n (drop i l)) ≡ l
  sets_same n i l h =
      let e : length (take n (drop i l)) ≡ n = length_part n i l h in
      sets-eq (take n (drop i l)) l i (omega (arith, e))
      ∙ ap (λ (k : ℕ). (take i l ++ take n (drop i l)) ++ drop (i + k) l) e
      ∙ ap (λ (r : List A). r ++ drop (i + n) l) (sym (take-add i n l))
      ∙ take-append-drop (i + n) l

  -- before the stores, nothing changed
  pub take-sets-le : (vs l : List A) (i n : ℕ) → n ≤ i → take n (sets l i vs) ≡ take n l
  take-sets-le [] l i n h = refl
  take-sets-le (v ∷ vs) l i n h = take-sets-le vs (set l i v) (suc i) n (omega arith) ∙ take-set-le n l i v h

  -- behind the stores, nothing changed
  pub drop-sets-le : (vs l : List A) (i n : ℕ) → i + length vs ≤ n → drop n (sets l i vs) ≡ drop n l
  drop-sets-le [] l i n h = refl
  drop-sets-le (v ∷ vs) l i n h = drop-sets-le vs (set l i v) (suc i) n (omega arith) ∙ drop-set-lt n l i v (omega arith)

  -- what was written stands there
  pub part-sets : (vs l : List A) (i : ℕ) → i + length vs ≤ length l → take (length vs) (drop i (sets l i vs)) ≡ vs
  part-sets vs l i h =
      let e : length (take i l) ≡ i = length-take-le i l (omega arith) in
      ap (λ (r : List A). take (length vs) (drop i r)) (sets-eq vs l i h ∙ append_assoc (take i l) vs (drop (i + length vs) l))
      ∙ ap (λ (r : List A). take (length vs) r) (drop_at (take i l) (vs ++ drop (i + length vs) l) i e)
      ∙ take_at vs (drop (i + length vs) l) (length vs) refl

  -- what a front has behind its first elements
  pub drop-take : (b c : ℕ) (l : List A) → drop b (take c l) ≡ take (c - b) (drop b l)
  drop-take zero c l = ap (λ (k : ℕ). take k l) (sym (sub-zero c))
  drop-take (suc b) zero l = ap (λ (k : ℕ). take k (drop (suc b) l)) (sym (zero-sub (suc b)))
  drop-take (suc b) (suc c) [] = sym (take-nil (suc c - suc b))
  drop-take (suc b) (suc c) (x ∷ xs) = drop-take b c xs ∙ ap (λ (k : ℕ). take k (drop b xs)) (sym (suc-sub-suc c b))
