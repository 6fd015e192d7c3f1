-- A request depends on the set of the sources that are named, and on nothing else of the list.
use Prim.Native.Nat.{ℕ, zero, suc, ◌≤◌, ◌<◌}
use mathlib.Core.Path.{◌≡◌, refl, sym, ap, ◌∙◌}
use mathlib.Core.List.{List, [], ◌∷◌}
use mathlib.Core.Bool.{Bool, true, false, true≢false}
use native.Mathlib.Omega.{arith}
use borrow.Author.Tests.{ltb-true, ltb-false, eqb-true, eqb-false, eq-eqb}
use lib.ListN.{length, get_or, set}
use lib.Seq.{get_or-set_same, get_or-set_other, set-set, ext_get_or}
use lib.Dec.{ltb, leb, eqb}
use Rattle.base_choices.specs.Choices.{pick, both}
use Rattle.base_choices.proofs.Laws.{both_right}
use Rattle.desk_crosspoints.specs.declared.Figures.{Figures}
use Rattle.desk_crosspoints.specs.Crosspoints.{Cells, count, clear, row_at, taken_from, legal}
use Rattle.desk_crosspoints.specs.Desk.{Desk, Answer, answer}
use Rattle.desk_requests.specs.Request.{Request, request, marked, named, all_below, replaces, becomes, takes, others, row_after, result_of}
use Rattle.desk_requests.specs.Request.{first_of, many, over_total, checks, judged, asked, requested}
use Rattle.desk_requests.proofs.Rows.{marked-length, named_other, named-one}
use Rattle.desk_requests.specs.Lists.{has}

-- cells marked twice
set-swap : (r : Cells) (x y v : ℕ) → set (set r y v) x v ≡ set (set r x v) y v
set-swap [] x y v = refl
set-swap (c ∷ cs) zero zero v = refl
set-swap (c ∷ cs) zero (suc y) v = refl
set-swap (c ∷ cs) (suc x) zero v = refl
set-swap (c ∷ cs) (suc x) (suc y) v = ap (λ (l : Cells). c ∷ l) (set-swap cs x y v)

held : (v x : ℕ) (l : List ℕ) (r : Cells) → set r x v ≡ r → set (marked v r l) x v ≡ marked v r l
unfolding marked
held v x [] r h = h
held v x (y ∷ ys) r h = held v x ys (set r y v) (set-swap r x y v ∙ ap (λ (l : Cells). set l y v) h)

pub has-held : (v x : ℕ) (l : List ℕ) (r : Cells) → has l x ≡ true → set (marked v r l) x v ≡ marked v r l
unfolding marked has
has-held v x [] r h = absurd (true≢false (sym h))
has-held v x (y ∷ ys) r h = go (eqb y x) refl h (λ k. has-held v x ys (set r y v) k)
  where
    go : (u : Bool) → eqb y x ≡ u → pick u true (has ys x) ≡ true
        → (has ys x ≡ true → set (marked v (set r y v) ys) x v ≡ marked v (set r y v) ys)
        → set (marked v (set r y v) ys) x v ≡ marked v (set r y v) ys
    go true e k more =
        held v x ys (set r y v) (ap (λ (i : ℕ). set (set r i v) x v) (eqb-true y x e) ∙ set-set r x v v ∙ ap (λ (i : ℕ). set r i v) (sym (eqb-true y x e)))
    go false e k more = more k

pub has-not : (v x : ℕ) (l : List ℕ) (r : Cells) → has l x ≡ false → get_or (marked v r l) x 0 ≡ get_or r x 0
unfolding marked has
has-not v x [] r h = refl
has-not v x (y ∷ ys) r h = go (eqb y x) refl h (λ k. has-not v x ys (set r y v) k)
  where
    go : (u : Bool) → eqb y x ≡ u → pick u true (has ys x) ≡ false
        → (has ys x ≡ false → get_or (marked v (set r y v) ys) x 0 ≡ get_or (set r y v) x 0)
        → get_or (marked v (set r y v) ys) x 0 ≡ get_or r x 0
    go true e k more = absurd (true≢false k)
    go false e k more = more k ∙ get_or-set_other r y x v 0 (λ z. eqb-false y x e (sym z))

module _ (a b : List ℕ) (same : (x : ℕ) → has a x ≡ has b x) where
  pub set-marks : (v : ℕ) (r : Cells) → marked v r a ≡ marked v r b
  set-marks v r =
      ext_get_or 0 (marked v r a) (marked v r b) (marked-length v a r ∙ sym (marked-length v b r))
      (λ i k. cell i (omega (arith, k, marked-length v a r)) ∙ sym (other i (omega (arith, k, marked-length v a r))))
    where
      by : (l : List ℕ) (i : ℕ) → i < length r → (u : Bool) → has l i ≡ u → get_or (marked v r l) i 0 ≡ pick u v (get_or r i 0)
      by l i k true e =
          ap (λ (c : Cells). get_or c i 0) (sym (has-held v i l r e)) ∙ get_or-set_same (marked v r l) i v 0 (omega (arith, k, marked-length v l r))
      by l i k false e = has-not v i l r e

      cell : (i : ℕ) → i < length r → get_or (marked v r a) i 0 ≡ pick (has a i) v (get_or r i 0)
      cell i k = by a i k (has a i) refl

      other : (i : ℕ) → i < length r → get_or (marked v r b) i 0 ≡ pick (has a i) v (get_or r i 0)
      other i k = by b i k (has a i) (sym (same i))

-- every source is below n exactly if no source from n on is named
below-has : (n x : ℕ) (l : List ℕ) → all_below n l ≡ true → has l x ≡ true → x < n
unfolding all_below has
below-has n x [] h k = absurd (true≢false (sym k))
below-has n x (y ∷ ys) h k = go (ltb y n) refl (eqb y x) refl h k (λ p q. below-has n x ys p q)
  where
    go : (u : Bool) → ltb y n ≡ u → (t : Bool) → eqb y x ≡ t → pick u (all_below n ys) false ≡ true → pick t true (has ys x) ≡ true
        → (all_below n ys ≡ true → has ys x ≡ true → x < n) → x < n
    go false e t d p q more = absurd (true≢false (sym p))
    go true e true d p q more = omega (arith, ltb-true y n e, eqb-true y x d)
    go true e false d p q more = more p q

has-below : (n : ℕ) (l : List ℕ) → ((x : ℕ) → has l x ≡ true → x < n) → all_below n l ≡ true
unfolding all_below has
has-below n [] h = refl
has-below n (y ∷ ys) h = go (ltb y n) refl (has-below n ys (λ x k. h x (later x k (eqb y x))))
  where
    later : (x : ℕ) → has ys x ≡ true → (u : Bool) → pick u true (has ys x) ≡ true
    later x k true = refl
    later x k false = k

    first : y < n
    first = h y (rw (eq-eqb y y refl))

    go : (u : Bool) → ltb y n ≡ u → all_below n ys ≡ true → pick u (all_below n ys) false ≡ true
    go true e k = k
    go false e k = absurd (omega (arith, first, ltb-false y n e))

pub has-out : (n x : ℕ) (l : List ℕ) → has l x ≡ true → n ≤ x → all_below n l ≡ false
has-out n x l h k = go (all_below n l) refl
  where
    go : (u : Bool) → all_below n l ≡ u → all_below n l ≡ false
    go false e = e
    go true e = absurd (omega (arith, k, below-has n x l e h))

module _ (d : Desk) (target operation : ℕ) where
  abbrev f : Figures
  f = d.figures

  abbrev cells : Cells
  cells = d.crosspoints

  abbrev to : List ℕ → Request
  to l = request target l operation

  out-asked : (a : List ℕ) → all_below f.sources a ≡ false → asked d (to a) ≡ answer (pick (leb f.targets target) 41 42) cells
  unfolding asked judged checks first_of
  out-asked a h = rw h (go (leb f.targets target))
    where
      go : (u : Bool)
          → pick (eqb (pick u 41 42) 0) (answer 0 (result_of d (to a))) (answer (pick u 41 42) cells) ≡ answer (pick u 41 42) cells
      go true = refl
      go false = refl

  -- "42 SOURCE", whichever source is out of range
  pub out-request : (a b : List ℕ) → all_below f.sources a ≡ false → all_below f.sources b ≡ false → requested d (to a) ≡ requested d (to b)
  unfolding requested
  out-request a b h k =
      ap (λ (x : Answer). pick (both (legal f cells) (leb operation 2)) x (answer 1 cells)) (out-asked a h ∙ sym (out-asked b k))

  module _ (a b : List ℕ) where
    parts-request : ((v : ℕ) (r : Cells) → marked v r a ≡ marked v r b) → others f a operation cells ≡ others f b operation cells
        → all_below f.sources a ≡ all_below f.sources b → requested d (to a) ≡ requested d (to b)
    unfolding requested asked judged checks many over_total result_of row_after becomes replaces named
    parts-request m o h =
        rw (m 1 (clear f.sources), m 0 (row_at f.sources cells target), m 1 (row_at f.sources cells target), o, h)

    module _ (same : (x : ℕ) → has a x ≡ has b x) where
      belows : (u t : Bool) → all_below f.sources a ≡ u → all_below f.sources b ≡ t → u ≡ t
      belows true true e z = refl
      belows false false e z = refl
      belows true false e z =
          absurd (true≢false (sym (has-below f.sources b (λ x k. below-has f.sources x a e (same x ∙ k))) ∙ z))
      belows false true e z =
          absurd (true≢false (sym (has-below f.sources a (λ x k. below-has f.sources x b z (sym (same x) ∙ k))) ∙ e))

      rows : named f.sources a ≡ named f.sources b
      unfolding named
      rows = set-marks a b same 1 (clear f.sources)

      -- one source is named: both lists begin with it
      heads : all_below f.sources a ≡ true → all_below f.sources b ≡ true → count (named f.sources a) ≡ 1 → get_or a 0 0 ≡ get_or b 0 0
      heads h k c = go (eqb (get_or b 0 0) (get_or a 0 0)) refl
        where
          go : (u : Bool) → eqb (get_or b 0 0) (get_or a 0 0) ≡ u → get_or a 0 0 ≡ get_or b 0 0
          go true e = sym (eqb-true (get_or b 0 0) (get_or a 0 0) e)
          go false e =
              absurd (omega (
                arith,
                sym (named-one f.sources f.sources a (omega arith) h c) ∙ ap (λ (r : Cells). get_or r (get_or a 0 0) 0) rows
                    ∙ named_other f.sources f.sources b (omega arith) k (ap count (sym rows) ∙ c) (get_or a 0 0)
                    (eqb-false (get_or b 0 0) (get_or a 0 0) e),
              ))

      abbrev is_taken : Cells → Bool
      is_taken r = both (eqb f.kind 1) (both (ltb operation 2) (eqb (count r) 1))

      taken : all_below f.sources a ≡ true → all_below f.sources b ≡ true → others f a operation cells ≡ others f b operation cells
      unfolding others takes
      taken h k =
          ap (λ (r : Cells). pick (is_taken r) (taken_from f.sources cells (get_or a 0 0) f.targets) cells) rows
          ∙ go (is_taken (named f.sources b)) refl
        where
          go : (u : Bool) → is_taken (named f.sources b) ≡ u
              → pick u (taken_from f.sources cells (get_or a 0 0) f.targets) cells ≡ pick u (taken_from f.sources cells (get_or b 0 0) f.targets) cells
          go false e = refl
          go true e =
              let c : count (named f.sources b) ≡ 1 =
              eqb-true (count (named f.sources b)) 1
              (both_right (ltb operation 2) (eqb (count (named f.sources b)) 1)
              (both_right (eqb f.kind 1) (both (ltb operation 2) (eqb (count (named f.sources b)) 1)) e)) in
              ap (λ (s : ℕ). taken_from f.sources cells s f.targets) (heads h k (ap count rows ∙ c))

      -- "A source named twice counts once."
      pub set-request : requested d (to a) ≡ requested d (to b)
      set-request = go (all_below f.sources a) refl
        where
          go : (t : Bool) → all_below f.sources a ≡ t → requested d (to a) ≡ requested d (to b)
          go false z = out-request a b z (sym (belows (all_below f.sources a) (all_below f.sources b) refl refl) ∙ z)
          go true z =
              let k : all_below f.sources b ≡ true = sym (belows (all_below f.sources a) (all_below f.sources b) refl refl) ∙ z in
              parts-request (set-marks a b same) (taken z k) (z ∙ sym k)
