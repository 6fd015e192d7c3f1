-- The numbers of an identifier, one after another, and a path held against them.
use Prim.Native.Nat.{ℕ, zero, suc, ◌+◌, ◌-◌, ◌≤◌, ◌<◌}
use Rattle.std.proofs.lemmas.Bool.{cases_lt}
use mathlib.Core.Path.{◌≡◌, refl, sym, ap, subst, ◌∙◌}
use mathlib.Core.List.{List, [], ◌∷◌}
use mathlib.Core.Bool.{false}
use native.Mathlib.Omega.{arith}
use borrow.Author.Tests.{eq-eqb, ne_eqb, lt-ltb, le-leb, lt-leb}
use mathlib.Core.Logic.{⊎_elim}
use lib.ListN.{length, drop, get_or, drop_of_length-le}
use lib.Seq.{drop-cons}
use lib.Dec.{leb}
use Rattle.ber_identifiers.specs.declared.Arc.{Arc}
use Rattle.ber_identifiers.specs.declared.Arc.TheVariants.{Number, Range as Over, Refused as NoArc}
use Rattle.ber_identifiers.specs.declared.Oid.{Oid}
use Rattle.ber_identifiers.specs.declared.Oid.TheVariants.{Numbers, Range, Refused}
use Rattle.ber_identifiers.specs.Identifier.{Arcs, and_then, bad, over, numbers, push, pass, judged, arc_at, arcs, arcs_from, oid_at}
use Rattle.ber_identifiers.proofs.Laws.{arcs-done, arcs-number, arcs-over, arcs-bad, oid-within}
use Rattle.glow_paths.specs.Paths.{list_of, numbers_in, end_of, step_of, Left, Goes}
use Rattle.glow_paths.specs.Paths.{same}

-- an answer by cases
is_numbers : Arcs → ℕ
is_numbers bad = 0
is_numbers over = 0
is_numbers (numbers ns) = 1

pushed : (n : ℕ) (a : Arcs) (xs : List ℕ) → push n a ≡ numbers xs → (ys : List ℕ) × ((xs ≡ n ∷ ys) × (a ≡ numbers ys))
unfolding is_numbers
pushed n bad xs e = absurd (omega (arith, ap is_numbers e))
pushed n over xs e = absurd (omega (arith, ap is_numbers e))
pushed n (numbers ns) xs e = (ns, (sym (ap list_of e), refl))

passed : (a : Arcs) (xs : List ℕ) → pass a ≡ numbers xs → ⊥
unfolding is_numbers
passed bad xs e = omega (arith, ap is_numbers e)
passed over xs e = omega (arith, ap is_numbers e)
passed (numbers ns) xs e = omega (arith, ap is_numbers e)

bad-not : (xs : List ℕ) → bad ≡ numbers xs → ⊥
unfolding is_numbers
bad-not xs e = omega (arith, ap is_numbers e)

module _ (bs : List ℕ) (p end : ℕ) where
  pub step_is : (a : Arc) → arc_at bs p end ≡ a → step_of (arc_at bs p end) end ≡ step_of a end
  step_is a e = ap (λ (x : Arc). step_of x end) e

  pub left-none : (xs : List ℕ) → end ≤ p → Left bs p end xs → xs ≡ []
  left-none xs h k = sym (ap list_of (sym (arcs-done bs end p k.0 h) ∙ k.1.1))

  pub goes_number : (n next : ℕ) → p < end → arc_at bs p end ≡ Number n next → p < next → (xs : List ℕ) → Left bs p end xs → Goes bs end xs n next
  goes_number n next h e l xs k =
      let q = arcs-number bs end p k.0 n next h k.1.0 e l in
      let z = pushed n (arcs_from bs q.0 next end) xs (sym q.1.1 ∙ k.1.1) in
      (z.0, (z.1.0, (q.0, (q.1.0, z.1.1))))

  pub goes_over : (next n after : ℕ) → p < end → arc_at bs p end ≡ Over next → p < next → (xs : List ℕ) → Left bs p end xs → Goes bs end xs n after
  goes_over next n after h e l xs k =
      let q = arcs-over bs end p k.0 next h k.1.0 e l in
      absurd (passed (arcs_from bs q.0 next end) xs (sym q.1.1 ∙ k.1.1))

  pub goes-bad : (n after : ℕ) → p < end → arc_at bs p end ≡ NoArc → (xs : List ℕ) → Left bs p end xs → Goes bs end xs n after
  goes-bad n after h e xs k = absurd (bad-not xs (sym (arcs-bad bs end p k.0 h k.1.0 e) ∙ k.1.1))

  some-left : (f : ℕ) (xs : List ℕ) → p < end → end - p ≤ f → arcs_from bs f p end ≡ numbers xs → (n : ℕ) × ((ys : List ℕ) × (xs ≡ n ∷ ys))
  unfolding arcs_from
  some-left zero xs h k e = absurd (omega arith)
  some-left (suc f) xs h k e = go (arc_at bs p end) (λ (next : ℕ). arcs_from bs f next end) (simp (lt-ltb _ _ h) at e)
    where
      go : (a : Arc) (rest : ℕ → Arcs) → and_then a rest ≡ numbers xs → (n : ℕ) × ((ys : List ℕ) × (xs ≡ n ∷ ys))
      go (Number n next) rest e = let z = pushed n (rest next) xs e in (n, (z.0, z.1.0))
      go (Over next) rest e = absurd (passed (rest next) xs e)
      go NoArc rest e = absurd (bad-not xs e)

  -- at the path's end, and before it where no number is left
  module _ (xs path : List ℕ) (j : ℕ) (k : Left bs p end xs) where
    pub left_same : length path ≤ j → same xs (drop j path) ≡ leb end p
    unfolding same
    left_same l = ⊎_elim
        (λ (h : p < end). let z = some-left k.0 xs h k.1.0 k.1.1 in rw (z.1.1, drop_of_length-le path l, lt-leb _ _ h))
        (λ (h : end ≤ p). rw (left-none xs h k, drop_of_length-le path l, le-leb _ _ h))
        (cases_lt p end)

    pub left-fewer : end ≤ p → j < length path → same xs (drop j path) ≡ false
    unfolding same
    left-fewer h l = rw (left-none xs h k, drop-cons path j 0 l)

-- where they end
oid_count : Oid → ℕ
oid_count (Numbers n) = 1
oid_count Range = 0
oid_count Refused = 0

listed : (a : Arcs) (n : ℕ) → judged a ≡ Numbers n → a ≡ numbers (list_of a)
unfolding oid_count
listed bad n e = absurd (omega (arith, ap oid_count e))
listed over n e = absurd (omega (arith, ap oid_count e))
listed (numbers ns) n e = refl

unlisted : (a : Arcs) → oid_count (judged a) ≡ 0 → list_of a ≡ []
unfolding oid_count
unlisted bad e = refl
unlisted over e = refl
unlisted (numbers ns) e = absurd (omega (arith, e))

module _ (bs : List ℕ) where
  whole : judged (arcs bs 0 (length bs)) ≡ oid_at bs 0 (length bs)
  whole = oid-within bs 0 (length bs) (omega arith)

  pub end_is : (a : Oid) → oid_at bs 0 (length bs) ≡ a → end_of (oid_at bs 0 (length bs)) (length bs) ≡ end_of a (length bs)
  end_is a e = ap (λ (x : Oid). end_of x (length bs)) e

  pub end_list : (n : ℕ) → oid_at bs 0 (length bs) ≡ Numbers n → Left bs 0 (length bs) (numbers_in bs)
  unfolding numbers_in
  end_list n e =
      let d : 0 + length bs ≡ length bs = omega arith in (
        length bs,
        (
          omega arith,
          subst (λ (i : ℕ). arcs_from bs (length bs) 0 i ≡ numbers (list_of (arcs bs 0 (length bs)))) d
              (listed (arcs bs 0 (length bs)) n (whole ∙ e)),
        ),
      )

  end_none : numbers_in bs ≡ [] → Left bs 0 0 (numbers_in bs)
  end_none e = (0, (omega arith, arcs-done bs 0 0 0 (omega arith) ∙ ap numbers (sym e)))

  pub end-range : oid_at bs 0 (length bs) ≡ Range → Left bs 0 0 (numbers_in bs)
  unfolding numbers_in oid_count
  end-range e = end_none (unlisted (arcs bs 0 (length bs)) (ap oid_count (whole ∙ e)))

  pub end_refused : oid_at bs 0 (length bs) ≡ Refused → Left bs 0 0 (numbers_in bs)
  unfolding numbers_in oid_count
  end_refused e = end_none (unlisted (arcs bs 0 (length bs)) (ap oid_count (whole ∙ e)))

-- numbers held against the numbers of a path from j on
module _ (xs path : List ℕ) (j : ℕ) (x : ℕ) (ys : List ℕ) (e : xs ≡ x ∷ ys) where
  pub same-other : j < length path → (get_or path j 0 ≡ x → ⊥) → same xs (drop j path) ≡ false
  unfolding same
  same-other h d = rw (e, drop-cons path j 0 h, ne_eqb x (get_or path j 0) (λ z. d (sym z)))

  pub same_more : j < length path → get_or path j 0 ≡ x → same xs (drop j path) ≡ same ys (drop (j + 1) path)
  unfolding same
  same_more h d =
      let i : j + 1 ≡ suc j = omega arith in
      rw (e, drop-cons path j 0 h, eq-eqb x (get_or path j 0) (sym d), i)
