-- Other cells for a target, on a legal desk, leave a legal desk.
use Prim.Native.Nat.{ℕ, ◌+◌, ◌*◌, ◌≤◌, ◌<◌}
use mathlib.Core.Path.{◌≡◌, refl, sym, subst, ◌∙◌}
use mathlib.Core.Bool.{Bool, true, false}
use mathlib.Core.Logic.{◌⊎◌, ⊎_elim}
use native.Mathlib.Omega.{arith}
use borrow.Author.Tests.{eqb-true, eqb-false, le-leb}
use lib.ListN.{length, get_or}
use lib.Dec.{eqb}
use Rattle.ber_integers.proofs.Radix.{lt-or-le}
use Rattle.desk_crosspoints.specs.declared.Figures.{Figures}
use Rattle.desk_crosspoints.specs.Figures.{cells_of, most_each, most_total}
use Rattle.desk_crosspoints.specs.Crosspoints.{Cells, count, all_bits, row_at, with_row, holders, rows_fit, sources_fit, kind_fits, legal}
use Rattle.desk_crosspoints.proofs.Laws.{cells_rest, legal-cells, kind-one, kind-many, kind-other}
use Rattle.desk_crosspoints.proofs.Legal.{legal-fit, legal-length, legal-bits, legal-rows, legal-kind, legal-row-there}
use Rattle.desk_crosspoints.proofs.Under.{Under, under-count, row-cell, row_under, with-length, with-before, with-inside, with-after}
use Rattle.desk_crosspoints.proofs.Under.{with_each, rows_apart, bits-tell, bits-from, rows_tell, rows-from}
use Rattle.desk_crosspoints.proofs.Under.{sources-tell, sources-from, holders-under, holders-one}

-- source s: the target's new cell is set only where it was, or no target has the source
abbrev pub Single : Figures → Cells → Cells → ℕ → Cells → ℕ → Type 0
Single f cells freed target new s =
    (get_or new s 0 ≤ get_or cells (target * f.sources + s) 0) ⊎ ((t : ℕ) → t < f.targets → get_or freed (t * f.sources + s) 0 ≡ 0)

-- other cells for a target, on crosspoints that are set only where legal ones are
module _
    (f : Figures) (cells freed : Cells) (target : ℕ) (new : Cells)
    (h : legal f cells ≡ true)
    (there : target < f.targets)
    (under : Under freed cells)
    (same : length freed ≡ length cells)
    (long : length new ≡ f.sources)
  where
    abbrev w : ℕ
    w = f.sources

    room : target * w + w ≤ length freed
    room = omega (arith, same, legal-row-there f cells h target there)

    abbrev after : Cells
    after = with_row w freed target new

    pub after-length : length after ≡ cells_of f
    after-length = with-length w freed target new room long ∙ same ∙ legal-length f cells h

    -- a cell of another target
    pub after-other : (t s : ℕ) → s < w → (t ≡ target → ⊥) → get_or after (t * w + s) 0 ≡ get_or freed (t * w + s) 0
    after-other t s k d =
        ⊎_elim (λ (l : t < target). with-before w freed target new room long (t * w + s) (omega (arith, k, rows_apart t target w l)))
        (λ (l : target ≤ t).
        let m : target < t = ⊎_elim (λ (q : target < t). q) (λ (q : t ≤ target). absurd (d (omega (arith, l, q)))) (lt-or-le target t) in
        with-after w freed target new room long (t * w + s) (omega (arith, rows_apart target t w m)))
        (lt-or-le t target)

    pub after-bits : ((i : ℕ) → get_or new i 0 ≤ 1) → all_bits after ≡ true
    after-bits b =
        bits-from after
        (with_each w freed target new room long (λ (i x : ℕ). x ≤ 1)
        (λ i. omega (arith, under i, bits-tell cells (legal-bits f cells h) i)) (λ i k. b i))

    pub after-under : Under new (row_at w cells target) → Under after cells
    after-under u =
        with_each w freed target new room long (λ (i x : ℕ). x ≤ get_or cells i 0) under (λ i k. omega (arith, u i, row-cell w cells target i k))

    pub after-rows : count new ≤ most_each f → rows_fit w (most_each f) after f.targets ≡ true
    after-rows c = rows-from w (most_each f) after f.targets row
      where
        row : (t : ℕ) → t < f.targets → count (row_at w after t) ≤ most_each f
        row t k = go (eqb t target) refl
          where
            go : (u : Bool) → eqb t target ≡ u → count (row_at w after t) ≤ most_each f
            go true e =
                let u : Under (row_at w after target) new =
                row_under w after target new (λ i l. omega (arith, with-inside w freed target new room long i l)) in
                subst (λ (x : ℕ). count (row_at w after x) ≤ most_each f) (sym (eqb-true t target e))
                (omega (arith, c, under-count (row_at w after target) new u))
            go false e =
                let u : Under (row_at w after t) (row_at w cells t) =
                row_under w after t (row_at w cells t)
                (λ i l. omega (arith, after-other t i l (eqb-false t target e), under (t * w + i), row-cell w cells t i l)) in
                omega (arith, rows_tell w (most_each f) cells f.targets (legal-rows f cells h) t k, under-count (row_at w after t) (row_at w cells t) u)

    pub after-sources : f.kind ≡ 1 → ((s : ℕ) → s < w → Single f cells freed target new s) → sources_fit w f.targets after w ≡ true
    after-sources k each = sources-from w f.targets after w source
      where
        source : (s : ℕ) → s < w → holders w after s f.targets ≤ 1
        source s l = ⊎_elim kept gone (each s l)
          where
            kept : get_or new s 0 ≤ get_or cells (target * w + s) 0 → holders w after s f.targets ≤ 1
            kept q =
                omega (
                  arith,
                  sources-tell w f.targets cells w (sym (kind-one f cells k) ∙ legal-kind f cells h) s l,
                  holders-under w after cells s f.targets (λ t m. go t (eqb t target) refl),
                )
              where
                go : (t : ℕ) (u : Bool) → eqb t target ≡ u → get_or after (t * w + s) 0 ≤ get_or cells (t * w + s) 0
                go t true e =
                    subst (λ (x : ℕ). get_or after (x * w + s) 0 ≤ get_or cells (x * w + s) 0) (sym (eqb-true t target e))
                    (omega (arith, with-inside w freed target new room long s l, q))
                go t false e = omega (arith, after-other t s l (eqb-false t target e), under (t * w + s))

            gone : ((t : ℕ) → t < f.targets → get_or freed (t * w + s) 0 ≡ 0) → holders w after s f.targets ≤ 1
            gone q = holders-one w after s target f.targets (λ t m d. after-other t s l d ∙ q t m)

    pub after-kind : (f.kind ≡ 1 → (s : ℕ) → s < w → Single f cells freed target new s) → (f.kind ≡ 2 → count after ≤ most_total f)
        → kind_fits f after ≡ true
    after-kind one many = go (eqb f.kind 1) refl (eqb f.kind 2) refl
      where
        go : (u : Bool) → eqb f.kind 1 ≡ u → (v : Bool) → eqb f.kind 2 ≡ v → kind_fits f after ≡ true
        go true e v d = let k : f.kind ≡ 1 = eqb-true f.kind 1 e in kind-one f after k ∙ after-sources k (one k)
        go false e true d = let k : f.kind ≡ 2 = eqb-true f.kind 2 d in kind-many f after k ∙ le-leb (count after) (most_total f) (many k)
        go false e false d = kind-other f after (eqb-false f.kind 1 e) (eqb-false f.kind 2 d)

    pub after-legal : ((i : ℕ) → get_or new i 0 ≤ 1) → count new ≤ most_each f
        → (f.kind ≡ 1 → (s : ℕ) → s < w → Single f cells freed target new s) → (f.kind ≡ 2 → count after ≤ most_total f)
        → legal f after ≡ true
    after-legal b c one many =
        legal-cells f after (legal-fit f cells h) ∙ cells_rest f after after-length (after-bits b) (after-rows c) ∙ after-kind one many
