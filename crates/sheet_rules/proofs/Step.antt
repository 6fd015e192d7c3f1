-- One request of a sheet: absolute with a target's sources, on crosspoints whose first rows are the desk's and whose others are empty.
use Prim.Native.Nat.{ℕ, suc, ◌+◌, ◌-◌, ◌*◌, ◌≤◌, ◌<◌}
use mathlib.Core.Path.{◌≡◌, refl, sym, ap, subst, ◌∙◌}
use mathlib.Core.List.{List}
use mathlib.Core.Bool.{Bool, true, false}
use mathlib.Core.Logic.{inl, ⊎_elim}
use native.Mathlib.Omega.{arith}
use borrow.Author.Tests.{eqb-true, eqb-false, le-ltb, lt-leb, leb-true}
use lib.ListN.{length, get_or, get_or-eq_default}
use lib.Dec.{ltb, eqb}
use Rattle.base_choices.specs.Choices.{pick, both}
use Rattle.ber_integers.proofs.Radix.{lt-or-le}
use Rattle.desk_crosspoints.specs.declared.Figures.{Figures}
use Rattle.desk_crosspoints.specs.Figures.{cells_of, most_each, most_total}
use Rattle.desk_crosspoints.specs.Crosspoints.{Cells, count, clear, row_at, with_row, legal}
use Rattle.desk_crosspoints.specs.Desk.{Desk, with_cells, answer}
use Rattle.desk_requests.specs.Request.{Request, request, named, all_below, others, row_after, first_of, over_total, checks, judged, requested}
use Rattle.desk_crosspoints.proofs.Laws.{each-one, kind-one, kind-many, fit-sources-some}
use Rattle.desk_requests.proofs.Laws.{becomes-list}
use Rattle.desk_requests.proofs.Parts.{others-kind, others-none, others-take, first_below, row_same}
use Rattle.desk_crosspoints.proofs.Legal.{legal-fit, legal-length, legal-bits, legal-rows, legal-kind, legal-row-there}
use Rattle.desk_requests.proofs.Answers.{result-is, many_is, asked-yes, request-asked}
use Rattle.desk_crosspoints.proofs.Under.{Under, under-count, row-cell, row-past, row-length, row_under, with-length, with-before, with-inside, with-after}
use Rattle.desk_crosspoints.proofs.Under.{rows_apart, rows-le, bits-tell, rows_tell, sources-tell}
use Rattle.desk_crosspoints.proofs.Kept.{after-under, after-legal}
use Rattle.desk_crosspoints.proofs.Counts.{bit-zero, bit-one, clear-cell, clear-length}
use Rattle.desk_requests.proofs.Rows.{named-one}
use Rattle.sheet_rules.specs.Sheet.{sources_at}
use Rattle.sheet_rules.proofs.Apply.{row_named, row_below, taken_none, holders-two, same-cells}

-- the first k rows are those of the desk, and the others are empty
pub record Front (d : Desk) (k : ℕ) (x : Cells) : Type 0 where
  pub long : length x ≡ cells_of d.figures
  pub first : (i : ℕ) → i < k * d.figures.sources → get_or x i 0 ≡ get_or d.crosspoints i 0
  pub later : (i : ℕ) → k * d.figures.sources ≤ i → get_or x i 0 ≡ 0

pub front-none : (d : Desk) → Front d 0 (clear (cells_of d.figures))
front-none d = record {
  long = clear-length (cells_of d.figures);
  first = λ i h. absurd (omega arith);
  later = λ i h. clear-cell (cells_of d.figures) i;
}

-- within all limits: 0
limits-fit : (kind n ones t each total : ℕ) → n ≤ each → (kind ≡ 2 → t ≤ total) → ((kind ≡ 2 → ⊥) → ones ≤ 1)
    → ◌≡◌ {A = ℕ} (pick (pick (eqb kind 2) (ltb each n) (ltb 1 ones)) 43 (pick (both (eqb kind 2) (ltb total t)) 44 0)) 0
limits-fit kind n ones t each total a b c = go (eqb kind 2) refl
  where
    go : (u : Bool) → eqb kind 2 ≡ u → ◌≡◌ {A = ℕ} (pick (pick u (ltb each n) (ltb 1 ones)) 43 (pick (both u (ltb total t)) 44 0)) 0
    go true e = rw (le-ltb each n a, le-ltb total t (b (eqb-true kind 2 e))) refl
    go false e = rw (le-ltb 1 ones (c (eqb-false kind 2 e))) refl

module _ (d : Desk) (h : legal d.figures d.crosspoints ≡ true) where
  abbrev f : Figures
  f = d.figures

  abbrev w : ℕ
  w = d.figures.sources

  abbrev cells : Cells
  cells = d.crosspoints

  sized : length cells ≡ cells_of f
  sized = legal-length f cells h

  -- what the rows of a legal desk are
  bits : (i : ℕ) → get_or cells i 0 ≤ 1
  bits = bits-tell cells (legal-bits f cells h)

  row-bits : (t i : ℕ) → get_or (row_at w cells t) i 0 ≤ 1
  row-bits t i =
      ⊎_elim (λ (k : i < w). omega (arith, row-cell w cells t i k, bits (t * w + i))) (λ (k : w ≤ i). omega (arith, row-past w cells t i k)) (lt-or-le i w)

  -- all rows are there
  pub front-all : (x : Cells) → Front d d.figures.targets x → x ≡ d.crosspoints
  front-all x fr =
      same-cells x cells (fr.long ∙ sym sized)
      (λ i.
      ⊎_elim (λ (l : i < f.targets * w). fr.first i l)
      (λ (l : f.targets * w ≤ i). fr.later i l ∙ sym (get_or-eq_default cells 0 {n = i} (omega (arith, l, sized)))) (lt-or-le i (f.targets * w)))

  module _ (k : ℕ) (there : k < d.figures.targets) (x : Cells) (fr : Front d k x) where
    abbrev row : Cells
    row = row_at w cells k

    abbrev list : List ℕ
    list = sources_at d k

    abbrev r : Request
    r = request k list 0

    abbrev so : Desk
    so = with_cells d x

    row-long : length row ≡ w
    row-long = row-length w cells k (legal-row-there f cells h k there)

    under : Under x cells
    under i = ⊎_elim (λ (l : i < k * w). omega (arith, fr.first i l)) (λ (l : k * w ≤ i). omega (arith, fr.later i l)) (lt-or-le i (k * w))

    is-named : named w list ≡ row
    is-named = row_named w row row-long (row-bits k)

    is_below : all_below w list ≡ true
    is_below = row_below w 0 row (λ i l. row-past w cells k i (omega arith))

    same_length : length x ≡ length cells
    same_length = fr.long ∙ sym sized

    -- the crosspoints so far are legal
    most : count row ≤ most_each f
    most = rows_tell w (most_each f) cells f.targets (legal-rows f cells h) k there

    x-row : Under (row_at w x k) row
    x-row = row_under w x k row (λ i l. omega (arith, under (k * w + i), row-cell w cells k i l))

    total : f.kind ≡ 2 → count cells ≤ most_total f
    total e = leb-true (count cells) (most_total f) (sym (kind-many f cells e) ∙ legal-kind f cells h)

    x-long : length (row_at w x k) ≡ w
    x-long = row-length w x k (omega (arith, same_length, legal-row-there f cells h k there))

    so_far : legal d.figures x ≡ true
    so_far =
        let e = row_same w x k in
        subst (λ (y : Cells). legal f y ≡ true) e
        (after-legal f cells x k (row_at w x k) h there under same_length x-long
        (λ i. omega (arith, x-row i, row-bits k i))
        (omega (arith, under-count (row_at w x k) row x-row, most))
        (λ q s l. inl (omega (arith, x-row s, row-cell w cells k s l)))
        (λ q. omega (arith, ap count e, under-count x cells under, total q)))

    -- for 1:1, no other target has the source
    module _ (kind : d.figures.kind ≡ 1) (one : count (named d.figures.sources (sources_at d k)) ≡ 1) where
      small : get_or list 0 0 < w
      small =
          omega (arith, first_below w w list (get_or list 0 0) (omega arith) (fit-sources-some f (legal-fit f cells h)) is_below refl)

      here : get_or cells (k * w + get_or list 0 0) 0 ≡ 1
      here =
          sym (row-cell w cells k (get_or list 0 0) small) ∙ ap (λ (z : Cells). get_or z (get_or list 0 0) 0) (sym is-named)
          ∙ named-one w w list (omega arith) is_below one

      nowhere : (t : ℕ) → t < f.targets → get_or x (t * w + get_or list 0 0) 0 ≡ 0
      nowhere t l =
          ⊎_elim
          (λ (q : t < k).
          let a = holders-two w (get_or list 0 0) f.targets cells t k q there in
          let b = sources-tell w f.targets cells w (sym (kind-one f cells kind) ∙ legal-kind f cells h) (get_or list 0 0) small in
          let c = bit-one (get_or cells (k * w + get_or list 0 0) 0) here in
          fr.first (t * w + get_or list 0 0) (omega (arith, rows_apart t k w q, small))
          ∙ bit-zero (get_or cells (t * w + get_or list 0 0) 0) (omega (arith, a, b, c)))
          (λ (q : k ≤ t). fr.later (t * w + get_or list 0 0) (omega (arith, rows-le k t w q)))
          (lt-or-le t k)

      taking : others f list 0 x ≡ x
      taking = others-take f list 0 x 1 (get_or list 0 0) kind (omega arith) one refl refl ∙ taken_none w (get_or list 0 0) f.targets x nowhere

    others_same : others f list 0 x ≡ x
    others_same = go (eqb f.kind 1) refl (eqb (count (named w list)) 1) refl
      where
        go : (u : Bool) → eqb f.kind 1 ≡ u → (v : Bool) → eqb (count (named w list)) 1 ≡ v → others f list 0 x ≡ x
        go false e v q = others-kind f list 0 x (eqb-false f.kind 1 e)
        go true e false q = others-none f list 0 x (count (named w list)) (eqb-true f.kind 1 e) (omega arith) refl (eqb-false (count (named w list)) 1 q)
        go true e true q = taking (eqb-true f.kind 1 e) (eqb-true (count (named w list)) 1 q)

    row-becomes : row ≡ row_after so r
    unfolding row_after
    row-becomes = sym (becomes-list f list 0 (row_at w x k) (λ q. omega arith) (λ q. omega arith) ∙ is-named)

    after-x : Under (with_row w x k row) cells
    after-x = after-under f cells x k row h there under same_length row-long (λ i. omega arith)

    fine : judged so r ≡ 0
    unfolding judged checks over_total first_of
    fine =
        let m = many_is so r row (count row) (count row) row-becomes refl (ap count is-named) in
        rw (lt-leb _ _ there, is_below, m, result-is so r x row (sym others_same) row-becomes)
        (limits-fit f.kind (count row) (count row) (count (with_row w x k row)) (most_each f) (most_total f) most
        (λ q. omega (arith, under-count (with_row w x k row) cells after-x, total q)) (λ q. omega (arith, most, each-one f q)))

    -- The request is done, and sets exactly the target's row.
    pub step-done : requested (with_cells d x) (request k (sources_at d k) 0)
        ≡ answer 0 (with_row d.figures.sources x k (row_at d.figures.sources d.crosspoints k))
    step-done = request-asked so r so_far (omega arith) ∙ asked-yes so r x row (with_row w x k row) fine (sym others_same) row-becomes refl

    room : k * w + w ≤ length x
    room = omega (arith, same_length, legal-row-there f cells h k there)

    pub step-front : Front d (suc k) (with_row d.figures.sources x k (row_at d.figures.sources d.crosspoints k))
    step-front = record {
      long = with-length w x k row room row-long ∙ fr.long;
      first = λ i l.
          ⊎_elim (λ (q : i < k * w). with-before w x k row room row-long i q ∙ fr.first i q)
          (λ (q : k * w ≤ i).
          let j : i - k * w < w = omega arith in
          let e : k * w + (i - k * w) ≡ i = omega arith in
          subst (λ (z : ℕ). get_or (with_row w x k row) z 0 ≡ get_or cells z 0) e
          (with-inside w x k row room row-long (i - k * w) j ∙ row-cell w cells k (i - k * w) j))
          (lt-or-le i (k * w));
      later = λ i l. with-after w x k row room row-long i (omega arith) ∙ fr.later i (omega arith);
    }
