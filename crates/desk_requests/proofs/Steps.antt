-- Laws of what the checks tell on a desk that is known to be legal, and of what is left after them.
use Prim.Native.Nat.{ℕ, ◌+◌, ◌*◌, ◌≤◌, ◌<◌}
use mathlib.Core.Path.{◌≡◌, refl, sym, ap, ◌∙◌}
use mathlib.Core.List.{List}
use mathlib.Core.Bool.{Bool, true, false}
use mathlib.Core.Logic.{⊎_elim}
use native.Mathlib.Omega.{arith}
use borrow.Author.Tests.{eqb-true, le-leb, lt-leb, eq-eqb, ne_eqb}
use lib.ListN.{length, get_or}
use lib.Dec.{eqb}
use Rattle.base_choices.specs.Choices.{pick, both}
use Rattle.base_choices.proofs.Laws.{both_left, both_right}
use Rattle.ber_integers.proofs.Radix.{lt-or-le}
use Rattle.desk_crosspoints.specs.declared.Figures.{Figures}
use Rattle.desk_crosspoints.specs.Figures.{is_count, figures_fit, cells_of, size_of}
use Rattle.desk_crosspoints.specs.Crosspoints.{Cells, count, row_at, with_row, legal}
use Rattle.desk_crosspoints.specs.Desk.{Desk, desk_at, answer}
use Rattle.desk_crosspoints.proofs.Laws.{count-some, fit-counts, fit-sources-some}
use Rattle.desk_crosspoints.proofs.Under.{rows_apart, rows-le}
use Rattle.desk_crosspoints.proofs.Legal.{legal-fit, legal-length}
use Rattle.desk_requests.specs.Request.{Request, named, others, row_after, result_of, many, over_total, checks, judged, asked, requested}
use Rattle.desk_requests.specs.declared.Refusal.{Refusal}
use Rattle.desk_requests.specs.declared.Refusal.TheVariants.{Setup, Matrix, Target, Source, Many, Total}
use Rattle.desk_requests.specs.Steps.{fits, told, total_of, total_after, judged_with, told_with, number_of}
use Rattle.desk_requests.proofs.Parts.{first_below}
use Rattle.desk_requests.proofs.Answers.{result-is, request-asked, request-none, asked-no, asked-yes}
use Rattle.desk_requests.proofs.Totals.{total-le, total_kept, total-tells}
use Rattle.desk_requests.proofs.Claims.{Granted, granted}

-- a target's cells lie in the crosspoints
pub row-there : (f : Figures) (target n len : ℕ) → n ≡ f.sources → len ≡ cells_of f → target + 1 ≤ f.targets → target * n + n ≤ len
row-there f target n len e h t =
    let q : target * n ≡ target * f.sources = ap (λ (x : ℕ). target * x) e in
    omega (arith, rows_apart target f.targets f.sources (omega (arith, t)), q, e, h)

pub row-size : (n m : ℕ) (cells : Cells) (t : ℕ) (old : Cells) → n ≡ m → old ≡ row_at n cells t → old ≡ row_at m cells t
row-size n m cells t old e h = h ∙ ap (λ (x : ℕ). row_at x cells t) e

pub list-size : (n m : ℕ) (l : List ℕ) (r : Cells) → n ≡ m → r ≡ named n l → r ≡ named m l
list-size n m l r e h = h ∙ ap (λ (x : ℕ). named x l) e

pub list_count : (n m : ℕ) (l : List ℕ) (r : Cells) (x : ℕ) → n ≡ m → r ≡ named n l → count r ≡ x → count (named m l) ≡ x
list_count n m l r x e h k = ap count (sym (list-size n m l r e h)) ∙ k

-- figures out of range have no size, and others have one
module _ (f : Figures) (n : ℕ) (e : size_of f ≡ n) where
  pub size_none : n ≡ 0 → figures_fit f ≡ false
  unfolding size_of
  size_none z = go (figures_fit f) refl e
    where
      go : (u : Bool) → figures_fit f ≡ u → pick u (cells_of f) 0 ≡ n → figures_fit f ≡ false
      go false k y = k
      go true k y =
          let t = count-some f.targets (both_left (is_count f.targets) _ (fit-counts f k)) in
          absurd (omega (arith, y, z, rows-le 1 f.targets f.sources t, fit-sources-some f k))

  pub size-some : (n ≡ 0 → ⊥) → figures_fit f ≡ true
  unfolding size_of
  size-some z = go (figures_fit f) refl e
    where
      go : (u : Bool) → figures_fit f ≡ u → pick u (cells_of f) 0 ≡ n → figures_fit f ≡ true
      go true k y = k
      go false k y = absurd (z (sym y))

module _ (f : Figures) (n w : ℕ) where
  pub fits-figures : figures_fit f ≡ false → fits f n w ≡ false
  unfolding fits
  fits-figures h = rw h

  pub fits_count : figures_fit f ≡ true → (n ≡ cells_of f → ⊥) → fits f n w ≡ false
  unfolding fits
  fits_count h k = rw (h, ne_eqb _ _ k)

  pub fits-rest : figures_fit f ≡ true → n ≡ cells_of f → fits f n w ≡ eqb w f.sources
  unfolding fits
  fits-rest h k = rw (h, eq-eqb _ _ k)

  module _ (h : fits f n w ≡ true) where
    pub fits-fit : figures_fit f ≡ true
    unfolding fits
    fits-fit = both_left (figures_fit f) (both (eqb n (cells_of f)) (eqb w f.sources)) h

    lengths : both (eqb n (cells_of f)) (eqb w f.sources) ≡ true
    unfolding fits
    lengths = both_right (figures_fit f) (both (eqb n (cells_of f)) (eqb w f.sources)) h

    pub fits-cells : n ≡ cells_of f
    fits-cells = eqb-true n (cells_of f) (both_left (eqb n (cells_of f)) (eqb w f.sources) lengths)

    pub fits-row : w ≡ f.sources
    fits-row = eqb-true w f.sources (both_right (eqb n (cells_of f)) (eqb w f.sources) lengths)

module _ (d : Desk) (req : Request) (row : Cells) where
  abbrev fit : Type 0
  fit = fits d.figures (length d.crosspoints) (length row) ≡ true

  told-operation : fit → 2 < req.operation → told d req row ≡ 1
  unfolding told
  told-operation h o = rw (h, lt-leb _ _ o)

  told-judged : fit → req.operation ≤ 2 → told d req row ≡ judged d req
  unfolding told
  told-judged h o = rw (h, le-leb _ _ o)

  module _ (total : ℕ) where
    pub with-unfit : fits d.figures (length d.crosspoints) (length row) ≡ false → told_with total d req row ≡ 1
    unfolding told_with
    with-unfit h = rw h

    pub with-over : fit → length d.crosspoints < total → told_with total d req row ≡ 1
    unfolding told_with
    with-over h t = rw (h, lt-leb _ _ t)

    pub with-operation : fit → total ≤ length d.crosspoints → 2 < req.operation → told_with total d req row ≡ 1
    unfolding told_with
    with-operation h t o = rw (h, le-leb _ _ t, lt-leb _ _ o)

    pub with-judged : fit → total ≤ length d.crosspoints → req.operation ≤ 2 → (n : ℕ) → judged_with total d req ≡ n → told_with total d req row ≡ n
    unfolding told_with
    with-judged h t o n j = rw (h, le-leb _ _ t, le-leb _ _ o) j

    -- with the desk's own total it is what is told without one
    pub told_with_lem : total_of d.figures d.crosspoints ≡ total → told_with total d req row ≡ told d req row
    unfolding told_with told judged_with judged checks
    told_with_lem e =
        let t : total ≤ length d.crosspoints = omega (arith, e, total-le d.figures d.crosspoints) in
        rw (le-leb _ _ t, total-tells d req total e)

-- on a legal desk they are the request
module _ (d : Desk) (req : Request) (h : legal d.figures d.crosspoints ≡ true) where
  pub legal-fits : (w : ℕ) → w ≡ d.figures.sources → fits d.figures (length d.crosspoints) w ≡ true
  unfolding fits
  legal-fits w e = rw (legal-fit d.figures d.crosspoints h, eq-eqb _ _ (legal-length d.figures d.crosspoints h), eq-eqb _ _ e)

  module _ (row : Cells) (e : length row ≡ d.figures.sources) where
    -- an operation that is none
    none : 2 < req.operation → told d req row ≡ 1
    none o = told-operation d req row (legal-fits (length row) e) o

    same : req.operation ≤ 2 → told d req row ≡ judged d req
    same o = told-judged d req row (legal-fits (length row) e) o

    pub told-refused : (n : ℕ) → told d req row ≡ n → (n ≡ 0 → ⊥) → requested d req ≡ answer n d.crosspoints
    told-refused n t z =
        ⊎_elim (λ (o : 2 < req.operation). request-none d req o ∙ ap (λ (x : ℕ). answer x d.crosspoints) (sym (none o) ∙ t))
        (λ (o : req.operation ≤ 2). request-asked d req h o ∙ asked-no d req n (sym (same o) ∙ t) z) (lt-or-le 2 req.operation)

    module _ (n : ℕ) (t : told d req row ≡ n) (z : n ≡ 0) where
      known : req.operation ≤ 2
      known =
          ⊎_elim (λ (o : 2 < req.operation). absurd (omega (arith, sym (none o) ∙ t, z))) (λ (o : req.operation ≤ 2). o) (lt-or-le 2 req.operation)

      passed : judged d req ≡ 0
      passed = sym (same known) ∙ t ∙ z

      -- target and first source are the desk's
      pub told-there : req.target + 1 ≤ d.figures.targets
      told-there = let g : Granted d req = granted d req passed in omega (arith, g.there)

      pub told-first : get_or req.sources 0 0 + 1 ≤ d.figures.sources
      told-first =
          let g : Granted d req = granted d req passed in
          first_below d.figures.sources d.figures.sources req.sources (get_or req.sources 0 0) (omega arith)
          (fit-sources-some d.figures (legal-fit d.figures d.crosspoints h)) g.below refl

      -- .. with the target's cells
      pub told-done : (w : ℕ) (some new after : Cells) → w ≡ d.figures.sources
          → some ≡ others d.figures req.sources req.operation d.crosspoints → new ≡ row_after d req
          → after ≡ with_row w some req.target new → requested d req ≡ answer 0 after
      told-done w some new after l o r a =
          request-asked d req h known
          ∙ asked-yes d req some new after passed o r (a ∙ ap (λ (x : ℕ). with_row x some req.target new) l)

-- the crosspoints after a request have the total that was kept
pub done-total : (d : Desk) (req : Request) (total left w : ℕ) (some new after : Cells) → total_of d.figures d.crosspoints ≡ total
    → w ≡ d.figures.sources → some ≡ others d.figures req.sources req.operation d.crosspoints → new ≡ row_after d req
    → after ≡ with_row w some req.target new → total_after total d req ≡ left → total_of d.figures after ≡ left
done-total d req total left w some new after e l o r a t =
    ap (total_of d.figures) (a ∙ ap (λ (x : ℕ). with_row x some req.target new) l ∙ sym (result-is d req some new o r))
    ∙ total_kept d req total e ∙ t

-- a request does not look at the path
pub request-path : (d : Desk) (path : List ℕ) (req : Request) → requested d req ≡ requested (desk_at d.figures path d.crosspoints) req
unfolding requested asked judged checks many over_total result_of row_after
request-path d path req = refl

-- a refusal has a number
pub refusal-some : (r : Refusal) → number_of r ≡ 0 → ⊥
refusal-some Setup h = omega arith
refusal-some Matrix h = omega arith
refusal-some Target h = omega arith
refusal-some Source h = omega arith
refusal-some Many h = omega arith
refusal-some Total h = omega arith
