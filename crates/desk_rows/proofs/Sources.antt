-- The sources of a row of cells, gathered cell by cell, and their octets.
use Prim.Native.Nat.{ℕ, ◌+◌, ◌≤◌, ◌<◌}
use mathlib.Core.Path.{◌≡◌, refl, sym, ap, ◌∙◌}
use mathlib.Core.List.{List, [], ◌∷◌, ◌++◌, append_assoc, append-nil}
use native.Mathlib.Numerals.{add-one}
use borrow.Author.Tests.{eq-eqb, ne_eqb, le-leb, lt-leb}
use lib.ListN.{length, take, drop, get_or, set, drop_of_length-le}
use lib.Seq.{drop-cons, take-suc-set}
use Rattle.ber_integers.specs.Digits.{Put, unchanged}
use Rattle.ber_identifiers.specs.Identifier.{put_oid}
use Rattle.desk_crosspoints.specs.Figures.{side}
use Rattle.desk_crosspoints.specs.Crosspoints.{Cells}
use Rattle.desk_rows.specs.Sources.{sources_from, put_sources}

-- the next cell, at s: clear, or set; and the last
module _ (cells : Cells) (s : ℕ) where
  abbrev later : List ℕ
  later = sources_from (s + 1) (drop (s + 1) cells)

  cell-clear : s < length cells → get_or cells s 0 ≡ 0 → sources_from s (drop s cells) ≡ later
  unfolding sources_from
  cell-clear h e = rw (drop-cons cells s 0 h, add-one s, eq-eqb _ _ e) refl

  cell_set : s < length cells → (get_or cells s 0 ≡ 0 → ⊥) → sources_from s (drop s cells) ≡ s ∷ later
  unfolding sources_from
  cell_set h e = rw (drop-cons cells s 0 h, add-one s, ne_eqb _ _ e) refl

  cells-end : length cells ≤ s → sources_from s (drop s cells) ≡ []
  unfolding sources_from
  cells-end h = rw (drop_of_length-le cells h)

  -- the first n of the list are those before s
  module _ (list : List ℕ) (n : ℕ) (is : sources_from 0 cells ≡ take n list ++ sources_from s (drop s cells)) where
    pub list-stays : s < length cells → get_or cells s 0 ≡ 0 → sources_from 0 cells ≡ take n list ++ later
    list-stays h e = is ∙ ap (λ (x : List ℕ). take n list ++ x) (cell-clear h e)

    pub list-more : s < length cells → (get_or cells s 0 ≡ 0 → ⊥) → n < length list → {w : ℕ} → w ≡ s
        → sources_from 0 cells ≡ take (n + 1) (set list n w) ++ later
    list-more h e k {w} q =
        let a : take (n + 1) (set list n w) ≡ take n list ++ (w ∷ []) = ap (λ (i : ℕ). take i (set list n w)) (add-one n) ∙ take-suc-set list n w k in
        is
        ∙ ap (λ (x : List ℕ). take n list ++ x) (cell_set h e ∙ ap (λ (x : ℕ). x ∷ later) (sym q))
        ∙ sym (append_assoc (take n list) (w ∷ []) later)
        ∙ ap (λ (x : List ℕ). x ++ later) (sym a)

    pub list-whole : length cells ≤ s → take n list ≡ sources_from 0 cells
    list-whole h = sym (is ∙ ap (λ (x : List ℕ). take n list ++ x) (cells-end h) ∙ append-nil (take n list))

-- their octets: of a row that is too long, and of any other, by its list
module _ (o : List ℕ) (at : ℕ) (cells : Cells) where
  pub put-long : side < length cells → put_sources o at cells ≡ unchanged o
  unfolding put_sources
  put-long h = rw (lt-leb _ _ h) refl

  pub put-list : length cells ≤ side → (ns : List ℕ) → ns ≡ sources_from 0 cells → {x : Put} → put_oid o at ns ≡ x → put_sources o at cells ≡ x
  unfolding put_sources
  put-list h ns e g = rw (le-leb _ _ h) (ap (put_oid o at) (sym e) ∙ g)
