-- One law for each number that a request answers.
use Prim.Native.Nat.{ℕ, ◌+◌, ◌-◌, ◌≤◌, ◌<◌}
use mathlib.Core.Path.{◌≡◌, refl, sym, ap, ◌∙◌}
use mathlib.Core.List.{List}
use mathlib.Core.Bool.{Bool, true, false, not}
use borrow.Author.Tests.{lt-leb, le-leb, eq-eqb, ne_eqb}
use lib.Dec.{ltb, eqb}
use Rattle.base_choices.specs.Choices.{pick, both}
use Rattle.desk_crosspoints.specs.declared.Figures.{Figures}
use Rattle.desk_crosspoints.specs.Figures.{most_each, most_total}
use Rattle.desk_crosspoints.specs.Crosspoints.{Cells, count, row_at, with_row, legal}
use Rattle.desk_crosspoints.specs.Desk.{Desk, answer}
use Rattle.desk_requests.specs.Request.{Request, named, all_below, becomes, others, row_after, result_of}
use Rattle.desk_requests.specs.Request.{first_of, many, judged, asked, requested}
use Rattle.desk_requests.specs.Steps.{heeded, total_after, judged_with}

module _ (f : Figures) where
  pub many-says : (n o x : ℕ) → f.kind ≡ 2 → most_each f ≡ x → pick (eqb f.kind 2) (ltb (most_each f) n) (ltb 1 o) ≡ ltb x n
  many-says n o x h e =
      let p : pick (eqb f.kind 2) (ltb (most_each f) n) (ltb 1 o) ≡ ltb (most_each f) n = simp (eq-eqb _ _ h) in
      p ∙ ap (λ (m : ℕ). ltb m n) e

  pub many-list : (n o : ℕ) → (f.kind ≡ 2 → ⊥) → pick (eqb f.kind 2) (ltb (most_each f) n) (ltb 1 o) ≡ ltb 1 o
  many-list n o h = simp (ne_eqb _ _ h)

module _ (d : Desk) (req : Request) where
  abbrev f : Figures
  f = d.figures

  abbrev target : ℕ
  target = req.target

  abbrev l : List ℕ
  l = req.sources

  abbrev operation : ℕ
  operation = req.operation

  abbrev cells : Cells
  cells = d.crosspoints

  pub row_from : (old row : Cells) → old ≡ row_at f.sources cells target → row ≡ becomes f l operation old → row ≡ row_after d req
  unfolding row_after
  row_from old row e h = h ∙ ap (becomes f l operation) e

  pub result-is : (freed row : Cells) → freed ≡ others f l operation cells → row ≡ row_after d req
      → result_of d req ≡ with_row f.sources freed target row
  unfolding result_of row_after
  result-is freed row e h = rw (e, h)

  pub many_is : (row : Cells) (n ones : ℕ) → row ≡ row_after d req → count row ≡ n → count (named f.sources l) ≡ ones
      → many d req ≡ pick (eqb f.kind 2) (ltb (most_each f) n) (ltb 1 ones)
  unfolding many row_after
  many_is row n ones h e k = rw (sym h, e, k)

  -- the total from the target's cells, counted before and after
  pub total-is : (total : ℕ) (old row : Cells) (before after before' after' left : ℕ) → old ≡ row_at f.sources cells target → count old ≡ before
      → row ≡ row_after d req → count row ≡ after → heeded f (total - before' + after') ≡ left → before ≡ before' → after ≡ after'
      → total_after total d req ≡ left
  unfolding total_after
  total-is total old row before after before' after' left h b e a s i j =
      let p : count (row_at f.sources cells target) ≡ before' = ap count (sym h) ∙ b ∙ i in
      let q : count (row_after d req) ≡ after' = ap count (sym e) ∙ a ∙ j in
      rw (p, q) s

  module _ (total : ℕ) where
    pub told-target : f.targets ≤ target → judged_with total d req ≡ 41
    unfolding judged_with first_of
    told-target h = simp (le-leb _ _ h)

    pub told-source : target < f.targets → all_below f.sources l ≡ false → judged_with total d req ≡ 42
    unfolding judged_with first_of
    told-source h b = simp (lt-leb _ _ h, b)

    pub told-limits : (row : Cells) (ones set set' left r : ℕ) → target < f.targets → all_below f.sources l ≡ true
        → row ≡ row_after d req → count (named f.sources l) ≡ ones → count row ≡ set → total_after total d req ≡ left
        → pick (eqb operation 2) 0 (pick (pick (eqb f.kind 2) (ltb (most_each f) set') (ltb 1 ones)) 43 (pick (ltb (most_total f) left) 44 0)) ≡ r
        → set ≡ set' → judged_with total d req ≡ r
    unfolding judged_with first_of
    told-limits row ones set set' left r h b e o c t s i =
        rw (lt-leb _ _ h, b, many_is row set' ones e (c ∙ i) o, t)
        (go (eqb operation 2) (pick (eqb f.kind 2) (ltb (most_each f) set') (ltb 1 ones)) (ltb (most_total f) left) s)
      where
        go : (u m o : Bool) → pick u 0 (pick m 43 (pick o 44 0)) ≡ r → pick (both (not u) m) 43 (pick (both (not u) o) 44 0) ≡ r
        go true m o z = z
        go false m o z = z

  pub asked-no : (n : ℕ) → judged d req ≡ n → (n ≡ 0 → ⊥) → asked d req ≡ answer n cells
  unfolding asked
  asked-no n j h = rw (j, ne_eqb n 0 h)

  pub asked-yes : (freed row after : Cells) → judged d req ≡ 0 → freed ≡ others f l operation cells
      → row ≡ row_after d req → after ≡ with_row f.sources freed target row
      → asked d req ≡ answer 0 after
  unfolding asked
  asked-yes freed row after j e r a = rw j (ap (answer 0) (result-is freed row e r ∙ sym a))

  pub request-legal-not : legal f cells ≡ false → requested d req ≡ answer 1 cells
  unfolding requested
  request-legal-not h = simp h

  pub request-asked : legal f cells ≡ true → operation ≤ 2 → requested d req ≡ asked d req
  unfolding requested
  request-asked h o = simp (h, le-leb _ _ o)

  pub request-none : 2 < operation → requested d req ≡ answer 1 cells
  unfolding requested
  request-none o = rw (lt-leb _ _ o) (go (legal f cells))
    where
      go : (u : Bool) → pick (both u false) (asked d req) (answer 1 cells) ≡ answer 1 cells
      go true = refl
      go false = refl
