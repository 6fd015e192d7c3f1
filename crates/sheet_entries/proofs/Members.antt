-- What the rows say: limits, figures, and which entries they are.
use Rattle.std.specs.Prelude.{Option, Some, None}
use Prim.Native.Nat.{ℕ, zero, suc, ◌-◌, ◌+◌, ◌≤◌, ◌<◌, ◌^◌}
use mathlib.Core.Path.{◌≡◌, refl, sym, ap, subst, ◌∙◌}
use mathlib.Core.List.{List, [], ◌∷◌}
use mathlib.Core.Bool.{Bool, true, false, true≢false}
use mathlib.Core.Logic.{◌↔◌}
use native.Mathlib.Omega.{arith}
use borrow.Author.Tests.{eq-eqb, ne_eqb, eqb-true, eqb-false, lt-ltb}
use Rattle.std.proofs.lemmas.Grind.{get_or_after_one}
use lib.ListN.{length, drop, get_or, length-drop}
use lib.Seq.{drop-cons}
use lib.Dec.{eqb}
use lib.IntN.{ℤ}
use Rattle.base_choices.specs.Choices.{pick, both}
use Rattle.glow_rows.specs.Entry.{Rows}
use Rattle.glow_rows.specs.declared.Cell.{Cell}
use Rattle.glow_rows.specs.Cell.{int_of, number_in}
use Rattle.glow_trees.specs.Content.{Content, Item, content_of, contents_of, item_of, items_of}
use Rattle.glow_trees.specs.Rows.{cells_from, entry_of, entries_of, items_in}
use Rattle.glow_rows.specs.Row.{cell_in}
use Rattle.glow_entries.specs.declared.Matrix.{Matrix}
use Rattle.glow_entries.specs.Member as members
use Rattle.glow_entries.specs.Member.{number_cell}
use Rattle.glow_entries.specs.Record.{matrix_of, MatrixWords}
use Rattle.glow_paths.specs.Paths.{nobody}
use Rattle.glow_paths.proofs.Items.{in-length, in-kind, content-by}
use Rattle.desk_connections.proofs.Rows.{number_is}
use Rattle.sheet_rules.specs.Reading.{limit_in, figures_in, all_links}
use Rattle.sheet_entries.specs.Entries.{limit_from, is_sheet}

-- ---- a limit

module _ (s : List ℕ) (v : Cell) where
  limit-by : (b z : Bool) → eqb v.kind 2 ≡ b → eqb v.second 0 ≡ z → pick b (pick z v.first 0) 0 < 18446744073709551616
      → limit_in (content_of s v) ≡ pick b (pick z (Some v.first) None) None
  unfolding content_of
  limit-by true true e d l = rw (eqb-true v.kind 2 e, d, lt-ltb v.first 18446744073709551616 l)
  limit-by true false e d l = rw (eqb-true v.kind 2 e, d)
  limit-by false z e d l =
      content-by s v (λ (x : Content). limit_in x ≡ None) refl refl (λ n. ap (λ (b : Bool). pick b (Some n) None) e) (λ bs. refl)

  limit-from : (b z : Bool) (n : Option ℤ) → n ≡ pick b (pick z (Some (int_of v.first)) None) None
      → number_in (number_cell n) ≡ pick b (pick z v.first 0) 0 → limit_from n ≡ pick b (pick z (Some v.first) None) None
  unfolding number_in
  limit-from true true n e q = ap limit_from e ∙ ap Some (sym (ap (λ (m : Option ℤ). number_in (number_cell m)) e) ∙ q)
  limit-from true false n e q = ap limit_from e
  limit-from false z n e q = ap limit_from e

  -- the limit of a cell, by the number that it stands for
  pub limit_is : (n : Option ℤ) (l : Option ℕ) → n ≡ members.number_of v → number_in (number_cell n) ≡ number_in v → number_in (number_cell n) < 18446744073709551616
      → limit_from n ≡ l → limit_in (content_of s v) ≡ l
  unfolding members.number_of number_in
  limit_is n l e q h k =
      let b : Bool = eqb v.kind 2 in
      let z : Bool = eqb v.second 0 in
      limit-by b z refl refl (subst (λ (m : ℕ). m < 18446744073709551616) q h) ∙ sym (limit-from b z n e q) ∙ k

-- a limit that is given, as it is answered
pub limit-some : (n : Option ℤ) (z : ℤ) (w : ℕ) → n ≡ Some z → number_in (number_cell n) ≡ w → w < 2 ^ 64
    → (limit_from n ≡ Some w) × (number_in (number_cell n) < 18446744073709551616)
unfolding number_in
limit-some n z w e q h =
    (ap limit_from e ∙ ap Some (sym (ap (λ (m : Option ℤ). number_in (number_cell m)) e) ∙ q), subst (λ (m : ℕ). m < 18446744073709551616) (sym q) h)

-- ---- the figures

module _ (row : List ℕ) where
  pub figures-is : (x : Matrix) → x ≡ matrix_of row → MatrixWords row x
      → (kind targets sources : ℕ) (total each : Option ℕ)
      → number_in (number_cell x.matrix_type) ≡ kind → kind < 2 ^ 64
      → number_in (number_cell x.targets) ≡ targets → targets < 2 ^ 64
      → number_in (number_cell x.sources) ≡ sources → sources < 2 ^ 64
      → limit_from x.total_limit ≡ total → number_in (number_cell x.total_limit) < 18446744073709551616
      → limit_from x.target_limit ≡ each → number_in (number_cell x.target_limit) < 18446744073709551616
      → (s : List ℕ)
      → figures_in (item_of s (entry_of row)) ≡ record { kind = kind; targets = targets; sources = sources; total = total; each = each }
  unfolding contents_of cells_from cell_in matrix_of
  figures-is x e w kind targets sources total each a a' b b' c c' d d' f f' s =
      rw (
        number_is s (cell_in row 3) _ kind w.matrix_type a a',
        number_is s (cell_in row 5) _ targets w.targets b b',
        number_is s (cell_in row 6) _ sources w.sources c c',
        limit_is s (cell_in row 7) x.total_limit total (ap (λ (y : Matrix). y.total_limit) e) w.total_limit d' d,
        limit_is s (cell_in row 8) x.target_limit each (ap (λ (y : Matrix). y.target_limit) e) w.target_limit f' f,
      )

-- ---- which entries

module _ (s : List ℕ) (rows : Rows) (n : ℕ) where
  pub sheet-none : n ≡ 0 → is_sheet (items_in s rows n) ≡ false
  unfolding items_in entries_of items_of
  sheet-none e = rw e

  -- a sheet has a first entry
  pub sheet-some : is_sheet (items_in s rows n) ≡ true → 0 < n
  sheet-some e = go (eqb n 0) refl
    where
      go : (b : Bool) → eqb n 0 ≡ b → 0 < n
      go true q = absurd (true≢false (sym e ∙ sheet-none (eqb-true n 0 q)))
      go false q = let z = eqb-false n 0 q in omega arith

pub some-row : (n : ℕ) → (n ≡ 0 → ⊥) → 0 < n
some-row n h = omega (arith, h)

links-tell : (xs : List Item) → all_links xs ≡ true → (k : ℕ) → k < length xs → (get_or xs k nobody).kind ≡ 8
unfolding all_links
links-tell [] h k q = absurd (omega (arith, q))
links-tell (x ∷ xs) h k q = go (eqb x.kind 8) refl h (λ (e : all_links xs ≡ true) (j : ℕ) (r : j < length xs). links-tell xs e j r) k q
  where
    go : (u : Bool) → eqb x.kind 8 ≡ u → both u (all_links xs) ≡ true
        → (all_links xs ≡ true → (j : ℕ) → j < length xs → (get_or xs j nobody).kind ≡ 8)
        → (k : ℕ) → k < length (x ∷ xs) → (get_or (x ∷ xs) k nobody).kind ≡ 8
    go true e r f zero q = eqb-true x.kind 8 e
    go true e r f (suc j) q = f r j (omega (arith, q))
    go false e r f k q = absurd (true≢false (sym r))

links-from : (xs : List Item) → ((k : ℕ) → k < length xs → (get_or xs k nobody).kind ≡ 8) → all_links xs ≡ true
unfolding all_links
links-from [] h = refl
links-from (x ∷ xs) h = simp (eq-eqb x.kind 8 (h 0 (omega arith))) (links-from xs (λ k q. h (suc k) (omega (arith, q))))

module _ (s : List ℕ) (rows : Rows) where
  abbrev es : List Item
  es = items_in s rows (length rows)

  module _ (i : ℕ) (k : i < length rows) where
    from : drop i es ≡ get_or es i nobody ∷ drop (i + 1) es
    from =
        let l = in-length s rows (length rows) (omega arith) in
        let d : suc i ≡ i + 1 = omega arith in
        drop-cons es i nobody (omega arith) ∙ ap (λ (j : ℕ). get_or es i nobody ∷ drop j es) d

    kind_at : (get_or es i nobody).kind ≡ get_or (get_or rows i []) 0 0
    kind_at = in-kind s rows (length rows) (omega arith) i k

  module _ (k : 0 < length rows) where
    first : es ≡ get_or es 0 nobody ∷ drop 1 es
    first = from 0 k

    pub sheet-other : (get_or (get_or rows 0 []) 0 0 ≡ 7 → ⊥) → is_sheet es ≡ false
    sheet-other q = ap is_sheet first ∙ rw (kind_at 0 k, ne_eqb _ _ q)

    pub sheet-links : get_or (get_or rows 0 []) 0 0 ≡ 7 → is_sheet es ≡ all_links (drop 1 es)
    sheet-links q = ap is_sheet first ∙ rw (kind_at 0 k, eq-eqb _ _ q)

  -- the entries after the first are connections: by the test of the rows after the first, and at each place
  pub links-is : (b : Bool) → (b ≡ true ↔ ((k : ℕ) → k < length rows → 1 ≤ k → get_or (get_or rows k []) 0 0 ≡ 8)) → all_links (drop 1 es) ≡ b
  links-is true h = links-from (drop 1 es) from-rows
    where
      from-rows : (k : ℕ) → k < length (drop 1 es) → (get_or (drop 1 es) k nobody).kind ≡ 8
      from-rows k q =
          let l = in-length s rows (length rows) (omega arith) in
          let i : 1 + k < length rows = omega (arith, length-drop 1 es, q) in
          ap (λ (e : Item). e.kind) (get_or_after_one es k nobody) ∙ kind_at (1 + k) i ∙ h.0 refl (1 + k) i (omega arith)
  links-is false h = go (all_links (drop 1 es)) refl
    where
      go : (u : Bool) → all_links (drop 1 es) ≡ u → all_links (drop 1 es) ≡ false
      go true e = absurd (true≢false (sym (h.1 to-rows)))
        where
          to-rows : (k : ℕ) → k < length rows → 1 ≤ k → get_or (get_or rows k []) 0 0 ≡ 8
          to-rows k q p =
              let l = in-length s rows (length rows) (omega arith) in
              let i : k - 1 < length (drop 1 es) = omega (arith, length-drop 1 es, q, p) in
              let j : 1 + (k - 1) ≡ k = omega (arith, p) in
              sym (kind_at k q) ∙ ap (λ (n : ℕ). (get_or es n nobody).kind) (sym j)
              ∙ ap (λ (e : Item). e.kind) (sym (get_or_after_one es (k - 1) nobody)) ∙ links-tell (drop 1 es) e (k - 1) i
      go false e = e
