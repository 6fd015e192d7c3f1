-- The rows of a table with entries in them hold these entries.
use Prim.Native.Nat.{ℕ, zero, suc, ◌+◌, ◌*◌, ◌-◌, ◌≤◌}
use mathlib.Core.Path.{◌≡◌, refl, sym, ap, subst, ◌∙◌}
use mathlib.Core.List.{List, [], ◌∷◌, ◌++◌}
use mathlib.Core.Bool.{Bool, true, false}
use native.Mathlib.Omega.{arith}
use lib.ListN.{length, take}
use lib.Seq.{length-take-le}
use lib.Dec.{eqb}
use Rattle.base_choices.specs.Choices.{pick}
use Rattle.base_choices.proofs.Laws.{both_right}
use Rattle.glow_rows.specs.declared.Cell.{Cell}
use Rattle.glow_rows.specs.Entry.{Entry, Entries, words, row, Rows, overlay}
use Rattle.glow_grammar.specs.Grammar.{rule_of}
use Rattle.glow_trees.specs.Content.{contents_of, Item, items_of}
use Rattle.glow_trees.specs.Rows.{cell_at, cells_from, entry_of, entries_of, items_in}
use Rattle.glow_trees.specs.Trees.{Trees, none, tree, count, flat}
use Rattle.glow_trees.specs.Legal.{is_none, path_after, is_root, legal, legal_root}
use Rattle.trees_read_back.proofs.Bools.{never}
use Rattle.trees_read_back.proofs.Growth.{right}
use Rattle.trees_accepted.proofs.Lists.{items-length}

-- the cells of a row without its first cell stand three words before
module _ (k p a b d : ℕ) (ws : List ℕ) where
  cell-on : (c : ℕ) → cell_at (k ∷ p ∷ a ∷ b ∷ d ∷ ws) (suc c) ≡ cell_at (k ∷ p ∷ ws) c
  cell-on c =
      let x : 2 + suc c * 3 ≡ suc (suc (suc (suc (suc (c * 3))))) = omega arith in
      let y : 3 + suc c * 3 ≡ suc (suc (suc (suc (suc (suc (c * 3)))))) = omega arith in
      let z : 4 + suc c * 3 ≡ suc (suc (suc (suc (suc (suc (suc (c * 3))))))) = omega arith in
      let x' : 2 + c * 3 ≡ suc (suc (c * 3)) = omega arith in
      let y' : 3 + c * 3 ≡ suc (suc (suc (c * 3))) = omega arith in
      let z' : 4 + c * 3 ≡ suc (suc (suc (suc (c * 3)))) = omega arith in
      rw (x, y, z, x', y', z') refl

  cells-on : (n c : ℕ) → cells_from n (suc c) (k ∷ p ∷ a ∷ b ∷ d ∷ ws) ≡ cells_from n c (k ∷ p ∷ ws)
  unfolding cells_from
  cells-on zero c = refl
  cells-on (suc n) c = rw (cell-on c, cells-on n (suc c)) refl

cells-row : (k p : ℕ) (vs : List Cell) → cells_from (length vs) 0 (k ∷ p ∷ words vs) ≡ vs
unfolding cells_from words
cells-row k p [] = refl
cells-row k p (v ∷ vs) =
    ap (λ (l : List Cell). v ∷ l) (cells-on k p v.kind v.first v.second (words vs) (length vs) 0 ∙ cells-row k p vs)

entry_row : (e : Entry) → length e.cells ≡ 16 → entry_of (row e) ≡ e
entry_row e h =
    ap (λ (l : List Cell). record { kind = e.kind; parent = e.parent; cells = l })
    (ap (λ (n : ℕ). cells_from n 0 (row e)) (sym h) ∙ cells-row e.kind e.parent e.cells)

-- entries of sixteen cells each
abbrev pub Sixteen : Entries → Type 0
Sixteen [] = Unit {0}
Sixteen (e ∷ es) = (length e.cells ≡ 16) × Sixteen es

entries-back : (es : Entries) (rows : Rows) → Sixteen es → length es ≤ length rows → entries_of (take (length es) (overlay es rows)) ≡ es
unfolding entries_of overlay
entries-back [] rows h l = refl
entries-back (e ∷ es) [] h l = absurd (omega arith)
entries-back (e ∷ es) (r ∷ rows) h l =
    let k : length es ≤ length rows = omega arith in
    ap (λ (x : Entry). x ∷ entries_of (take (length es) (overlay es rows))) (entry_row e h.0)
    ∙ ap (λ (x : Entries). e ∷ x) (entries-back es rows h.1 k)

-- The rows that the reader leaves hold the entries that it read.
pub rows-items : (s : List ℕ) (es : Entries) (rows : Rows) → Sixteen es → length es ≤ length rows → items_in s (overlay es rows) (length es) ≡ items_of s es
unfolding items_in
rows-items s es rows h l = ap (items_of s) (entries-back es rows h l)

-- As many entries as rows.
entries-length : (rows : Rows) → length (entries_of rows) ≡ length rows
unfolding entries_of
entries-length [] = refl
entries-length (r ∷ rows) = ap suc (entries-length rows)

pub items-count : (s : List ℕ) (rows : Rows) (n : ℕ) → n ≤ length rows → length (items_in s rows n) ≡ n
unfolding items_in
items-count s rows n h = items-length s (entries_of (take n rows)) ∙ entries-length (take n rows) ∙ length-take-le n rows h

-- children or connections that are none are legal
pub legal-held : (b : Bool) (which k above : ℕ) (t : Trees) → pick b (legal which k above t) (is_none t) ≡ true → legal which k above t ≡ true
unfolding legal
legal-held true which k above t e = e
legal-held false which k above none e = refl
legal-held false which k above (tree kind members kids links rest) e = never e

-- The entries of a legal tree have sixteen members each.
abbrev Full : List Item → Type 0
Full [] = Unit {0}
Full (e ∷ es) = (length e.members ≡ 16) × Full es

full-append : (a b : List Item) → Full a → Full b → Full (a ++ b)
full-append [] b x y = y
full-append (e ∷ a) b x y = (x.0, full-append a b x.1 y)

flat-full : (t : Trees) (which k above parent i : ℕ) → legal which k above t ≡ true → Full (flat parent i t)
unfolding flat
flat-full none which k above parent i e = tt
flat-full (tree kind members kids links rest) which k above parent i e =
    let r = right which k above kind members kids links rest e in
    let path = path_after kind above members in
    let a = flat-full kids 1 (k - 4) path (suc i) (suc i) (legal-held (eqb (rule_of kind 2) 14) 1 (k - 4) path kids r.below) in
    let b = flat-full links 2 (k - 4) path (suc i) (suc i + count kids) (legal-held (eqb (rule_of kind 5) 15) 2 (k - 4) path links r.linked) in
    let c = flat-full rest which k above parent (suc i + (count kids + count links)) r.others in
    (r.size, full-append (flat (suc i) (suc i) kids) _ a (full-append (flat (suc i) (suc i + count kids) links) _ b c))

contents-length : (s : List ℕ) (vs : List Cell) → length (contents_of s vs) ≡ length vs
unfolding contents_of
contents-length s [] = refl
contents-length s (v ∷ vs) = ap suc (contents-length s vs)

cells-sixteen : (s : List ℕ) (es : Entries) → Full (items_of s es) → Sixteen es
unfolding items_of
cells-sixteen s [] h = tt
cells-sixteen s (e ∷ es) h = (sym (contents-length s e.cells) ∙ h.0, cells-sixteen s es h.1)

pub tree-sixteen : (s : List ℕ) (es : Entries) (root : ℕ) (t : Trees) → legal_root root t ≡ true → items_of s es ≡ flat 0 0 t → Sixteen es
unfolding legal_root
tree-sixteen s es root t e q = cells-sixteen s es (subst Full (sym q) (flat-full t root 62 0 0 0 (both_right (is_root root) _ e)))
