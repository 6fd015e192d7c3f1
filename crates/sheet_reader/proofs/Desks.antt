-- A desk from entries: opened, its connections applied, handed over.
use Prim.Native.Nat.{ℕ, ◌-◌, ◌≤◌, ◌<◌, ◌^◌}
use mathlib.Core.Path.{◌≡◌, refl, sym, ap, subst, ◌∙◌}
use mathlib.Core.List.{List, [], ◌∷◌, ◌++◌}
use mathlib.Core.Bool.{Bool, true, false, true≢false}
use native.Mathlib.Omega.{arith}
use borrow.Author.Tests.{eq-eqb, ne_eqb}
use lib.ListN.{length, take, drop, get_or, length-take}
use lib.Seq.{take_at, take-length}
use lib.Dec.{eqb}
use Rattle.base_choices.specs.Choices.{pick, both}
use Rattle.glow_rows.specs.Entry.{Rows}
use Rattle.glow_rows.specs.declared.Cell.{Cell}
use Rattle.glow_rows.specs.Cell.{number_in}
use Rattle.glow_trees.specs.Content.{Item, content_of, contents_of, item_of, items_of}
use Rattle.glow_trees.specs.Rows.{cells_from, entry_of, entries_of, items_in}
use Rattle.glow_sizes.specs.Accepted.{accepted}
use Rattle.desk_crosspoints.specs.declared.Figures.{Figures}
use Rattle.desk_crosspoints.specs.Figures.{most_cells, figures_fit, cells_of, size_of}
use Rattle.desk_crosspoints.specs.Crosspoints.{Cells, clear}
use Rattle.desk_crosspoints.specs.Desk.{Desk, desk_at, with_cells, path_fits, desk_legal, Answer, answer, desk_opened}
use Rattle.desk_crosspoints.proofs.Laws.{fit-targets-le, fit-sources-le}
use Rattle.desk_crosspoints.proofs.Counts.{clear-length}
use Rattle.desk_crosspoints.proofs.Under.{size_small}
use Rattle.desk_crosspoints.proofs.Paths.{path-short}
use Rattle.desk_crosspoints.proofs.Opened.{open-legal}
use Rattle.desk_calls.specs.declared.Called.{Called}
use Rattle.glow_rows.specs.Row.{row_cell}
use Rattle.glow_paths.specs.Paths.{number_of, octets_of, numbers_in, member_of, nobody}
use Rattle.desk_calls.specs.Calls.{Served, handled, Outcome, filled, laid, called, outcome_of as answered}
use Rattle.glow_paths.proofs.Items.{in-at}
use Rattle.desk_connections.proofs.Rows.{number_is}
use Rattle.desk_setup.proofs.Laws.{ready-from}
use Rattle.desk_calls.proofs.Setup.{called-ready}
use Rattle.sheet_rules.specs.Reading as reading
use Rattle.sheet_rules.specs.Reading.{refused, first_refused, applied, begun, empty_desk, opens, figures_in, mode_in, path_in, of_entries}
use Rattle.sheet_reader.specs.declared.Sheet.{Sheet}
use Rattle.sheet_reader.specs.declared.Sheet.TheVariants.{Refused, Read}
use Rattle.sheet_reader.specs.Calls.{leaves}
use Rattle.sheet_entries.specs.Entries.{is_sheet, Taken}
use Rattle.sheet_entries.proofs.Members.{sheet-some}
use Rattle.sheet_reader.specs.Steps.{sheet_by, Tells}

-- ---- opened

-- no desk has more cells than the largest
pub size-most : (f : Figures) → size_of f ≤ most_cells
unfolding size_of
size-most f = go (figures_fit f) refl
  where
    go : (u : Bool) → figures_fit f ≡ u → pick u (cells_of f) 0 ≤ most_cells
    go true e = size_small f.targets f.sources (fit-targets-le f e) (fit-sources-le f e)
    go false e = omega arith

-- whatever the crosspoints held before
module _ (f : Figures) (path : List ℕ) (mode : ℕ) (es : List Item) (cells : Cells) (sized : length cells ≡ size_of f) where
  abbrev d : Desk
  d = desk_at f path cells

  opens-any : opens f path mode es ≡ begun d es (desk_opened d mode)
  unfolding opens begun applied desk_opened size_of
  opens-any = go (figures_fit f) refl
    where
      k : length (clear (cells_of f)) ≡ cells_of f
      k = clear-length (cells_of f)

      by : Bool → Cells → Answer
      by t x = pick t (answer 0 (clear (cells_of f))) (answer 45 x)

      go : (u : Bool) → figures_fit f ≡ u → begun (empty_desk f path) es (desk_opened (empty_desk f path) mode) ≡ begun d es (desk_opened d mode)
      go false e = rw e refl
      go true e =
          let l : length cells ≡ cells_of f = sized ∙ rw e refl in
          rw (e, eq-eqb _ _ k, eq-eqb _ _ l) (last (both (eqb mode 0) (path_fits path)))
        where
          last : (t : Bool) → begun (empty_desk f path) es (by t (clear (cells_of f))) ≡ begun d es (by t cells)
          last true = refl
          last false = refl

  module _ (x : ℕ) (after : Cells) (e : desk_opened (desk_at f path cells) mode ≡ answer x after) where
    pub opens_not : (x ≡ 0 → ⊥) → (cells' : Cells) → opens f path mode es ≡ sheet_by x f path cells'
    unfolding begun sheet_by
    opens_not n cells' = opens-any ∙ ap (begun d es) e ∙ rw (ne_eqb _ _ n)

    opens-applied : x ≡ 0 → opens f path mode es ≡ applied d (handled (with_cells d after) es)
    unfolding begun
    opens-applied n = opens-any ∙ ap (begun d es) e ∙ rw (eq-eqb _ _ n)

    pub opens-legal : x ≡ 0 → desk_legal (desk_at f path after) ≡ true
    opens-legal n =
        ap (λ (a : Answer). desk_legal (desk_at f path a.cells)) (sym e) ∙ open-legal d mode (ap (λ (a : Answer). a.number) e ∙ n)

-- ---- its connections

-- the answers that a call gives
laid-tells : (z : Served) (r : Called) (cells' : Cells) → laid z ≡ answered r cells'
    → (take r.count r.answers ≡ z.answers) × ((z.cells ≡ cells') × (length z.answers ≡ r.count))
unfolding laid filled
laid-tells z r cells' q =
    let n : length z.answers ≡ r.count = ap (λ (o : Outcome). o.count) q in
    let l : z.answers ++ clear (256 - length z.answers) ≡ r.answers = ap (λ (o : Outcome). o.answers) q in (
      ap (take r.count) (sym l) ∙ take_at z.answers (clear (256 - length z.answers)) r.count n,
      (ap (λ (o : Outcome). o.cells) q, n),
    )

module _ (f : Figures) (path : List ℕ) (mode : ℕ) (cells : Cells) (sized : length cells ≡ size_of f) (x : ℕ) (after : Cells)
    (e : desk_opened (desk_at f path cells) mode ≡ answer x after) (z : x ≡ 0)
    (root : ℕ) (rows : Rows) (n : ℕ) (s : List ℕ) (few : length rows ≤ 256) (short : length s ≤ 16384) (within : n ≤ length rows)
    (tree : accepted root (items_in s rows n) ≡ true) (r : Called) (cells' : Cells)
    (q : called (desk_at f path after) root rows n s ≡ answered r cells') where
  abbrev es : List Item
  es = items_in s rows n

  abbrev done : Served
  done = handled (desk_at f path after) es

  told : (take r.count r.answers ≡ done.answers) × ((done.cells ≡ cells') × (length done.answers ≡ r.count))
  told =
      laid-tells done r cells'
      (sym (called-ready (desk_at f path after) root rows n s
      (ready-from (desk_at f path after) root rows n s few short (opens-legal f path mode es cells sized x after e z) within tree)) ∙ q)

  -- an answer for each connection
  pub done-length : length (take r.count r.answers) ≡ r.count
  done-length = ap length told.0 ∙ told.1.1

  pub done-within : r.count ≤ length r.answers
  done-within = let a = length-take r.count r.answers in let b = done-length in omega (arith, a, b)

  pub opens-done : (m : ℕ) → first_refused (take r.count r.answers) ≡ m → opens f path mode (items_in s rows n) ≡ sheet_by m f path cells'
  unfolding applied sheet_by
  opens-done m g =
      let a : first_refused done.answers ≡ m = ap first_refused (sym told.0) ∙ g in
      opens-applied f path mode es cells sized x after e z ∙ rw (a, told.1.0)

-- ---- handed over

module _ (n : ℕ) (f : Figures) (numbers : List ℕ) (cells path lent : List ℕ) where
  pub hands-refused : (n ≡ 0 → ⊥) → Tells (sheet_by n f numbers cells) path lent (Refused n) path lent
  unfolding sheet_by
  hands-refused h store = rw (ne_eqb _ _ h)

  pub hands-desk : n ≡ 0 → (path' lent' : List ℕ) → path' ≡ numbers ++ drop (length numbers) path → lent' ≡ cells ++ drop (length cells) lent
      → Tells (sheet_by n f numbers cells) path lent (Read f (length numbers)) path' lent'
  unfolding sheet_by
  hands-desk h path' lent' a b store = rw (eq-eqb _ _ h, a, b)

-- equal sheets are told alike
pub tells-by : (x y : reading.Sheet) → x ≡ y → (path cells : List ℕ) (r : Sheet) (path' cells' : List ℕ) → Tells y path cells r path' cells'
    → Tells x path cells r path' cells'
tells-by x y e path cells r path' cells' t store = ap (λ (z : reading.Sheet). leaves z store path cells) e ∙ t store

-- ---- from the entries

-- those of the first rows, as rows of their own
pub first_rows : (s : List ℕ) (rows : Rows) (n : ℕ) (b : Bool) → is_sheet (items_in s (take n rows) (length (take n rows))) ≡ b
    → is_sheet (items_in s rows n) ≡ b
unfolding items_in
first_rows s rows n b h = ap (λ (x : Rows). is_sheet (items_of s (entries_of x))) (sym (take-length (take n rows))) ∙ h

-- the entry in the first row
abbrev pub first_of : List ℕ → Rows → Item
first_of s rows = item_of s (entry_of (get_or rows 0 []))

pub mode-is : (rows : Rows) (v : Cell) (mode : ℕ) → v ≡ row_cell rows 0 4 → number_in v ≡ mode → mode < 2 ^ 64 → (s : List ℕ) → mode_in (first_of s rows) ≡ mode
unfolding contents_of cells_from row_cell
mode-is rows v mode e a h s = ap (λ (x : Cell). number_of (content_of s x)) (sym e) ∙ number_is s v _ mode refl a h

-- the path's member
first_member : (s : List ℕ) (rows : Rows) → member_of (first_of s rows) 0 ≡ content_of s (row_cell rows 0 0)
unfolding contents_of cells_from row_cell
first_member s rows = refl

entries-not : (es : List Item) → is_sheet es ≡ false → of_entries es ≡ refused 33
unfolding of_entries
entries-not [] h = refl
entries-not (e ∷ es) h = rw h

entries-are : (es : List Item) → is_sheet es ≡ true
    → of_entries es ≡ opens (figures_in (get_or es 0 nobody)) (path_in (get_or es 0 nobody)) (mode_in (get_or es 0 nobody)) es
unfolding of_entries
entries-are [] h = absurd (true≢false (sym h))
entries-are (e ∷ es) h = rw h

pub tells-not : (es : List Item) (path cells : List ℕ) → is_sheet es ≡ false → Tells (of_entries es) path cells (Refused 33) path cells
tells-not es path cells h store = ap (λ (x : reading.Sheet). leaves x store path cells) (entries-not es h)

too_long : (path : List ℕ) → 16 < length path → path_fits path ≡ false
too_long path h = go (path_fits path) refl
  where
    go : (b : Bool) → path_fits path ≡ b → path_fits path ≡ false
    go true e = let l = path-short path e in absurd (omega arith)
    go false e = e

-- a desk whose path is out of range is not opened
opened-long : (d : Desk) (mode : ℕ) → length d.crosspoints ≡ cells_of d.figures → path_fits d.path ≡ false
    → desk_opened d mode ≡ answer 45 d.crosspoints
unfolding desk_opened
opened-long d mode l p = rw (eq-eqb _ _ l, p) (go (figures_fit d.figures) (eqb mode 0))
  where
    x : Answer
    x = answer 45 d.crosspoints

    go : (u v : Bool) → pick u (pick (both v false) (answer 0 (clear (cells_of d.figures))) x) x ≡ x
    go true true = refl
    go true false = refl
    go false v = refl

module _ (s : List ℕ) (rows : Rows) (n : ℕ) (h : n ≤ length rows) (sheet : is_sheet (items_in s rows n) ≡ true) where
  abbrev first : Item
  first = first_of s rows

  opens-first : of_entries (items_in s rows n) ≡ opens (figures_in first) (path_in first) (mode_in first) (items_in s rows n)
  opens-first =
      entries-are (items_in s rows n) sheet
      ∙ ap (λ (e : Item). opens (figures_in e) (path_in e) (mode_in e) (items_in s rows n)) (in-at s rows n h 0 (sheet-some s rows n sheet))

  module _ (v : Cell) (e : v ≡ row_cell rows 0 0) (r : ℕ) (list : List ℕ) (t : Taken (numbers_in (octets_of (content_of s v))) r list) where
    path-first : path_in first ≡ numbers_in (octets_of (content_of s v))
    path-first =
        ap (λ (c : Rattle.glow_trees.specs.Content.Content). numbers_in (octets_of c)) (first_member s rows)
        ∙ ap (λ (x : Cell). numbers_in (octets_of (content_of s x))) (sym e)

    -- a path of more than sixteen numbers
    pub tells-long : 16 < r → (path cells : List ℕ) → Tells (of_entries (items_in s rows n)) path cells (Refused 45) path cells
    unfolding opens begun
    tells-long k path cells store =
        let l = t.more k in
        let m : 16 < length (path_in first) = subst (λ (p : List ℕ). 16 < length p) (sym path-first) l in
        let d = empty_desk (figures_in first) (path_in first) in
        ap (λ (x : reading.Sheet). leaves x store path cells)
        (opens-first ∙ ap (begun d (items_in s rows n)) (opened-long d (mode_in first) (clear-length (cells_of (figures_in first))) (too_long (path_in first) m)))

    -- what opening and applying gives is told
    pub tells-opened : r ≤ 16 → (f : Figures) (mode : ℕ) → ((m : List ℕ) → figures_in (first_of m rows) ≡ f)
        → ((m : List ℕ) → mode_in (first_of m rows) ≡ mode)
        → (path cells : List ℕ) (x : Sheet) (path' cells' : List ℕ) → Tells (opens f (take r list) mode (items_in s rows n)) path cells x path' cells'
        → Tells (of_entries (items_in s rows n)) path cells x path' cells'
    tells-opened k f mode a b path cells x path' cells' g store =
        let p : path_in first ≡ take r list = path-first ∙ sym (t.all k) in
        ap (λ (y : reading.Sheet). leaves y store path cells)
        (opens-first
        ∙ ap (λ (y : Figures). opens y (path_in first) (mode_in first) (items_in s rows n)) (a s)
        ∙ ap (λ (y : List ℕ). opens f y (mode_in first) (items_in s rows n)) p
        ∙ ap (λ (y : ℕ). opens f (take r list) y (items_in s rows n)) (b s))
        ∙ g store
