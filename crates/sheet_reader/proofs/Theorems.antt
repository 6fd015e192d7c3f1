-- The theorems of the route sheet reader, over the equation of its contract (`sheet_read text store path cells ≡ outcome_of r ..`): the sheet of every legal desk
-- is read back as that desk, a desk that was read is legal, a refusal leaves path and crosspoints as they were, and SETUP and a bad line the store too.
use Rattle.std.specs.Prelude.{Result, Ok, Err}
use Rattle.ber_containers.specs.declared.No.{No}
use Prim.Native.Nat.{ℕ}
use mathlib.Core.Path.{◌≡◌, refl, sym, ap, ◌∙◌}
use mathlib.Core.List.{List, [], ◌∷◌, ◌++◌}
use mathlib.Core.Bool.{true}
use native.Mathlib.Omega.{arith}
use borrow.Author.Tests.{eq-eqb, eqb-true}
use lib.Dec.{ltb, eqb}
use lib.ListN.{length, take, drop}
use lib.Seq.{take_at, drop_at}
use Rattle.base_choices.specs.Choices.{both}
use Rattle.base_choices.proofs.Laws.{pick-by}
use Rattle.glow_rows.specs.Entry.{Entries}
use Rattle.glow_trees.specs.Content.{Item, items_of}
use Rattle.glow_walk.specs.Walk.{walk}
use Rattle.desk_crosspoints.specs.declared.Figures.{Figures}
use Rattle.desk_crosspoints.specs.Figures.{most_cells, cells_of}
use Rattle.desk_crosspoints.specs.Crosspoints.{Cells}
use Rattle.desk_crosspoints.specs.Desk.{Desk, desk_at, with_cells, desk_legal, desk_opened}
use Rattle.desk_crosspoints.proofs.Legal.{legal-length}
use Rattle.desk_crosspoints.proofs.Paths.{desk-rest, desk-fits, desk-legal}
use Rattle.desk_crosspoints.proofs.Opened.{open-legal}
use Rattle.desk_calls.specs.Calls.{handled}
use Rattle.desk_calls.proofs.Claims.{handled-legal}
use Rattle.sheet_rules.specs.Sheet.{sheet_of}
use Rattle.sheet_rules.specs.Lines.{Stream, lines_in, is_bad}
use Rattle.sheet_rules.specs.Reading as reading
use Rattle.sheet_rules.specs.Reading.{Held, refusal, message, refused, first_refused, applied, begun, empty_desk, opens}
use Rattle.sheet_rules.specs.Reading.{figures_in, path_in, mode_in, all_links, of_entries}
use Rattle.sheet_rules.specs.Reading.{of_answer, of_message, held_in, of_held, read_sheet}
use Rattle.sheet_rules.proofs.Theorems.{sheet-read}
use Rattle.sheet_stream.specs.Finding.{store_after}
use Rattle.sheet_stream.proofs.Lines.{lines-bad}
use Rattle.sheet_reader.specs.declared.Sheet.{Sheet}
use Rattle.sheet_reader.specs.declared.Sheet.TheVariants.{Setup, Refused, Read}
use Rattle.sheet_reader.specs.Calls.{Given, Outcome, outcome, setup, none, leaves, is_ready, sheet_read, outcome_of}
use Rattle.sheet_reader.specs.Calls as calls

-- What is lent has the lengths that the reader asks.
pub record Ready (s p c : List ℕ) : Type 0 where
  pub store : length s ≡ 17408
  pub path : length p ≡ 16
  pub cells : length c ≡ most_cells

ready-reads : (text store path cells : List ℕ) → Ready store path cells
    → sheet_read text store path cells ≡ leaves (read_sheet text) (store_after (lines_in text) store) path cells
unfolding sheet_read is_ready
ready-reads text store path cells h = rw (eq-eqb _ _ h.store, eq-eqb _ _ h.path, eq-eqb _ _ h.cells)

-- A desk is answered: its figures, with the limits as given; its path in the first words of the lent one and its crosspoints in the first of the lent cells,
-- the others as they were.
pub record ReadAs (d : Desk) (r : Sheet) (before after lent left : List ℕ) : Type 0 where
  pub answer : r ≡ Read d.figures (length d.path)
  pub path : take (length d.path) after ≡ d.path
  pub rest : drop (length d.path) after ≡ drop (length d.path) before
  pub cells : take (length d.crosspoints) left ≡ d.crosspoints
  pub others : drop (length d.crosspoints) left ≡ drop (length d.crosspoints) lent

abbrev figures_or : Figures → Given → Figures
figures_or f setup = f
figures_or f none = f
figures_or f (calls.desk g n) = g

abbrev length_or : Given → ℕ
length_or setup = 0
length_or none = 0
length_or (calls.desk g n) = n

read_as : (d : Desk) (store path : List ℕ) (cells : Cells) (r : Sheet) (store' path' : List ℕ) (cells' : Cells)
    → leaves (reading.read d) store path cells ≡ outcome_of r store' path' cells' → ReadAs d r path path' cells cells'
read_as d store path cells Setup store' path' cells' e =
    let x : calls.desk d.figures (length d.path) ≡ setup = ap (λ (o : Outcome). o.given) e in
    let z : ◌≡◌ {A = ℕ} 0 1 = cc in
    absurd (omega arith)
read_as d store path cells (Refused n) store' path' cells' e =
    let x : calls.desk d.figures (length d.path) ≡ none = ap (λ (o : Outcome). o.given) e in
    let z : ◌≡◌ {A = ℕ} 0 1 = cc in
    absurd (omega arith)
read_as d store path cells (Read f m) store' path' cells' e =
    let g : d.figures ≡ f = ap (λ (o : Outcome). figures_or f o.given) e in
    let k : length d.path ≡ m = ap (λ (o : Outcome). length_or o.given) e in
    let p : d.path ++ drop (length d.path) path ≡ path' = ap (λ (o : Outcome). o.path) e in
    let n = length d.crosspoints in
    let q : d.crosspoints ++ drop n cells ≡ cells' = ap (λ (o : Outcome). o.cells) e in
    record {
      answer = ap (λ (x : Figures). Read x m) (sym g) ∙ ap (Read d.figures) (sym k);
      path = ap (take (length d.path)) (sym p) ∙ take_at d.path (drop (length d.path) path) (length d.path) refl;
      rest = ap (drop (length d.path)) (sym p) ∙ drop_at d.path (drop (length d.path) path) (length d.path) refl;
      cells = ap (take n) (sym q) ∙ take_at d.crosspoints (drop n cells) n refl;
      others = ap (drop n) (sym q) ∙ drop_at d.crosspoints (drop n cells) n refl;
    }

module _ (text store path : List ℕ) (cells : Cells) (lent : Ready store path cells) (r : Sheet)
    (store' path' : List ℕ) (cells' : Cells)
    (call : sheet_read text store path cells ≡ outcome_of r store' path' cells') where
  -- 1. The sheet of a legal desk is read back as that desk.
  pub read_back : (d : Desk) → desk_legal d ≡ true → text ≡ sheet_of d → ReadAs d r path path' cells cells'
  read_back d ok e =
      read_as d (store_after (lines_in text) store) path cells r store' path' cells'
      (sym (ready-reads text store path cells lent
      ∙ ap (λ (x : reading.Sheet). leaves x (store_after (lines_in text) store) path cells) (ap read_sheet e ∙ sheet-read d ok))
      ∙ call)

-- 2. A desk that was read is legal.
abbrev Legal : reading.Sheet → Type 0
Legal (refused n) = Unit {0}
Legal (reading.read d) = desk_legal d ≡ true

applied-legal : (d : Desk) (es : List Item) → desk_legal d ≡ true → Legal (applied d (handled d es))
unfolding applied
applied-legal d es h =
    pick-by Legal (eqb (first_refused (handled d es).answers) 0)
    (λ e. desk-rest (with_cells d (handled d es).cells) (desk-fits d h) ∙ handled-legal d es (desk-legal d h)) (λ e. tt)

opens-legal : (f : Figures) (path : List ℕ) (mode : ℕ) (es : List Item) → Legal (opens f path mode es)
unfolding opens begun applied
opens-legal f path mode es =
    let d = empty_desk f path in
    let a = desk_opened d mode in
    pick-by Legal (eqb a.number 0)
    (λ e. applied-legal (with_cells d a.cells) es (open-legal d mode (eqb-true a.number 0 e)))
    (λ e. tt)

entries-legal : (es : List Item) → Legal (of_entries es)
unfolding of_entries
entries-legal [] = tt
entries-legal (e ∷ es) =
    pick-by Legal (both (eqb e.kind 7) (all_links es)) (λ h. opens-legal (figures_in e) (path_in e) (mode_in e) (e ∷ es)) (λ h. tt)

answer-legal : (m : List ℕ) (es : Entries) (a : Result ℕ No) → Legal (of_answer m es a)
answer-legal m es (Ok next) = pick-by Legal (ltb 256 (length es)) (λ h. tt) (λ h. entries-legal (items_of m es))
answer-legal m es (Err e) = tt

held-legal : (h : Held) → Legal (of_held h)
unfolding of_message
held-legal (refusal n) = tt
held-legal (message m) = answer-legal m (walk m).out.entries (walk m).out.answer

read-legal : (text : List ℕ) → Legal (read_sheet text)
unfolding read_sheet
read-legal text = held-legal (held_in (lines_in text))

-- what an answer that names a desk tells
by-sheet : (x : reading.Sheet) → Legal x → (store path : List ℕ) (cells : Cells) (f : Figures) (n : ℕ) (store' path' : List ℕ) (cells' : Cells)
    → leaves x store path cells ≡ outcome_of (Read f n) store' path' cells' → desk_legal (desk_at f (take n path') (take (cells_of f) cells')) ≡ true
by-sheet (refused k) l store path cells f n store' path' cells' e =
    let x : none ≡ calls.desk f n = ap (λ (o : Outcome). o.given) e in
    let z : ◌≡◌ {A = ℕ} 0 1 = cc in
    absurd (omega arith)
by-sheet (reading.read d) l store path cells f n store' path' cells' e =
    let r = read_as d store path cells (Read f n) store' path' cells' e in
    let g : d.figures ≡ f = ap (λ (o : Outcome). figures_or f o.given) e in
    let k : length d.path ≡ n = ap (λ (o : Outcome). length_or o.given) e in
    let p : take n path' ≡ d.path = ap (λ (i : ℕ). take i path') (sym k) ∙ r.path in
    let m : cells_of f ≡ length d.crosspoints = ap cells_of (sym g) ∙ sym (legal-length d.figures d.crosspoints (desk-legal d l)) in
    let q : take (cells_of f) cells' ≡ d.crosspoints = ap (λ (i : ℕ). take i cells') m ∙ r.cells in
    ap (λ (y : Figures). desk_legal (desk_at y (take n path') (take (cells_of f) cells'))) (sym g)
    ∙ ap (λ (y : List ℕ). desk_legal (desk_at d.figures y (take (cells_of f) cells'))) p
    ∙ ap (λ (y : Cells). desk_legal (desk_at d.figures d.path y)) q
    ∙ l

module _ (text store path : List ℕ) (cells : Cells) where
  by-ready : (P : Outcome → Type 0) → P (leaves (read_sheet text) (store_after (lines_in text) store) path cells)
      → P (outcome 1 setup store path cells)
      → P (sheet_read text store path cells)
  unfolding sheet_read
  by-ready P a b = pick-by P (is_ready store path cells) (λ h. a) (λ h. b)

  pub desk-read-legal : (f : Figures) (n : ℕ) (store' path' : List ℕ) (cells' : Cells)
      → sheet_read text store path cells ≡ outcome_of (Read f n) store' path' cells'
      → desk_legal (desk_at f (take n path') (take (cells_of f) cells')) ≡ true
  desk-read-legal f n store' path' cells' =
      by-ready (λ (o : Outcome). o ≡ outcome_of (Read f n) store' path' cells' → desk_legal (desk_at f (take n path') (take (cells_of f) cells')) ≡ true)
      (by-sheet (read_sheet text) (read-legal text) (store_after (lines_in text) store) path cells f n store' path' cells')
      (λ e.
      let x : setup ≡ calls.desk f n = ap (λ (o : Outcome). o.given) e in
      let z : ◌≡◌ {A = ℕ} 0 1 = cc in
      absurd (omega arith))

  -- 3. A refusal leaves path and crosspoints as they were, and the store as the lines' bytes leave it.
  as-was : (x : reading.Sheet) (s : List ℕ) (n : ℕ) (store' path' : List ℕ) (cells' : Cells)
      → leaves x s path cells ≡ outcome_of (Refused n) store' path' cells' → (store' ≡ s) × ((path' ≡ path) × (cells' ≡ cells))
  as-was (refused k) s n store' path' cells' e =
      (sym (ap (λ (o : Outcome). o.store) e), (sym (ap (λ (o : Outcome). o.path) e), sym (ap (λ (o : Outcome). o.cells) e)))
  as-was (reading.read d) s n store' path' cells' e =
      let x : calls.desk d.figures (length d.path) ≡ none = ap (λ (o : Outcome). o.given) e in
      let z : ◌≡◌ {A = ℕ} 0 1 = cc in
      absurd (omega arith)

  pub refused-as-was : (n : ℕ) (store' path' : List ℕ) (cells' : Cells) → sheet_read text store path cells ≡ outcome_of (Refused n) store' path' cells'
      → (store' ≡ store_after (lines_in text) store) × ((path' ≡ path) × (cells' ≡ cells))
  refused-as-was n store' path' cells' =
      by-ready
      (λ (o : Outcome). o ≡ outcome_of (Refused n) store' path' cells' → (store' ≡ store_after (lines_in text) store) × ((path' ≡ path) × (cells' ≡ cells)))
      (as-was (read_sheet text) (store_after (lines_in text) store) n store' path' cells')
      (λ e.
      let x : setup ≡ none = ap (λ (o : Outcome). o.given) e in
      let z : ◌≡◌ {A = ℕ} 0 1 = cc in
      absurd (omega arith))

  -- 4. SETUP leaves everything as it was.
  not-read : (x : reading.Sheet) (s store' path' : List ℕ) (cells' : Cells) → leaves x s path cells ≡ outcome_of Setup store' path' cells' → ⊥
  not-read (refused k) s store' path' cells' e =
      let x : none ≡ setup = ap (λ (o : Outcome). o.given) e in
      let z : ◌≡◌ {A = ℕ} 0 1 = cc in
      omega arith
  not-read (reading.read d) s store' path' cells' e =
      let x : calls.desk d.figures (length d.path) ≡ setup = ap (λ (o : Outcome). o.given) e in
      let z : ◌≡◌ {A = ℕ} 0 1 = cc in
      omega arith

  pub setup-as-was : (store' path' : List ℕ) (cells' : Cells) → sheet_read text store path cells ≡ outcome_of Setup store' path' cells'
      → (store' ≡ store) × ((path' ≡ path) × (cells' ≡ cells))
  setup-as-was store' path' cells' =
      by-ready (λ (o : Outcome). o ≡ outcome_of Setup store' path' cells' → (store' ≡ store) × ((path' ≡ path) × (cells' ≡ cells)))
      (λ e. absurd (not-read (read_sheet text) (store_after (lines_in text) store) store' path' cells' e))
      (λ e. (sym (ap (λ (o : Outcome). o.store) e), (sym (ap (λ (o : Outcome). o.path) e), sym (ap (λ (o : Outcome). o.cells) e))))

  -- 5. "12 for any bad line", and everything as it was: the text is judged before a byte of it is fed.
  pub bad-as-was : Ready store path cells → is_bad (lines_in text) ≡ true → sheet_read text store path cells ≡ outcome_of (Refused 12) store path cells
  unfolding read_sheet
  bad-as-was lent h =
      ready-reads text store path cells lent
      ∙ ap (λ (x : Stream). leaves (of_held (held_in x)) (store_after x store) path cells) (lines-bad (lines_in text) h)
