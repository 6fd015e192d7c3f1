-- The entries of a sheet are read as its desk.
use Rattle.std.specs.Prelude.{Option, Some, None}
use Prim.Native.Nat.{ℕ, zero, suc, ◌+◌, ◌*◌, ◌≤◌}
use mathlib.Core.Path.{◌≡◌, refl, sym, ap, subst, ◌∙◌}
use mathlib.Core.List.{List, [], ◌∷◌, append-nil}
use mathlib.Core.Bool.{Bool, true, false}
use native.Mathlib.Omega.{arith}
use borrow.Author.Tests.{eq-eqb, le-leb}
use lib.ListN.{length, drop}
use lib.Dec.{leb, eqb}
use Rattle.base_choices.specs.Choices.{pick, both}
use Rattle.base_choices.proofs.Laws.{both_left, both_right}
use Rattle.ber_identifiers.specs.Identifier.{numbers, arcs, oid_octets, in_range}
use Rattle.ber_identifiers.proofs.RoundTrip.{arcs-read}
use Rattle.glow_grammar.specs.Grammar.{qualified_matrix}
use Rattle.glow_trees.specs.Content.{Item, item}
use Rattle.glow_trees.specs.Trees.{none, flat, count}
use Rattle.desk_crosspoints.specs.declared.Figures.{Figures}
use Rattle.desk_crosspoints.specs.Figures.{side, figures_fit, cells_of}
use Rattle.desk_crosspoints.specs.Crosspoints.{Cells, row_at, clear, with_row, legal}
use Rattle.desk_crosspoints.specs.Desk.{Desk, desk_at, with_cells, all_numbers, path_fits, desk_legal, answer, desk_opened}
use Rattle.desk_crosspoints.proofs.Laws.{fit-targets-le, fit-sources-le}
use Rattle.desk_crosspoints.proofs.Legal.{legal-fit}
use Rattle.desk_crosspoints.proofs.Counts.{clear-length}
use Rattle.desk_crosspoints.proofs.Under.{take_short}
use Rattle.glow_paths.specs.Paths.{list_of, numbers_in, octets_of, is_qualified, path_up, full_path, same}
use Rattle.desk_connections.specs.Connections.{Ask, ask, ask_of, asks_in, asks_of}
use Rattle.desk_calls.specs.Calls.{answered, Served, served, handled}
use Rattle.sheet_rules.specs.Sheet.{sources_from, sources_at, list, limit, left_out, matrix_members, links, sheet_tree}
use Rattle.sheet_rules.specs.Reading.{read, first_refused, applied, begun, empty_desk, opens, limit_in, figures_in, path_in, all_links, of_entries}
use Rattle.sheet_rules.proofs.Step.{Front, front-none, front-all, step-done, step-front}

-- ---- numbers in their range are read back

pub arcs-back : (ns : List ℕ) → in_range ns ≡ true → arcs (oid_octets ns) 0 (length (oid_octets ns)) ≡ numbers ns
arcs-back ns r =
    arcs-read ns r (oid_octets ns) 0 (0 + length (oid_octets ns)) (length (oid_octets ns)) [] (sym (append-nil (oid_octets ns))) refl (omega arith) (omega arith)

pub numbers-back : (ns : List ℕ) → in_range ns ≡ true → numbers_in (oid_octets ns) ≡ ns
unfolding numbers_in
numbers-back ns r = ap list_of (arcs-back ns r)

pub list_back : (ns : List ℕ) → in_range ns ≡ true → numbers_in (octets_of (list ns)) ≡ ns
unfolding oid_octets
list_back [] r = numbers-back [] r
list_back (n ∷ ns) r = numbers-back (n ∷ ns) r

pub sources-range : (s : ℕ) (cs : Cells) → s + length cs ≤ 2147483648 → in_range (sources_from s cs) ≡ true
unfolding sources_from
sources-range s [] h = refl
sources-range s (c ∷ cs) h = go (eqb c 0) (sources-range (suc s) cs (omega arith))
  where
    go : (u : Bool) → in_range (sources_from (suc s) cs) ≡ true → in_range (pick u (sources_from (suc s) cs) (s ∷ sources_from (suc s) cs)) ≡ true
    go true r = r
    go false r = let k : s ≤ 2147483647 = omega arith in simp (le-leb _ _ k) r

pub row-range : (d : Desk) (t : ℕ) → d.figures.sources ≤ side → in_range (sources_at d t) ≡ true
unfolding row_at
row-range d t h =
    let w = d.figures.sources in
    sources-range 0 (row_at w d.crosspoints t) (omega (arith, take_short w (drop (t * w) d.crosspoints), h))

pub path-range : (ns : List ℕ) → all_numbers ns ≡ true → in_range ns ≡ true
unfolding all_numbers
path-range [] e = refl
path-range (n ∷ ns) e = go (leb 1 n) (leb n 2147483647) e (path-range ns)
  where
    go : (a b : Bool) → pick (both a b) (all_numbers ns) false ≡ true → (all_numbers ns ≡ true → in_range ns ≡ true) → pick b (in_range ns) false ≡ true
    go true true k r = r k
    go true false k r = k
    go false true k r = let z : false ≡ true = k in absurd (no z)
      where
        no : false ≡ true → ⊥
        no q = let y : ◌≡◌ {A = ℕ} 0 1 = cc in omega arith
    go false false k r = k

-- ---- the requests of a sheet

same_self : (ns : List ℕ) → same ns ns ≡ true
unfolding same
same_self [] = refl
same_self (n ∷ ns) = simp (eq-eqb n n refl) (same_self ns)

unfoldable pub asks_from : Desk → ℕ → ℕ → List Ask
asks_from d t zero = []
asks_from d t (suc n) = ask d.path t (sources_at d t) 0 ∷ asks_from d (suc t) n

module _ (d : Desk) (h : legal d.figures d.crosspoints ≡ true) where
  -- they are all done, and set row after row
  pub record Done (z : Served) : Type 0 where
    pub right : first_refused z.answers ≡ 0
    pub all : z.cells ≡ d.crosspoints

  serve : (n t : ℕ) → t + n ≡ d.figures.targets → (x : Cells) → Front d t x → Done (served (with_cells d x) (asks_from d t n))
  unfolding served asks_from answered first_refused
  serve zero t e x fr =
      let i : t ≡ d.figures.targets = omega arith in
      record { right = refl; all = front-all d h x (subst (λ (k : ℕ). Front d k x) i fr) }
  serve (suc n) t e x fr =
      let g = step-done d h t (omega arith) x fr in
      let row = row_at d.figures.sources d.crosspoints t in
      let r = serve n (suc t) (omega arith) (with_row d.figures.sources x t row) (step-front d h t (omega arith) x fr) in
      rw (same_self d.path, g) (record { right = r.right; all = r.all })

  pub serve-all : Done (served (empty_desk d.figures d.path) (asks_from d 0 d.figures.targets))
  serve-all = serve d.figures.targets 0 (omega arith) (clear (cells_of d.figures)) (front-none d)

-- ---- what the entries ask

module _ (d : Desk) (few : d.figures.sources ≤ side) (es : List Item) (there : full_path es 1 ≡ d.path) where
  pub links-ask : (n t i : ℕ) → asks_in es (flat 1 i (links d t n)) ≡ asks_from d t n
  unfolding asks_in ask_of flat links asks_from left_out
  links-ask zero t i = refl
  links-ask (suc n) t i =
      let j = suc i + (count none + count none) in
      let later = asks_in es (flat 1 j (links d (suc t) n)) in
      ap (λ (p : List ℕ). ask p t (numbers_in (octets_of (list (sources_at d t)))) 0 ∷ later) there
      ∙ ap (λ (ss : List ℕ). ask d.path t ss 0 ∷ later) (list_back _ (row-range d t few))
      ∙ ap (λ (as' : List Ask). ask d.path t (sources_at d t) 0 ∷ as') (links-ask n (suc t) j)

pub links-all : (d : Desk) (n t i : ℕ) → all_links (flat 1 i (links d t n)) ≡ true
unfolding all_links flat links
links-all d zero t i = refl
links-all d (suc n) t i = links-all d n (suc t) (suc i + (count none + count none))

limit-back : (l : Option ℕ) → limit_in (limit l) ≡ l
limit-back None = refl
limit-back (Some n) = refl

-- The entries of a legal desk's sheet are read as the desk.
module _ (d : Desk) (ok : desk_legal d ≡ true) where
  abbrev f : Figures
  f = d.figures

  abbrev path : List ℕ
  path = d.path

  pub path-ok : path_fits d.path ≡ true
  unfolding desk_legal
  path-ok = both_left (path_fits path) (legal f d.crosspoints) ok

  pub cells-ok : legal d.figures d.crosspoints ≡ true
  unfolding desk_legal
  cells-ok = both_right (path_fits path) (legal f d.crosspoints) ok

  pub figures-ok : figures_fit d.figures ≡ true
  figures-ok = legal-fit f d.crosspoints cells-ok

  pub targets-few : d.figures.targets ≤ side
  targets-few = fit-targets-le f figures-ok

  pub sources-few : d.figures.sources ≤ side
  sources-few = fit-sources-le f figures-ok

  pub path-small : in_range d.path ≡ true
  unfolding path_fits
  path-small = path-range path (both_right (both (leb 1 (length path)) (leb (length path) 16)) (all_numbers path) path-ok)

  abbrev top : Item
  top = item qualified_matrix 0 (matrix_members f path)

  abbrev below : List Item
  below = flat 1 1 (links d 0 f.targets)

  pub flat-sheet : flat 0 0 (sheet_tree d) ≡ top ∷ below
  unfolding flat sheet_tree count
  flat-sheet = ap (λ (es : List Item). top ∷ es) (append-nil below)

  path-back : path_in top ≡ path
  path-back = numbers-back path path-small

  top-path : full_path (top ∷ below) 1 ≡ path
  unfolding path_up is_qualified
  top-path = let h : 1 ≤ suc (length below) = omega arith in rw (le-leb _ _ h) path-back

  asks_back : asks_of (top ∷ below) ≡ asks_from d 0 f.targets
  unfolding asks_in
  asks_back = links-ask d sources-few (top ∷ below) top-path f.targets 0 1

  figures-back : figures_in top ≡ f
  figures-back =
      ap (λ (l : Option ℕ). record { kind = f.kind; targets = f.targets; sources = f.sources; total = l; each = limit_in (limit f.each) })
      (limit-back f.total)
      ∙ ap (λ (l : Option ℕ). record { kind = f.kind; targets = f.targets; sources = f.sources; total = f.total; each = l }) (limit-back f.each)

  opened-empty : desk_opened (empty_desk f path) 0 ≡ answer 0 (clear (cells_of f))
  unfolding desk_opened
  opened-empty = rw (figures-ok, eq-eqb _ _ (clear-length (cells_of f)), path-ok) refl

  applied_back : (z : Served) → Done d cells-ok z → applied (empty_desk f path) z ≡ read d
  unfolding applied
  applied_back z e = rw e.right (ap (λ (c : Cells). read (desk_at f path c)) e.all)

  opens_back : opens f path 0 (top ∷ below) ≡ read d
  unfolding opens begun handled
  opens_back =
      rw opened-empty
      (ap (λ (as' : List Ask). applied (empty_desk f path) (served (empty_desk f path) as')) asks_back ∙ applied_back _ (serve-all d cells-ok))

  pub entries-read : of_entries (flat 0 0 (sheet_tree d)) ≡ read d
  unfolding of_entries
  entries-read =
      ap of_entries flat-sheet
      ∙ rw (links-all d f.targets 0 1)
      (ap (λ (g : Figures). opens g (path_in top) 0 (top ∷ below)) figures-back
      ∙ ap (λ (p : List ℕ). opens f p 0 (top ∷ below)) path-back ∙ opens_back)
