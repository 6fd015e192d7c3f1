-- The rows that are filled hold the entries of the sheet's tree.
use Rattle.std.specs.Prelude.{Option, Some, None}
use Prim.Native.Nat.{ℕ, zero, suc, ◌+◌, ◌*◌, ◌≤◌, ◌<◌}
use mathlib.Core.Path.{◌≡◌, refl, sym, ap, ◌∙◌}
use mathlib.Core.List.{List, [], ◌∷◌, ◌++◌, append_assoc, append-nil}
use mathlib.Core.Bool.{true}
use native.Mathlib.Omega.{arith}
use borrow.Author.Tests.{le-leb, leb-true, lt-ltb, ne_eqb}
use lib.ListN.{length, take, drop, set, length-append, length-drop}
use lib.Seq.{sets, sets-eq, take_at, drop_at}
use lib.Dec.{leb}
use Rattle.base_choices.proofs.Laws.{both_right}
use Rattle.ber_integers.specs.Digits.{Put, put, outcome}
use Rattle.ber_tags.specs.Write.{septets}
use Rattle.ber_tags.proofs.Septets.{length-septets}
use Rattle.ber_identifiers.specs.Identifier.{oid_octets, put_oid}
use Rattle.glow_rows.specs.Cell.{absent, numbers, numbers_cell}
use Rattle.glow_rows.specs.Entry.{Entry, Entries, blanks, row, Rows, overlay}
use Rattle.framing_session.proofs.Lists.{sets-append}
use Rattle.glow_trees.specs.Content.{Content, bytes, content_of, contents_of, Item, item, items_of}
use Rattle.glow_trees.specs.Rows.{items_in}
use Rattle.glow_trees.specs.Trees.{none, flat, count}
use Rattle.glow_trees.specs.Written.{message_octets, written_real}
use Rattle.glow_member_sizes.specs.Sizes.{next_of}
use Rattle.glow_sizes.specs.Accepted.{octets_of}
use Rattle.glow_writer.specs.Writes.{writes}
use Rattle.glow_grammar.specs.Grammar.{qualified_matrix, connection}
use Rattle.trees_accepted.proofs.Lists.{items-length, flat-length}
use Rattle.trees_round_trip.proofs.Rows.{rows-items, tree-sixteen}
use Rattle.trees_round_trip.proofs.Writing.{whole-tree, octets-tree, fits_by, writes-yes}
use Rattle.desk_crosspoints.specs.declared.Figures.{Figures}
use Rattle.desk_crosspoints.specs.Figures.{side, is_limit}
use Rattle.desk_crosspoints.specs.Desk.{Desk, desk_legal}
use Rattle.desk_crosspoints.proofs.Laws.{fit-kind-le}
use Rattle.desk_crosspoints.proofs.Legal.{legal-length}
use Rattle.sheet_rules.specs.Sheet.{sources_at, number, list, limit, left_out, link_members, matrix_members, links, sheet_tree, sheet_message}
use Rattle.sheet_rules.proofs.Asked.{flat-sheet, path-ok, cells-ok, figures-ok, targets-few, sources-few as sources-most, path-small}
use Rattle.sheet_rules.proofs.Suited.{path-short, total-fits, each_fits, sheet-legal, sheet-count}
use Rattle.sheet_rules.proofs.Sizes.{sheet-size, row-size, path-size as path-octets}
use Rattle.sheet_writer.specs.Steps.{most_rows, most_path, most_octets, number_cell, limit_cell, list_cell, matrix_entry, link_entry}
use Rattle.sheet_writer.specs.Steps.{Filled, filled, with_link, with_links}

-- ---- cells by content

content-number : (s : List ℕ) (n : ℕ) → n ≤ 2147483647 → content_of s (number_cell n) ≡ number n
unfolding content_of
content-number s n h = let k : n < 18446744073709551616 = omega arith in simp (lt-ltb _ _ k)

content-absent : (s : List ℕ) → content_of s absent ≡ Content.nothing
unfolding content_of
content-absent s = refl

content-limit : (s : List ℕ) (l : Option ℕ) → is_limit l ≡ true → content_of s (limit_cell l) ≡ limit l
content-limit s None e = content-absent s
content-limit s (Some n) e = content-number s n (leb-true n 2147483647 (both_right (leb 1 n) (leb n 2147483647) e))

-- a part of the octets
module _ (front part back : List ℕ) (at : ℕ) (e : length front ≡ at) where
  abbrev whole : List ℕ
  whole = front ++ (part ++ back)

  content-part : content_of whole (numbers_cell at (length part)) ≡ bytes numbers part
  unfolding content_of
  content-part =
      let l = length-append front (part ++ back) in
      let m = length-append part back in
      let k : at + length part ≤ length whole = omega (arith, l, m, e) in
      simp (le-leb _ _ k)
      (ap (λ (x : List ℕ). bytes numbers (take (length part) x)) (drop_at front (part ++ back) at e)
      ∙ ap (bytes numbers) (take_at part back (length part) refl))

some-octets : (n : ℕ) (ns : List ℕ) → 0 < length (oid_octets (n ∷ ns))
unfolding oid_octets
some-octets n ns = omega (arith, length-append (septets n) (oid_octets ns), length-septets n)

content-none : (front back : List ℕ) (at : ℕ) → content_of (front ++ (oid_octets [] ++ back)) (list_cell at (length (oid_octets []))) ≡ list []
unfolding list_cell oid_octets
content-none front back at = content-absent (front ++ back)

content-list : (front ns back : List ℕ) (at : ℕ) → length front ≡ at
    → content_of (front ++ (oid_octets ns ++ back)) (list_cell at (length (oid_octets ns))) ≡ list ns
unfolding list_cell
content-list front [] back at e = content-none front back at
content-list front (n ∷ ns) back at e =
    let os = oid_octets (n ∷ ns) in
    rw (ne_eqb (length os) 0 (λ z. omega (arith, z, some-octets n ns))) (content-part front os back at e)

-- ---- entries by content

abbrev octets_at : Desk → ℕ → List ℕ
octets_at d t = oid_octets (sources_at d t)

abbrev link_entries : Desk → ℕ → ℕ → ℕ → Entries
link_entries d at t zero = []
link_entries d at t (suc n) = link_entry t (list_cell at (length (octets_at d t))) ∷ link_entries d (at + length (octets_at d t)) (suc t) n

abbrev all_octets : Desk → ℕ → ℕ → List ℕ
all_octets d t zero = []
all_octets d t (suc n) = octets_at d t ++ all_octets d (suc t) n

link-content : (front ns back : List ℕ) (at t : ℕ) → length front ≡ at → t ≤ 2147483647
    → contents_of (front ++ (oid_octets ns ++ back)) (link_entry t (list_cell at (length (oid_octets ns)))).cells ≡ link_members t ns
unfolding contents_of blanks left_out content_of
link-content front ns back at t e h =
    let s = front ++ (oid_octets ns ++ back) in
    ap (λ (x : Content). x ∷ content_of s (list_cell at (length (oid_octets ns))) ∷ left_out 14) (content-number s t h)
    ∙ ap (λ (x : Content). number t ∷ x ∷ left_out 14) (content-list front ns back at e)

links-content : (d : Desk) (n t : ℕ) → t + n ≤ side → (front back : List ℕ) (at i : ℕ) → length front ≡ at
    → items_of (front ++ (all_octets d t n ++ back)) (link_entries d at t n) ≡ flat 1 i (links d t n)
unfolding items_of flat links
links-content d zero t h front back at i e = refl
links-content d (suc n) t h front back at i e =
    let ss = octets_at d t in
    let ms = link_members t (sources_at d t) in
    let later = all_octets d (suc t) n in
    let rest = link_entries d (at + length ss) (suc t) n in
    let j = suc i + (count none + count none) in
    let a : front ++ ((ss ++ later) ++ back) ≡ front ++ (ss ++ (later ++ back)) = ap (λ (x : List ℕ). front ++ x) (append_assoc ss later back) in
    let b : front ++ (ss ++ (later ++ back)) ≡ (front ++ ss) ++ (later ++ back) = sym (append_assoc front ss (later ++ back)) in
    let l : length (front ++ ss) ≡ at + length ss = omega (arith, length-append front ss, e) in
    ap (λ (s : List ℕ). items_of s (link_entry t (list_cell at (length ss)) ∷ rest)) a
    ∙ ap (λ (x : List Content). item connection 1 x ∷ items_of (front ++ (ss ++ (later ++ back))) rest)
    (link-content front (sources_at d t) (later ++ back) at t e (omega arith))
    ∙ ap (λ (s : List ℕ). item connection 1 ms ∷ items_of s rest) b
    ∙ ap (λ (x : List Item). item connection 1 ms ∷ x) (links-content d n (suc t) (omega arith) (front ++ ss) back (at + length ss) j l)

octets-size : (d : Desk) → d.figures.sources ≤ side → (n t : ℕ) → length (all_octets d t n) ≤ n * side
octets-size d few zero t = omega arith
octets-size d few (suc n) t =
    omega (arith, length-append (octets_at d t) (all_octets d (suc t) n), row-size d t few, octets-size d few n (suc t))

-- ---- rows

-- one row more
overlay-more : (es : Entries) (rows : Rows) (e : Entry) → overlay (es ++ (e ∷ [])) rows ≡ set (overlay es rows) (length es) (row e)
unfolding overlay
overlay-more [] [] e = refl
overlay-more [] (r ∷ rows) e = refl
overlay-more (x ∷ es) [] e = refl
overlay-more (x ∷ es) (r ∷ rows) e = ap (λ (t : Rows). row x ∷ t) (overlay-more es rows e)

-- connections filled behind the entries that are there
links-filled : (d : Desk) (n t : ℕ) (es : Entries) (rows : Rows) (o : List ℕ) (at : ℕ) → length es ≡ suc t
    → with_links d.figures.sources d.crosspoints t n (filled (overlay es rows) o at)
    ≡ filled (overlay (es ++ link_entries d at t n) rows) (sets o at (all_octets d t n)) (at + length (all_octets d t n))
unfolding with_links with_link
links-filled d zero t es rows o at l =
    let z : at + 0 ≡ at = omega arith in
    ap (λ (x : Entries). filled (overlay x rows) o at) (sym (append-nil es)) ∙ ap (filled (overlay (es ++ []) rows) o) (sym z)
links-filled d (suc n) t es rows o at l =
    let ss = octets_at d t in
    let later = all_octets d (suc t) n in
    let e = link_entry t (list_cell at (length ss)) in
    let rest = link_entries d (at + length ss) (suc t) n in
    let m : length (es ++ (e ∷ [])) ≡ suc (suc t) = omega (arith, length-append es (e ∷ []), l) in
    let k : at + length ss + length later ≡ at + length (ss ++ later) = omega (arith, length-append ss later) in
    ap (λ (i : ℕ). with_links d.figures.sources d.crosspoints (suc t) n (filled (set (overlay es rows) i (row e)) (sets o at ss) (at + length ss)))
    (sym l)
    ∙ ap (λ (x : Rows). with_links d.figures.sources d.crosspoints (suc t) n (filled x (sets o at ss) (at + length ss))) (sym (overlay-more es rows e))
    ∙ links-filled d n (suc t) (es ++ (e ∷ [])) rows (sets o at ss) (at + length ss) m
    ∙ ap (λ (x : Entries). filled (overlay x rows) (sets (sets o at ss) (at + length ss) later) (at + length ss + length later)) (append_assoc es (e ∷ []) rest)
    ∙ ap (λ (x : List ℕ). filled (overlay (es ++ (e ∷ rest)) rows) x (at + length ss + length later)) (sym (sets-append ss later o at))
    ∙ ap (λ (x : ℕ). filled (overlay (es ++ (e ∷ rest)) rows) (sets o at (ss ++ later)) x) k

-- ---- the sheet

module _ (d : Desk) (ok : desk_legal d ≡ true) where
  abbrev f : Figures
  f = d.figures

  abbrev path : List ℕ
  path = d.path

  abbrev ps : List ℕ
  ps = oid_octets path

  abbrev entries : Entries
  entries = matrix_entry f (length ps) ∷ link_entries d (length ps) 0 f.targets

  matrix-content : (back : List ℕ) → contents_of (ps ++ back) (matrix_entry f (length ps)).cells ≡ matrix_members f path
  unfolding contents_of blanks left_out content_of
  matrix-content back =
      let s = ps ++ back in
      let k = fit-kind-le f (figures-ok d ok) in
      let t = targets-few d ok in
      let n = sources-most d ok in
      let a = content-number s f.kind (omega arith) in
      let b = content-number s f.targets (omega arith) in
      let c = content-number s f.sources (omega arith) in
      let e = content-limit s f.total (total-fits f (figures-ok d ok)) in
      let g = content-limit s f.each (each_fits f (figures-ok d ok)) in
      rw (content-part [] ps back 0 refl, a, b, c, e, g) refl

  sheet-content : (back : List ℕ) → items_of (ps ++ (all_octets d 0 f.targets ++ back)) entries ≡ flat 0 0 (sheet_tree d)
  unfolding items_of
  sheet-content back =
      let t = targets-few d ok in
      let s = ps ++ (all_octets d 0 f.targets ++ back) in
      ap (λ (x : List Content). item qualified_matrix 0 x ∷ items_of s (link_entries d (length ps) 0 f.targets))
      (matrix-content (all_octets d 0 f.targets ++ back))
      ∙ ap (λ (x : List Item). item qualified_matrix 0 (matrix_members f path) ∷ x)
      (links-content d f.targets 0 (omega arith) ps back (length ps) 1 refl)
      ∙ sym (flat-sheet d ok)

  pub path-size : length ps ≤ most_path
  path-size =
      let a = path-octets path (path-small d ok) in
      let b = path-short path (path-ok d ok) in
      omega (arith, a, b)

  -- the path's octets
  oid-put : (o : List ℕ) → most_path ≤ length o → put_oid o 0 path ≡ outcome (Some (length ps)) (ps ++ drop (length ps) o)
  unfolding put_oid put
  oid-put o h =
      let z : 0 + length ps ≡ length ps = omega arith in
      let k : length ps ≤ length o = omega (arith, path-size, h) in
      rw (path-small d ok, z, le-leb _ _ k) refl

  -- .. and the sources' after them
  octets-put : (o : List ℕ) → most_octets ≤ length o
      → sets (ps ++ drop (length ps) o) (length ps) (all_octets d 0 f.targets)
      ≡ ps ++ (all_octets d 0 f.targets ++ drop (length ps + length (all_octets d 0 f.targets)) (ps ++ drop (length ps) o))
  octets-put o h =
      let all = all_octets d 0 f.targets in
      let o1 = ps ++ drop (length ps) o in
      let a = octets-size d (sources-most d ok) f.targets 0 in
      let m = targets-few d ok in
      let l = length-append ps (drop (length ps) o) in
      let n = length-drop (length ps) o in
      let k : length ps + length all ≤ length o1 = omega (arith, a, m, l, n, h, path-size) in
      sets-eq all o1 (length ps) k
      ∙ append_assoc (take (length ps) o1) all (drop (length ps + length all) o1)
      ∙ ap (λ (x : List ℕ). x ++ (all ++ drop (length ps + length all) o1)) (take_at ps (drop (length ps) o) (length ps) refl)

  rows-begun : (rows : Rows) → set rows 0 (row (matrix_entry f (length ps))) ≡ overlay (matrix_entry f (length ps) ∷ []) rows
  unfolding overlay
  rows-begun [] = refl
  rows-begun (r ∷ rows) = refl

  -- what the rows and the octets hold in the end
  abbrev linked : ℕ → Filled → Filled
  linked n x = with_links f.sources d.crosspoints 0 n x

  filled-items : (rows : Rows) → most_rows ≤ length rows → (o : List ℕ) → most_octets ≤ length o
      → (x : Filled) → linked f.targets (filled (set rows 0 (row (matrix_entry f (length ps)))) (ps ++ drop (length ps) o) (length ps)) ≡ x
      → items_in x.octets x.rows (suc f.targets) ≡ flat 0 0 (sheet_tree d)
  filled-items rows h o k x e =
      let all = all_octets d 0 f.targets in
      let o1 = ps ++ drop (length ps) o in
      let back = drop (length ps + length all) o1 in
      let s = ps ++ (all ++ back) in
      let t = targets-few d ok in
      let items = sheet-content back in
      let y = filled (overlay entries rows) s (length ps + length all) in
      let is : x ≡ y =
      sym e
      ∙ ap (λ (r : Rows). linked f.targets (filled r o1 (length ps))) (rows-begun rows)
      ∙ links-filled d f.targets 0 (matrix_entry f (length ps) ∷ []) rows o1 (length ps) refl
      ∙ ap (λ (z : List ℕ). filled (overlay entries rows) z (length ps + length all)) (octets-put o k) in
      let n : length entries ≡ suc f.targets =
      sym (items-length s entries) ∙ ap length items ∙ flat-length 0 0 (sheet_tree d) ∙ sheet-count d in
      let b : length entries ≤ length rows = omega (arith, n, t, h) in
      ap (λ (z : Filled). items_in z.octets z.rows (suc f.targets)) is
      ∙ ap (items_in s (overlay entries rows)) (sym n)
      ∙ rows-items s entries rows (tree-sixteen s entries 0 (sheet_tree d) (sheet-legal d ok) items) b
      ∙ items

  -- as the code goes: r is what `write_oid` answers, m the matrix's row
  pub entries-put : (rows : Rows) → most_rows ≤ length rows → (o : List ℕ) → most_octets ≤ length o
      → {r : Option ℕ} {o1 : List ℕ} → put_oid o 0 path ≡ outcome r o1 → {end : ℕ} → next_of r ≡ end → {len : ℕ} → len ≡ end
      → {m : List ℕ} → m ≡ row (matrix_entry f len) → {targets w : ℕ} → targets ≡ f.targets → w ≡ f.sources
      → {x : Filled} → with_links w d.crosspoints 0 targets (filled (set rows 0 m) o1 end) ≡ x
      → (items_in x.octets x.rows (targets + 1) ≡ flat 0 0 (sheet_tree d)) × (targets + 1 ≤ most_rows)
  entries-put rows h o k {r} {o1} e {end} q {len} j {m} p {targets} {w} c y {x} g =
      let z : outcome (Some (length ps)) (ps ++ drop (length ps) o) ≡ outcome r o1 = sym (oid-put o (omega (arith, k))) ∙ e in
      let l : length ps ≡ end = ap (λ (v : Put). next_of v.answer) z ∙ q in
      let n : targets + 1 ≡ suc f.targets = omega (arith, c) in
      let t = targets-few d ok in (
        ap (items_in x.octets x.rows) n
            ∙ filled-items rows h o k x
            (ap (λ (i : ℕ). linked f.targets (filled (set rows 0 (row (matrix_entry f i))) (ps ++ drop (length ps) o) i)) l
            ∙ ap (λ (i : ℕ). linked f.targets (filled (set rows 0 (row (matrix_entry f i))) (ps ++ drop (length ps) o) end)) (sym j)
            ∙ ap (λ (v : List ℕ). linked f.targets (filled (set rows 0 v) (ps ++ drop (length ps) o) end)) (sym p)
            ∙ ap (λ (v : Put). linked f.targets (filled (set rows 0 m) v.out end)) z
            ∙ ap (λ (i : ℕ). linked i (filled (set rows 0 m) o1 end)) (sym c)
            ∙ ap (λ (i : ℕ). with_links i d.crosspoints 0 targets (filled (set rows 0 m) o1 end)) (sym y)
            ∙ g),
        omega (arith, n, t),
      )

  -- .. where the path ends
  pub path-end : (o : List ℕ) → most_path ≤ length o → {r : Option ℕ} {o1 : List ℕ} → put_oid o 0 path ≡ outcome r o1 → next_of r ≤ most_path
  path-end o k {r} {o1} e =
      let l : length ps ≡ next_of r = ap (λ (y : Put). next_of y.answer) (sym (oid-put o k) ∙ e) in
      omega (arith, l, path-size)

  -- so many cells, targets and sources, as the code has them
  pub desk-counts : {targets w : ℕ} → targets ≡ f.targets → w ≡ f.sources
      → (length d.crosspoints ≡ targets * w) × ((targets ≤ side) × (w ≤ side))
  desk-counts {targets} {w} c y = (
    legal-length f d.crosspoints (cells-ok d ok) ∙ ap (λ (i : ℕ). i * f.sources) (sym c) ∙ ap (λ (i : ℕ). targets * i) (sym y),
    (omega (arith, c, targets-few d ok), omega (arith, y, sources-most d ok)),
  )

  -- ---- the message

  pub message-put : (es : List Item) → es ≡ flat 0 0 (sheet_tree d) → (rows n : ℕ) → n ≤ most_rows → most_rows ≤ rows
      → (o : List ℕ) → length o ≡ 6144 → {r : Option ℕ} {o1 : List ℕ} → writes 0 rows n es o ≡ outcome r o1 → {end : ℕ} → next_of r ≡ end
      → (take end o1 ≡ sheet_message d) × (end ≤ 6144)
  unfolding sheet_message
  message-put es e rows n h k o l {r} {o1} g {end} p =
      let t = sheet_tree d in
      let ms = octets_of written_real 0 es in
      let q : ms ≡ message_octets written_real 0 t = octets-tree 0 t (sheet-legal d ok) es e written_real in
      let b : length (message_octets written_real 0 t) ≤ 6108 = sheet-size d ok in
      let c = ap length q in
      let i = fits_by written_real 0 rows n es (record {
        within = omega (arith, h, k);
        most = omega (arith, h);
        whole = whole-tree 0 t (sheet-legal d ok) es e;
        few = omega (arith, b, c);
      }) in
      let z : outcome (Some (length ms)) (ms ++ drop (length ms) o) ≡ outcome r o1 = sym (writes-yes 0 rows n es o i (omega (arith, b, c, l))) ∙ g in
      let j : length ms ≡ end = ap (λ (y : Put). next_of y.answer) z ∙ p in (
        ap (λ (i : ℕ). take i o1) (sym p) ∙ ap (λ (y : Put). take (next_of y.answer) y.out) (sym z) ∙ take_at ms (drop (length ms) o) (length ms) refl ∙ q,
        omega (arith, b, c, j),
      )
