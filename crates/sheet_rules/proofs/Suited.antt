-- The tree of a legal desk's sheet is one that the reader accepts.
use Rattle.std.specs.Prelude.{Option, Some, None}
use Prim.Native.Nat.{ℕ, zero, suc, ◌+◌, ◌≤◌, ◌<◌}
use mathlib.Core.Path.{◌≡◌, refl, ap, ◌∙◌}
use mathlib.Core.List.{List, [], ◌∷◌}
use mathlib.Core.Bool.{Bool, true, false}
use native.Mathlib.Omega.{arith}
use borrow.Author.Tests.{le-leb, lt-ltb, ne_eqb, leb-true}
use lib.ListN.{length}
use lib.Dec.{leb, eqb}
use lib.IntN.{pos}
use Rattle.base_choices.specs.Choices.{pick, both}
use Rattle.base_choices.proofs.Laws.{both_left, both_right, both-make}
use Rattle.ber_identifiers.specs.Identifier.{Arcs, numbers, arcs, oid_octets}
use Rattle.ber_identifiers.specs.Identifier as oid
use Rattle.glow_grammar.specs.Leaf.{expects, in_range, least, most, all_positive, is_path}
use Rattle.glow_trees.specs.Content.{int_of}
use Rattle.glow_trees.specs.Legal.{word_suits, part_suits, path_suits, list_suits, suits, suited, rule_at, complete, path_after, empty, inner, length_of}
use Rattle.glow_trees.specs.Legal.{legal, legal_root}
use Rattle.glow_trees.specs.Trees.{Trees, none, tree, among, count}
use Rattle.glow_grammar.specs.Grammar.{rule_of, members, contents_of, contents_rows, holds, required, requirements}
use Rattle.trees_accepted.proofs.Bools.{never}
use Rattle.desk_crosspoints.specs.declared.Figures.{Figures}
use Rattle.desk_crosspoints.specs.Figures.{side, is_count, is_limit, figures_fit}
use Rattle.desk_crosspoints.specs.Desk.{Desk, all_numbers, path_fits, desk_legal}
use Rattle.desk_crosspoints.proofs.Laws.{fit-counts, fit-targets-le, fit-sources-le, fit-kind-le}
use Rattle.sheet_rules.specs.Sheet.{number, identifier, list, limit, left_out, link_members, matrix_members, sources_at, links, sheet_tree}
use Rattle.sheet_rules.proofs.Asked.{arcs-back, row-range, path-ok, figures-ok, targets-few, sources-few, path-small}

-- a number of a member whose rule is "from 0" (8) or "0 to 2" (11)
pub int-of : (n : ℕ) → n ≤ 2147483647 → int_of n ≡ pos n
unfolding int_of
int-of n h = let k : n < 9223372036854775808 = omega arith in simp (lt-ltb _ _ k)

pub from0-suits : (n : ℕ) → n ≤ 2147483647 → suits 8 (number n) ≡ true
unfolding suits expects word_suits in_range least most
from0-suits n h =
    let a : n < 18446744073709551616 = omega arith in
    let b : 0 ≤ n = omega arith in
    rw (lt-ltb _ _ a, int-of n h, le-leb _ _ b, le-leb _ _ h) refl

pub to2-suits : (n : ℕ) → n ≤ 2 → suits 11 (number n) ≡ true
unfolding suits expects word_suits in_range least most
to2-suits n h =
    let a : n < 18446744073709551616 = omega arith in
    let b : 0 ≤ n = omega arith in
    let c : n ≤ 2147483647 = omega arith in
    rw (lt-ltb _ _ a, int-of n c, le-leb _ _ b, le-leb _ _ h) refl

pub list-suits : (ns : List ℕ) → oid.in_range ns ≡ true → suits 7 (list ns) ≡ true
unfolding suits expects part_suits
list-suits [] r = refl
list-suits (n ∷ ns) r = ap list_suits (arcs-back (n ∷ ns) r)

pub path-suits : (ns : List ℕ) → oid.in_range ns ≡ true → is_path ns ≡ true → suits 6 (identifier ns) ≡ true
unfolding suits expects part_suits
path-suits ns r p = ap path_suits (arcs-back ns r) ∙ p

limit-suits : (l : Option ℕ) → is_limit l ≡ true → suits 8 (limit l) ≡ true
unfolding suits
limit-suits None e = refl
limit-suits (Some n) e = from0-suits n (leb-true n 2147483647 (both_right (leb 1 n) (leb n 2147483647) e))

positive : (ns : List ℕ) → all_numbers ns ≡ true → all_positive ns ≡ true
unfolding all_numbers all_positive
positive [] e = refl
positive (n ∷ ns) e = go (leb 1 n) refl (leb n 2147483647) e (positive ns)
  where
    go : (a : Bool) → leb 1 n ≡ a → (b : Bool) → pick (both a b) (all_numbers ns) false ≡ true → (all_numbers ns ≡ true → all_positive ns ≡ true)
        → pick (eqb n 0) false (all_positive ns) ≡ true
    go true q true k r = let h = leb-true 1 n q in rw (ne_eqb n 0 (λ z. omega arith)) (r k)
    go true q false k r = never k
    go false q b k r = never k

pub is-path : (ns : List ℕ) → path_fits ns ≡ true → is_path ns ≡ true
unfolding path_fits is_path
is-path ns e =
    let a = both_left (both (leb 1 (length ns)) (leb (length ns) 16)) (all_numbers ns) e in
    let l = leb-true 1 (length ns) (both_left (leb 1 (length ns)) (leb (length ns) 16) a) in
    let p : 0 < length ns = omega arith in
    both-make _ _ (lt-ltb _ _ p)
    (both-make _ _ (both_right (leb 1 (length ns)) (leb (length ns) 16) a)
    (positive ns (both_right (both (leb 1 (length ns)) (leb (length ns) 16)) (all_numbers ns) e)))

pub path-short : (ns : List ℕ) → path_fits ns ≡ true → length ns ≤ 16
unfolding path_fits
path-short ns e =
    leb-true (length ns) 16
    (both_right (leb 1 (length ns)) (leb (length ns) 16) (both_left (both (leb 1 (length ns)) (leb (length ns) 16)) (all_numbers ns) e))

-- ---- members

link-suited : (t : ℕ) (ns : List ℕ) → t ≤ 2147483647 → oid.in_range ns ≡ true → suited 8 0 (link_members t ns) ≡ true
unfolding suited suits rule_at rule_of members contents_of contents_rows left_out
link-suited t ns h r = both-make _ _ (from0-suits t h) (both-make _ _ (list-suits ns r) refl)

module _ (f : Figures) (fit : figures_fit f ≡ true) where
  rest2 : both (is_count f.sources) (both (is_limit f.total) (is_limit f.each)) ≡ true
  rest2 = both_right (is_count f.targets) _ (fit-counts f fit)

  rest3 : both (is_limit f.total) (is_limit f.each) ≡ true
  rest3 = both_right (is_count f.sources) _ rest2

  pub total-fits : is_limit f.total ≡ true
  total-fits = both_left (is_limit f.total) (is_limit f.each) rest3

  pub each_fits : is_limit f.each ≡ true
  each_fits = both_right (is_limit f.total) (is_limit f.each) rest3

  matrix-suited : (path : List ℕ) → oid.in_range path ≡ true → path_fits path ≡ true → suited 7 0 (matrix_members f path) ≡ true
  unfolding suited suits rule_at rule_of members contents_of contents_rows left_out
  matrix-suited path r p =
      let k = fit-kind-le f fit in
      let t = fit-targets-le f fit in
      let s = fit-sources-le f fit in
      both-make _ _ (path-suits path r (is-path path p))
      (both-make _ _ (to2-suits f.kind k)
      (both-make _ _ (from0-suits f.targets (omega arith))
      (both-make _ _ (from0-suits f.sources (omega arith))
      (both-make _ _ (limit-suits f.total total-fits)
      (both-make _ _ (limit-suits f.each each_fits) refl)))))

-- ---- the tree

link-legal : (d : Desk) → d.figures.sources ≤ side → (t above : ℕ) → t ≤ side → above ≤ 16 → (rest : Trees) → legal 2 58 above rest ≡ true
    → legal 2 58 above (tree 8 (link_members t (sources_at d t)) none none rest) ≡ true
unfolding legal among holds complete required requirements path_after empty inner rule_at rule_of members contents_of contents_rows left_out
link-legal d few t above h a rest r =
    both-make _ _ (link-suited t (sources_at d t) (omega arith) (row-range d t few))
    (both-make _ _ (le-leb above 16 a) r)

pub links-legal : (d : Desk) → d.figures.sources ≤ side → (n t above : ℕ) → t + n ≤ side → above ≤ 16 → legal 2 58 above (links d t n) ≡ true
unfolding legal links
links-legal d few zero t above h a = refl
links-legal d few (suc n) t above h a =
    link-legal d few t above (omega arith) a (links d (suc t) n) (links-legal d few n (suc t) above (omega arith) a)

matrix-legal : (f : Figures) → figures_fit f ≡ true → (path : List ℕ) → oid.in_range path ≡ true → path_fits path ≡ true
    → (ls : Trees) → ((above : ℕ) → above ≤ 16 → legal 2 58 above ls ≡ true)
    → legal 0 62 0 (tree 7 (matrix_members f path) none ls none) ≡ true
unfolding legal among holds complete required requirements path_after empty inner rule_at rule_of members contents_of contents_rows left_out
matrix-legal f fit path r p ls h =
    let e : length_of (arcs (oid_octets path) 0 (length (oid_octets path))) ≡ length path = ap length_of (arcs-back path r) in
    let s = path-short path p in
    let l : length_of (arcs (oid_octets path) 0 (length (oid_octets path))) ≤ 16 = omega (arith, e, s) in
    both-make _ _ (matrix-suited f fit path r p)
    (both-make _ _ (le-leb _ _ l)
    (both-make _ _ (h _ l) refl))

-- The tree of a legal desk's sheet is legal.
pub sheet-legal : (d : Desk) → desk_legal d ≡ true → legal_root 0 (sheet_tree d) ≡ true
unfolding legal_root sheet_tree
sheet-legal d ok =
    let t = targets-few d ok in
    matrix-legal d.figures (figures-ok d ok) d.path (path-small d ok) (path-ok d ok)
    (links d 0 d.figures.targets) (λ above a. links-legal d (sources-few d ok) d.figures.targets 0 above (omega arith) a)

-- ---- how many entries it has

links-count : (d : Desk) (n t : ℕ) → count (links d t n) ≡ n
unfolding count links
links-count d zero t = refl
links-count d (suc n) t = omega (arith, links-count d n (suc t))

pub sheet-count : (d : Desk) → count (sheet_tree d) ≡ suc d.figures.targets
unfolding count sheet_tree
sheet-count d = omega (arith, links-count d d.figures.targets 0)
