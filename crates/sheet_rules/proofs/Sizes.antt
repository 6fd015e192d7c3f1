-- The message of a legal desk's sheet is of octets, and far shorter than 16,384.
use Rattle.std.specs.Prelude.{Option, Some, None}
use Prim.Native.Nat.{ℕ, zero, suc, ◌+◌, ◌*◌, ◌/◌, ◌%◌, ◌≤◌, ◌<◌}
use mathlib.Core.Path.{◌≡◌, refl, sym, subst}
use mathlib.Core.List.{List, [], ◌∷◌, ◌++◌}
use mathlib.Core.Bool.{Bool, true, false}
use native.Mathlib.Omega.{arith}
use borrow.Author.Tests.{leb-true}
use lib.ListN.{length, drop, length-append}
use lib.Dec.{leb, eqb}
use lib.IntN.{pos}
use Rattle.base_choices.specs.Choices.{pick, both}
use Rattle.ber_integers.specs.Digits.{digits}
use Rattle.ber_integers.specs.Digits as digit
use Rattle.ber_integers.specs.Integer.{shortest}
use Rattle.ber_integers.proofs.Radix.{Below, digits-below, count-least}
use Rattle.ber_integers.proofs.Sizes.{size-least}
use Rattle.ber_integers.proofs.RoundTrip.{length-shortest}
use Rattle.ber_tags.specs.Write.{marked, septets}
use Rattle.ber_tags.proofs.Septets.{length-septets}
use Rattle.ber_identifiers.specs.Identifier.{oid_octets, in_range}
use Rattle.glow_grammar.specs.Grammar.{applications, contents_of, contents_rows}
use Rattle.glow_trees.specs.Content.{nothing, int_of}
use Rattle.glow_trees.specs.Trees.{Trees, none, tree, flat, count}
use Rattle.glow_trees.specs.Legal.{inner}
use Rattle.glow_trees.specs.Written.{tagged, spelled, member_octets, members_octets, wrapped, own, trees_octets, root_number, message_octets, written_real}
use Rattle.trees_accepted.proofs.Sizes.{length-few, around, tagged-size}
use Rattle.trees_round_trip.proofs.Octets.{PartOctets, PartsOctets, Octets}
use Rattle.desk_crosspoints.specs.declared.Figures.{Figures}
use Rattle.desk_crosspoints.specs.Figures.{side, is_limit, figures_fit}
use Rattle.desk_crosspoints.specs.Crosspoints.{Cells, row_at}
use Rattle.desk_crosspoints.specs.Desk.{Desk, desk_legal}
use Rattle.desk_crosspoints.proofs.Laws.{fit-targets-le, fit-sources-le, fit-kind-le}
use Rattle.desk_crosspoints.proofs.Under.{take_short}
use Rattle.sheet_rules.specs.Sheet.{sources_from, sources_at, number, list, limit, left_out, link_members, matrix_members, links, sheet_tree, sheet_message}
use Rattle.sheet_rules.proofs.Suited.{int-of, path-short, total-fits, each_fits}
use Rattle.sheet_rules.proofs.Asked.{flat-sheet, path-ok, figures-ok, targets-few, sources-few, path-small}

-- ---- identifiers

marked-below : (ds : List ℕ) → Below 128 ds → Below 256 (marked ds)
marked-below [] h = tt
marked-below (d ∷ ds) h = (omega (arith, h.0), marked-below ds h.1)

below-join : (xs ys : List ℕ) → Below 256 xs → Below 256 ys → Below 256 (xs ++ ys)
below-join [] ys a b = b
below-join (x ∷ xs) ys a b = (a.0, below-join xs ys a.1 b)

oid-below : (ns : List ℕ) → Below 256 (oid_octets ns)
unfolding oid_octets septets
oid-below [] = tt
oid-below (n ∷ ns) =
    below-join (septets n) (oid_octets ns)
    (below-join (marked (digits 128 (digit.count 128 (n / 128)) (n / 128))) ((n % 128) ∷ [])
    (marked-below (digits 128 (digit.count 128 (n / 128)) (n / 128)) (digits-below 128 (omega arith) (digit.count 128 (n / 128)) (n / 128))) (omega arith, tt))
    (oid-below ns)

septets-one : (n : ℕ) → n < 128 → length (septets n) ≤ 1
septets-one n h =
    let c : digit.count 128 (n / 128) ≤ 0 = count-least 128 (omega arith) (n / 128) (n / 128) 0 (omega arith) (omega arith) in
    omega (arith, length-septets n, c)

septets-five : (n : ℕ) → n ≤ 2147483647 → length (septets n) ≤ 5
septets-five n h =
    let c : digit.count 128 (n / 128) ≤ 4 = count-least 128 (omega arith) (n / 128) (n / 128) 4 (omega arith) (omega arith) in
    omega (arith, length-septets n, c)

-- a path: five octets a number at most
pub path-size : (ns : List ℕ) → in_range ns ≡ true → length (oid_octets ns) ≤ 5 * length ns
unfolding oid_octets
path-size [] r = omega arith
path-size (n ∷ ns) r = go (leb n 2147483647) refl r (path-size ns)
  where
    go : (u : Bool) → leb n 2147483647 ≡ u → pick u (in_range ns) false ≡ true → (in_range ns ≡ true → length (oid_octets ns) ≤ 5 * length ns)
        → length (septets n ++ oid_octets ns) ≤ 5 * suc (length ns)
    go true e k q = omega (arith, length-append (septets n) (oid_octets ns), septets-five n (leb-true n 2147483647 e), q k)
    go false e k q = let z : false ≡ true = k in let y : ◌≡◌ {A = ℕ} 0 1 = cc in absurd (omega arith)

-- sources under 128: one octet each
pub sources-size : (s : ℕ) (cs : Cells) → s + length cs ≤ 128 → length (oid_octets (sources_from s cs)) ≤ length cs
unfolding oid_octets sources_from
sources-size s [] h = omega arith
sources-size s (c ∷ cs) h = go (eqb c 0) (sources-size (suc s) cs (omega arith))
  where
    go : (u : Bool) → length (oid_octets (sources_from (suc s) cs)) ≤ length cs
        → length (oid_octets (pick u (sources_from (suc s) cs) (s ∷ sources_from (suc s) cs))) ≤ suc (length cs)
    go true r = omega arith
    go false r = omega (arith, length-append (septets s) (oid_octets (sources_from (suc s) cs)), septets-one s (omega arith), r)

pub row-size : (d : Desk) (t : ℕ) → d.figures.sources ≤ side → length (oid_octets (sources_at d t)) ≤ side
unfolding row_at
row-size d t h =
    let w = d.figures.sources in
    let a = take_short w (drop (t * w) d.crosspoints) in
    let b = sources-size 0 (row_at w d.crosspoints t) (omega (arith, a, h)) in
    omega (arith, a, b, h)

-- ---- tags, members

tagged-few : (class : ℕ) (c : Bool) (n : ℕ) (xs : List ℕ) (b : ℕ) → n < 31 → length xs ≤ b → b ≤ 16384 → length (tagged class c n xs) ≤ b + 4
unfolding around
tagged-few class c n xs b h l k = omega (arith, tagged-size class c n xs h, length-few (length xs) (omega arith), l)

outer-few : (m class : ℕ) (c : Bool) (n : ℕ) (xs : List ℕ) (b : ℕ) → m < 31 → n < 31 → length xs ≤ b → b ≤ 16000
    → length (tagged 2 true m (tagged class c n xs)) ≤ b + 8
outer-few m class c n xs b h i l k =
    let r = tagged-few class c n xs b i l (omega arith) in
    let s = tagged-few 2 true m (tagged class c n xs) (b + 4) h r (omega arith) in
    omega (arith, s)

wrapped-few : (m class n : ℕ) (xs : List ℕ) (b : ℕ) → m < 31 → n < 31 → length xs ≤ b → b ≤ 16000 → length (wrapped m class n xs) ≤ b + 8
unfolding wrapped
wrapped-few m class n [] b h i l k = omega arith
wrapped-few m class n (x ∷ xs) b h i l k = outer-few m class true n (x ∷ xs) b h i l k

number_size : (real : ℕ → List ℕ) (m n : ℕ) → m < 31 → n ≤ 2147483647 → length (member_octets real m (number n)) ≤ 12
unfolding member_octets spelled
number_size real m n h l =
    let a : length (shortest (int_of n)) ≤ 4 =
    rw (int-of n l) (omega (arith, length-shortest (pos n), size-least n n 4 (omega arith) (omega arith) (omega arith))) in
    outer-few m 0 false 2 (shortest (int_of n)) 4 h (omega arith) a (omega arith)

none-size : (real : ℕ → List ℕ) (m : ℕ) → length (member_octets real m nothing) ≤ 12
unfolding member_octets
none-size real m = omega arith

limit-size : (real : ℕ → List ℕ) (m : ℕ) (l : Option ℕ) → m < 31 → is_limit l ≡ true → length (member_octets real m (limit l)) ≤ 12
limit-size real m None h e = none-size real m
limit-size real m (Some n) h e = number_size real m n h (leb-true n 2147483647 (right (leb 1 n) (leb n 2147483647) e))
  where
    right : (a b : Bool) → both a b ≡ true → b ≡ true
    right true b q = q
    right false b q = let y : ◌≡◌ {A = ℕ} 0 1 = cc in absurd (omega arith)

list-size : (real : ℕ → List ℕ) (m : ℕ) (ns : List ℕ) → m < 31 → length (oid_octets ns) ≤ side → length (member_octets real m (list ns)) ≤ side + 8
unfolding member_octets
list-size real m [] h l = omega arith
list-size real m (n ∷ ns) h l = outer-few m 0 false 13 (oid_octets (n ∷ ns)) side h (omega arith) l (omega arith)

-- ---- the tree

module _ (real : ℕ → List ℕ) where
  link-members : (t : ℕ) (ns : List ℕ) → t ≤ side → length (oid_octets ns) ≤ side → length (members_octets real 0 (link_members t ns)) ≤ side + 20
  unfolding members_octets left_out member_octets
  link-members t ns h l =
      let a = member_octets real 0 (number t) in
      let b = member_octets real 1 (list ns) in
      let x = number_size real 0 t (omega arith) (omega arith) in
      let y = list-size real 1 ns (omega arith) l in
      omega (arith, x, y, length-append a (b ++ []), length-append b [])

  empty-size : length (trees_octets real none) ≤ 0
  unfolding trees_octets
  empty-size = omega arith

  link-size : (t : ℕ) (ns : List ℕ) (rest : Trees) → t ≤ side → length (oid_octets ns) ≤ side
      → length (trees_octets real (tree 8 (link_members t ns) none none rest)) ≤ side + 28 + length (trees_octets real rest)
  unfolding trees_octets own inner contents_of contents_rows applications wrapped members_octets
  link-size t ns rest h l =
      let m = members_octets real 0 (link_members t ns) in
      let a = link-members t ns h l in
      let b : length (m ++ []) ≤ side + 20 = omega (arith, length-append m [], a) in
      let o = outer-few 0 1 true 16 (m ++ []) (side + 20) (omega arith) (omega arith) b (omega arith) in
      omega (arith, o, length-append (tagged 2 true 0 (tagged 1 true 16 (m ++ []))) (trees_octets real rest))

  links-size : (d : Desk) → d.figures.sources ≤ side → (n t : ℕ) → t + n ≤ side → length (trees_octets real (links d t n)) ≤ (side + 28) * n
  unfolding links
  links-size d few zero t h = empty-size
  links-size d few (suc n) t h =
      let r = links-size d few n (suc t) (omega arith) in
      let s = link-size t (sources_at d t) (links d (suc t) n) (omega arith) (row-size d t few) in
      omega (arith, r, s)

  module _ (f : Figures) (fit : figures_fit f ≡ true) (path : List ℕ) (r : in_range path ≡ true) (short : length path ≤ 16) where
    figures-size : length (members_octets real 0 (inner 7 (matrix_members f path))) ≤ 60
    unfolding members_octets member_octets inner contents_of contents_rows left_out
    figures-size =
        let k = fit-kind-le f fit in
        let t = fit-targets-le f fit in
        let s = fit-sources-le f fit in
        let a = number_size real 2 f.kind (omega arith) (omega arith) in
        let b = number_size real 4 f.targets (omega arith) (omega arith) in
        let c = number_size real 5 f.sources (omega arith) (omega arith) in
        let d = limit-size real 6 f.total (omega arith) (total-fits f fit) in
        let e = limit-size real 7 f.each (omega arith) (each_fits f fit) in
        let x2 = member_octets real 2 (number f.kind) in
        let x4 = member_octets real 4 (number f.targets) in
        let x5 = member_octets real 5 (number f.sources) in
        let x6 = member_octets real 6 (limit f.total) in
        let x7 = member_octets real 7 (limit f.each) in
        omega (
          arith,
          a,
          b,
          c,
          d,
          e,
          length-append x2 (x4 ++ (x5 ++ (x6 ++ (x7 ++ [])))),
          length-append x4 (x5 ++ (x6 ++ (x7 ++ []))),
          length-append x5 (x6 ++ (x7 ++ [])),
          length-append x6 (x7 ++ []),
          length-append x7 [],
        )

    path-member : length (members_octets real 0 (own 7 (matrix_members f path))) ≤ 88
    unfolding members_octets member_octets own contents_of contents_rows
    path-member =
        let l = path-size path r in
        let o = outer-few 0 0 false 13 (oid_octets path) 80 (omega arith) (omega arith) (omega (arith, l, short)) (omega arith) in
        omega (arith, o, length-append (tagged 2 true 0 (tagged 0 false 13 (oid_octets path))) [])

    matrix-size : (ls : Trees) → length (trees_octets real ls) ≤ (side + 28) * side
        → length (trees_octets real (tree 7 (matrix_members f path) none ls none)) ≤ 6100
    unfolding trees_octets applications
    matrix-size ls h =
        let m1 = members_octets real 0 (own 7 (matrix_members f path)) in
        let m2 = wrapped 1 0 17 (members_octets real 0 (inner 7 (matrix_members f path))) in
        let m3 = wrapped 2 1 4 [] in
        let m4 = wrapped 5 0 16 (trees_octets real ls) in
        let a = path-member in
        let b = wrapped-few 1 0 17 (members_octets real 0 (inner 7 (matrix_members f path))) 60 (omega arith) (omega arith) figures-size (omega arith) in
        let c = wrapped-few 2 1 4 [] 0 (omega arith) (omega arith) (omega arith) (omega arith) in
        let d = wrapped-few 5 0 16 (trees_octets real ls) ((side + 28) * side) (omega arith) (omega arith) h (omega arith) in
        let l : length (m1 ++ (m2 ++ (m3 ++ m4))) ≤ 6068 =
        omega (arith, a, b, c, d, length-append m1 (m2 ++ (m3 ++ m4)), length-append m2 (m3 ++ m4), length-append m3 m4) in
        let o = outer-few 0 1 true 17 (m1 ++ (m2 ++ (m3 ++ m4))) 6068 (omega arith) (omega arith) l (omega arith) in
        omega (arith, o, length-append (tagged 2 true 0 (tagged 1 true 17 (m1 ++ (m2 ++ (m3 ++ m4))))) [])

  pub message-size : (t : Trees) → length (trees_octets real t) ≤ 6100 → length (message_octets real 0 t) ≤ 6108
  unfolding message_octets root_number
  message-size t h =
      let a = tagged-few 1 true 11 (trees_octets real t) 6100 (omega arith) h (omega arith) in
      let b = tagged-few 1 true 0 (tagged 1 true 11 (trees_octets real t)) 6104 (omega arith) (omega (arith, a)) (omega arith) in
      omega (arith, b)

-- ---- octets

list-octets : (ns : List ℕ) → PartOctets (list ns)
list-octets [] = tt
list-octets (n ∷ ns) = oid-below (n ∷ ns)

limit-octets : (l : Option ℕ) → PartOctets (limit l)
limit-octets None = tt
limit-octets (Some n) = tt

left-octets : (n : ℕ) → PartsOctets (left_out n)
unfolding left_out
left-octets zero = tt
left-octets (suc n) = (tt, left-octets n)

links-octets : (d : Desk) (n t i : ℕ) → Octets (flat 1 i (links d t n))
unfolding links flat
links-octets d zero t i = tt
links-octets d (suc n) t i = ((tt, (list-octets (sources_at d t), left-octets 14)), links-octets d n (suc t) (suc i + (count none + count none)))

module _ (d : Desk) (ok : desk_legal d ≡ true) where
  pub sheet-octets : Octets (flat 0 0 (sheet_tree d))
  sheet-octets =
      subst Octets (sym (flat-sheet d ok)) (
        (oid-below d.path, (tt, (tt, (tt, (tt, (tt, (tt, (limit-octets d.figures.total, (limit-octets d.figures.each, left-octets 7))))))))),
        links-octets d d.figures.targets 0 1,
      )

  pub sheet-size : length (sheet_message d) ≤ 6108
  unfolding sheet_message sheet_tree
  sheet-size =
      let n = d.figures.targets in
      let t = targets-few d ok in
      let l = links-size written_real d (sources-few d ok) n 0 (omega arith) in
      message-size written_real (tree 7 (matrix_members d.figures d.path) none (links d 0 n) none)
      (matrix-size written_real d.figures (figures-ok d ok) d.path (path-small d ok) (path-short d.path (path-ok d ok)) (links d 0 n)
      (omega (arith, l, t)))
