-- The message of a legal tree whose texts, octets, paths and sources are octets is of octets.
use Prim.Native.Nat.{ℕ, suc, ◌+◌, ◌-◌, ◌≤◌, ◌<◌}
use mathlib.Core.Path.{◌≡◌, sym, subst}
use mathlib.Core.List.{List, [], ◌∷◌, ◌++◌}
use mathlib.Core.Bool.{Bool, true, false}
use mathlib.Core.Logic.{⊎_elim}
use native.Mathlib.Omega.{arith}
use borrow.Author.Tests.{lt-ltb, le-ltb}
use lib.ListN.{length, take, drop, get_or, length-append}
use lib.Dec.{leb, ltb, eqb}
use Rattle.ber_integers.specs.Digits as digit
use Rattle.ber_integers.proofs.Radix.{Below, lt-or-le, digits-below, count-least}
use Rattle.ber_integers.proofs.Signs.{below-take, below-drop}
use Rattle.ber_integers.proofs.RoundTrip.{shortest-below}
use Rattle.base_choices.proofs.Laws.{pick-by, both_left, both_right}
use Rattle.ber_tags.specs.Write.{tag_octets, length_octets}
use Rattle.glow_rows.specs.declared.Cell.{Cell}
use Rattle.glow_rows.specs.Entry.{Entries, Rows}
use Rattle.glow_grammar.specs.Grammar.{applications, contents_of, rule_of}
use Rattle.glow_grammar.specs.Leaf.{expects}
use Rattle.glow_trees.specs.Content.{Content, nothing, word, bytes, wrong, is_part, is_word, content_of, Item, items_of, int_of}
use Rattle.glow_trees.specs.Content as content
use Rattle.glow_trees.specs.Rows.{entries_of, items_in}
use Rattle.glow_trees.specs.Trees.{Trees, none, tree, count, flat}
use Rattle.glow_trees.specs.Legal.{is_real, word_suits, suits, suited, rule_at, inner, path_after, is_root, legal, legal_root}
use Rattle.glow_trees.specs.Written.{tagged, outer, spelled, member_octets, members_octets, wrapped, own, trees_octets, root_number, message_octets}
use Rattle.trees_read_back.proofs.Bools.{unless, word-kinds, part-kinds}
use Rattle.trees_read_back.proofs.Growth.{right}
use Rattle.trees_accepted.proofs.Sizes.{around, tagged-size}
use Rattle.trees_accepted.proofs.Tables.{stands-kind, application-short}
use Rattle.trees_round_trip.proofs.Rows.{legal-held}

-- ---- entries of octets

abbrev pub PartOctets : Content → Type 0
PartOctets nothing = Unit {0}
PartOctets (word kind w) = Unit {0}
PartOctets (bytes kind bs) = Below 256 bs
PartOctets wrong = Unit {0}

abbrev pub PartsOctets : List Content → Type 0
PartsOctets [] = Unit {0}
PartsOctets (x ∷ xs) = PartOctets x × PartsOctets xs

-- texts, octets, paths and sources of entries are octets, as they are where entries are parts of a message of octets
abbrev pub Octets : List Item → Type 0
Octets [] = Unit {0}
Octets (e ∷ es) = PartsOctets e.members × Octets es

module _ (s : List ℕ) (o : Below 256 s) where
  cell-octets : (v : Cell) → PartOctets (content_of s v)
  unfolding content_of
  cell-octets v =
      pick-by PartOctets (is_part v.kind)
      (λ e.
      pick-by PartOctets (leb (v.first + v.second) (length s))
      (λ f. below-take 256 v.second (drop v.first s) (below-drop 256 v.first s o)) (λ f. tt))
      (λ e.
      pick-by PartOctets (is_word v.kind)
      (λ f. pick-by PartOctets (eqb v.second 0) (λ g. pick-by PartOctets (ltb v.first 18446744073709551616) (λ h. tt) (λ h. tt)) (λ g. tt))
      (λ f.
      pick-by PartOctets (eqb v.kind 0)
      (λ g. pick-by PartOctets (eqb v.first 0) (λ h. pick-by PartOctets (eqb v.second 0) (λ i. tt) (λ i. tt)) (λ h. tt)) (λ g. tt)))

  cells-octets : (vs : List Cell) → PartsOctets (content.contents_of s vs)
  unfolding content.contents_of
  cells-octets [] = tt
  cells-octets (v ∷ vs) = (cell-octets v, cells-octets vs)

  entries-octets : (es : Entries) → Octets (items_of s es)
  unfolding items_of
  entries-octets [] = tt
  entries-octets (e ∷ es) = (cells-octets e.cells, entries-octets es)

  pub rows-octets : (rows : Rows) (n : ℕ) → Octets (items_in s rows n)
  unfolding items_in
  rows-octets rows n = entries-octets (entries_of (take n rows))

octets-left : (a b : List Item) → Octets (a ++ b) → Octets a
octets-left [] b h = tt
octets-left (e ∷ a) b h = (h.0, octets-left a b h.1)

octets-right : (a b : List Item) → Octets (a ++ b) → Octets b
octets-right [] b h = h
octets-right (e ∷ a) b h = octets-right a b h.1

-- ---- lists of octets, where they are of at most 16,384

abbrev pub Spelt : List ℕ → Type 0
Spelt xs = length xs ≤ 16384 → Below 256 xs

below-join : (xs ys : List ℕ) → Below 256 xs → Below 256 ys → Below 256 (xs ++ ys)
below-join [] ys a b = b
below-join (x ∷ xs) ys a b = (a.0, below-join xs ys a.1 b)

spelt-join : (xs ys : List ℕ) → Spelt xs → Spelt ys → Spelt (xs ++ ys)
spelt-join xs ys a b h =
    let l = length-append xs ys in
    below-join xs ys (a (omega arith)) (b (omega arith))

tag_below : (class : ℕ) (c : Bool) (n : ℕ) → class ≤ 3 → n < 31 → Below 256 (tag_octets class c n)
unfolding tag_octets
tag_below class true n h l = rw (lt-ltb _ _ l) (omega arith, tt)
tag_below class false n h l = rw (lt-ltb _ _ l) (omega arith, tt)

length-below : (n : ℕ) → n ≤ 16384 → Below 256 (length_octets n)
unfolding length_octets
length-below n h =
    ⊎_elim (λ (k : n < 128). rw (lt-ltb _ _ k) (omega arith, tt))
    (λ (k : 128 ≤ n).
    let d : digit.count 256 n ≤ 2 = count-least 256 (omega arith) n n 2 (omega arith) (omega arith) in
    rw (le-ltb _ _ k) (omega arith, digits-below 256 (omega arith) (digit.count 256 n) n))
    (lt-or-le n 128)

spelt-tagged : (class : ℕ) (c : Bool) (n : ℕ) (xs : List ℕ) → class ≤ 3 → n < 31 → Spelt xs → Spelt (tagged class c n xs)
unfolding tagged around
spelt-tagged class c n xs h l a m =
    let z = tagged-size class c n xs l in
    let few : length xs ≤ 16384 = omega arith in
    below-join (tag_octets class c n) (length_octets (length xs) ++ xs) (tag_below class c n h l)
    (below-join (length_octets (length xs)) xs (length-below (length xs) few) (a few))

spelt-wrapped : (n class number : ℕ) (xs : List ℕ) → n < 31 → class ≤ 3 → number < 31 → Spelt xs → Spelt (wrapped n class number xs)
unfolding wrapped
spelt-wrapped n class number [] h k l a = λ m. tt
spelt-wrapped n class number (x ∷ xs) h k l a =
    spelt-tagged 2 true n (tagged class true number (x ∷ xs)) (omega arith) h (spelt-tagged class true number (x ∷ xs) k l a)

-- ---- members and trees

module _ (real : ℕ → List ℕ) (reals : (w : ℕ) → is_real w ≡ true → Below 256 (real w)) where
  abbrev Fine : Content → Type 0
  Fine nothing = Unit {0}
  Fine (word kind w) = (kind < 31) × Below 256 (spelled real kind w)
  Fine (bytes kind bs) = (kind < 31) × Below 256 bs
  Fine wrong = Unit {0}

  abbrev AllFine : List Content → Type 0
  AllFine [] = Unit {0}
  AllFine (x ∷ xs) = Fine x × AllFine xs

  word-fine : (what kind w : ℕ) → is_word kind ≡ true → word_suits what kind w ≡ true → Fine (word kind w)
  unfolding spelled word_suits
  word-fine what kind w i y =
      ⊎_elim
      (λ (q : kind ≡ 1).
      subst (λ (n : ℕ). word_suits what n w ≡ true → Fine (word n w)) (sym q)
      (λ z. (omega arith, pick-by (Below 256) (eqb w 0) (λ e. (omega arith, tt)) (λ e. (omega arith, tt)))) y)
      (⊎_elim
      (λ (q : kind ≡ 2). subst (λ (n : ℕ). word_suits what n w ≡ true → Fine (word n w)) (sym q) (λ z. (omega arith, shortest-below (int_of w))) y)
      (λ (q : kind ≡ 9). subst (λ (n : ℕ). word_suits what n w ≡ true → Fine (word n w)) (sym q) (λ z. (omega arith, reals w z)) y))
      (word-kinds kind i)

  part-short : (kind : ℕ) → is_part kind ≡ true → kind < 31
  part-short kind i =
      ⊎_elim (λ (q : kind ≡ 4). omega arith) (⊎_elim (λ (q : kind ≡ 12). omega arith) (λ (q : kind ≡ 13). omega arith)) (part-kinds kind i)

  suits-fine : (what : ℕ) (x : Content) → suits what x ≡ true → PartOctets x → Fine x
  unfolding suits
  suits-fine what nothing i o = tt
  suits-fine what wrong i o = tt
  suits-fine what (word kind w) i o =
      let a = (unless (eqb what 0) _ i).1 in
      let b = both_right (is_word kind) _ a in
      let c = both_right (ltb w 18446744073709551616) _ b in
      word-fine what kind w (both_left (is_word kind) _ a) (both_right (expects what kind) _ c)
  suits-fine what (bytes kind bs) i o = (part-short kind (both_left (is_part kind) _ (unless (eqb what 0) _ i).1), o)

  suited-fine : (kind c : ℕ) (xs : List Content) → suited kind c xs ≡ true → PartsOctets xs → AllFine xs
  unfolding suited
  suited-fine kind c [] e o = tt
  suited-fine kind c (x ∷ xs) e o =
      (suits-fine (rule_at kind c) x (both_left _ _ e) o.0, suited-fine kind (suc c) xs (both_right (suits (rule_at kind c) x) _ e) o.1)

  spelt-member : (n : ℕ) (x : Content) → n < 31 → Fine x → Spelt (member_octets real n x)
  unfolding member_octets
  spelt-member n nothing h f = λ l. tt
  spelt-member n wrong h f = λ l. tt
  spelt-member n (word kind w) h f =
      spelt-tagged 2 true n (tagged 0 false kind (spelled real kind w)) (omega arith) h
      (spelt-tagged 0 false kind (spelled real kind w) (omega arith) f.0 (λ z. f.1))
  spelt-member n (bytes kind bs) h f =
      spelt-tagged 2 true n (tagged 0 false kind bs) (omega arith) h (spelt-tagged 0 false kind bs (omega arith) f.0 (λ z. f.1))

  spelt-members : (n : ℕ) (xs : List Content) → n + length xs ≤ 31 → AllFine xs → Spelt (members_octets real n xs)
  unfolding members_octets
  spelt-members n [] h f = λ l. tt
  spelt-members n (x ∷ xs) h f =
      spelt-join (member_octets real n x) (members_octets real (suc n) xs) (spelt-member n x (omega arith) f.0)
      (spelt-members (suc n) xs (omega arith) f.1)

  -- the members outside an element's contents, and those inside
  own-fine : (kind : ℕ) (xs : List Content) → length xs ≤ 16 → AllFine xs → (length (own kind xs) ≤ 16) × AllFine (own kind xs)
  unfolding own
  own-fine kind [] h f = (h, tt)
  own-fine kind (x ∷ xs) h f =
      pick-by (λ (l : List Content). (length l ≤ 16) × AllFine l) (eqb (contents_of kind) 0) (λ e. (h, f)) (λ e. (omega arith, (f.0, tt)))

  inner-fine : (kind : ℕ) (xs : List Content) → length xs ≤ 16 → AllFine xs → (length (inner kind xs) ≤ 16) × AllFine (inner kind xs)
  unfolding inner
  inner-fine kind [] h f = (h, tt)
  inner-fine kind (x ∷ xs) h f =
      pick-by (λ (l : List Content). (length l ≤ 16) × AllFine l) (eqb (contents_of kind) 0) (λ e. (omega arith, tt)) (λ e. (omega arith, f.1))

  spelt-trees : (t : Trees) (which k above parent i : ℕ) → legal which k above t ≡ true → Octets (flat parent i t) → Spelt (trees_octets real t)
  unfolding trees_octets flat
  spelt-trees none which k above parent i e o = λ l. tt
  spelt-trees (tree kind members kids links rest) which k above parent i e o =
      let r = right which k above kind members kids links rest e in
      let path = path_after kind above members in
      let ks = flat (suc i) (suc i) kids in
      let ls = flat (suc i) (suc i + count kids) links in
      let rs = flat parent (suc i + (count kids + count links)) rest in
      let o1 = octets-left ks (ls ++ rs) o.1 in
      let o2 = octets-right ks (ls ++ rs) o.1 in
      let a = spelt-trees kids 1 (k - 4) path (suc i) (suc i) (legal-held (eqb (rule_of kind 2) 14) 1 (k - 4) path kids r.below) o1 in
      let b =
      spelt-trees links 2 (k - 4) path (suc i) (suc i + count kids) (legal-held (eqb (rule_of kind 5) 15) 2 (k - 4) path links r.linked)
      (octets-left ls rs o2) in
      let c = spelt-trees rest which k above parent (suc i + (count kids + count links)) r.others (octets-right ls rs o2) in
      let z = r.size in
      let f = suited-fine kind 0 members r.suit o.0 in
      let g = own-fine kind members (omega arith) f in
      let h = inner-fine kind members (omega arith) f in
      let gl = g.0 in
      let hl = h.0 in
      let m1 = members_octets real 0 (own kind members) in
      let m2 = wrapped 1 0 17 (members_octets real 0 (inner kind members)) in
      let m3 = wrapped 2 1 4 (trees_octets real kids) in
      let m4 = wrapped 5 0 16 (trees_octets real links) in
      let s1 : Spelt m1 = spelt-members 0 (own kind members) (omega arith) g.1 in
      let s2 : Spelt m2 =
      spelt-wrapped 1 0 17 (members_octets real 0 (inner kind members)) (omega arith) (omega arith) (omega arith)
      (spelt-members 0 (inner kind members) (omega arith) h.1) in
      let s3 : Spelt m3 = spelt-wrapped 2 1 4 (trees_octets real kids) (omega arith) (omega arith) (omega arith) a in
      let s4 : Spelt m4 = spelt-wrapped 5 0 16 (trees_octets real links) (omega arith) (omega arith) (omega arith) b in
      let body = m1 ++ (m2 ++ (m3 ++ m4)) in
      let s0 : Spelt body = spelt-join m1 (m2 ++ (m3 ++ m4)) s1 (spelt-join m2 (m3 ++ m4) s2 (spelt-join m3 m4 s3 s4)) in
      let number = get_or applications kind 0 in
      let short = application-short kind (stands-kind which kind r.stands) in
      spelt-join (outer 0 1 true number body) (trees_octets real rest)
      (spelt-tagged 2 true 0 (tagged 1 true number body) (omega arith) (omega arith) (spelt-tagged 1 true number body (omega arith) short s0)) c

  root-short : (root : ℕ) → root_number root < 31
  unfolding root_number
  root-short root = pick-by (λ (n : ℕ). n < 31) (eqb root 0) (λ e. omega arith) (λ e. omega arith)

  pub message-below : (root : ℕ) (t : Trees) → legal_root root t ≡ true → Octets (flat 0 0 t) → length (message_octets real root t) ≤ 16384
      → Below 256 (message_octets real root t)
  unfolding message_octets legal_root
  message-below root t e o =
      let xs = trees_octets real t in
      spelt-tagged 1 true 0 (tagged 1 true (root_number root) xs) (omega arith) (omega arith)
      (spelt-tagged 1 true (root_number root) xs (omega arith) (root-short root) (spelt-trees t root 62 0 0 0 (both_right (is_root root) _ e) o))
