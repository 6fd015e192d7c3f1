-- The message of a legal tree is read, and as the same tree: `reads-back` for the walk, `read_back` and `read-room` for the reader's answer. The entries that
-- were read make the tree again (`same-tree`), and so no two legal trees have one message (`one-tree`).
-- They hold for every spelling of reals (`Spells`); `written_real`, which the writer uses, is one (`written-spells`).
use Rattle.std.specs.Prelude.{Some, Ok}
use Prim.Native.Nat.{ℕ, suc, ◌+◌, ◌≤◌, ◌<◌}
use mathlib.Core.Path.{◌≡◌, refl, sym, ap, subst, ◌∙◌}
use mathlib.Core.List.{List, [], ◌∷◌, append-nil}
use mathlib.Core.Bool.{Bool, true, false}
use mathlib.Core.Logic.{◌⊎◌, inl, inr, ⊎_elim}
use native.Mathlib.Omega.{arith}
use borrow.Author.Tests.{le-ltb, lt-ltb, eqb-true, eq-eqb}
use lib.ListN.{length}
use lib.Dec.{eqb}
use lib.Ieee as Ieee
use lib.Ieee.{binary64}
use lib.Ieee.Bits.{of_bits-fits}
use Rattle.base_choices.specs.Choices.{pick}
use Rattle.base_choices.proofs.Laws.{both_left, both_right}
use Rattle.ber_reals.specs.Real as reals
use Rattle.ber_reals.specs.Write.{Form, unwritten, octets, form}
use Rattle.ber_reals.proofs.RoundTrip.{written_read}
use Rattle.ber_containers.specs.declared.Stands.TheVariants.{Here}
use Rattle.ber_containers.specs.Ends.{enter_at, first_at, is_tag}
use Rattle.glow_rows.specs.Entry.{Entries, Rows, overlay}
use Rattle.glow_grammar.specs.Grammar.{root_of}
use Rattle.glow_reader.specs.declared.Answer.TheVariants.{Room, Read}
use Rattle.glow_walk.specs.Tree.{out, items_by}
use Rattle.glow_steps.specs.Root.{unbounded, root_kind, top_at}
use Rattle.glow_walk.specs.Walk.{finished, Walk, walk}
use Rattle.glow_reader.specs.Message.{read_result, setup, read_at}
use Rattle.glow_trees.specs.Content.{items_of}
use Rattle.glow_trees.specs.Trees.{Trees, count, flat, Taken, taken, trees_of}
use Rattle.glow_trees.specs.Legal.{is_formed, is_real, is_root, legal, legal_root}
use Rattle.glow_trees.specs.Written.{tagged, trees_octets, root_number, message_octets, form_octets, written_real}
use Rattle.trees_read_back.proofs.Bools.{never, unless}
use Rattle.trees_read_back.proofs.Standing.{till, tag_of, Stood, stood, enter-here, first-here, deep-some}
use Rattle.trees_read_back.proofs.Leaves.{Spells}
use Rattle.trees_read_back.proofs.Stages.{Grown, closes}
use Rattle.trees_read_back.proofs.Growth.{grows}
use Rattle.trees_accepted.proofs.Lists.{flat-length}
use Rattle.trees_accepted.proofs.Once.{made_again}

-- as many entries as the tree has
count-items : (s : List ℕ) (es : Entries) → length (items_of s es) ≡ length es
unfolding items_of
count-items s [] = refl
count-items s (e ∷ es) = ap suc (count-items s es)

pub flat-count : (s : List ℕ) (es : Entries) (t : Trees) → items_of s es ≡ flat 0 0 t → length es ≡ count t
flat-count s es t e = sym (count-items s es) ∙ ap length e ∙ flat-length 0 0 t

-- Root's kind
root-of : (root : ℕ) → is_root root ≡ true → (root ≡ 0) ⊎ (root ≡ 3)
root-of root e = go (eqb root 0) refl e
  where
    go : (b : Bool) → eqb root 0 ≡ b → pick b true (eqb root 3) ≡ true → (root ≡ 0) ⊎ (root ≡ 3)
    go true q r = inl (eqb-true root 0 q)
    go false q r = inr (eqb-true root 3 r)

pub record Rooted (root : ℕ) : Type 0 where
  pub kind : root_of (root_number root) ≡ root
  pub small : root_number root < 31
  pub some : eqb root 4 ≡ false

rooted : (root : ℕ) → is_root root ≡ true → Rooted root
unfolding root_of root_number
rooted root e =
    ⊎_elim
    (λ (q : root ≡ 0). subst Rooted (sym q) (record { kind = refl; small = omega arith; some = refl }))
    (λ (q : root ≡ 3). subst Rooted (sym q) (record { kind = refl; small = omega arith; some = refl }))
    (root-of root e)

-- the two tags around Root's collection
module _ (s : List ℕ) (a b q number root : ℕ) where
  top-here : enter_at s 0 unbounded 64 ≡ Here (tag_of 1 1 0 a q) → first_at s a (till q) 63 ≡ Ok (tag_of 1 1 number b q) → root_of number ≡ root
      → eqb root 4 ≡ false
      → top_at s ≡ Ok (root, till q, tag_of 1 1 number b q)
  unfolding top_at root_kind is_tag
  top-here h f r z = rw (h, f, eq-eqb number number refl, r, z) refl

  walk_here : (es : Entries) → top_at s ≡ Ok (root, till q, tag_of 1 1 number b q) → items_by (suc (length s)) s 62 (till q) root 0 0 b [] ≡ out (Ok q) es
      → q ≡ length s → walk s ≡ record { which = root; out = out (Ok (length s)) es }
  unfolding walk finished
  walk_here es t i e = rw (t, i, closes s q 63, eq-eqb q (length s) e) (ap (λ (n : ℕ). record { which = root; out = out (Ok n) es }) e)

module _ (real : ℕ → List ℕ) (spells : Spells real) (root : ℕ) (t : Trees) (right : legal_root root t ≡ true)
    (few : length (message_octets real root t) ≤ 16384) where
  abbrev m : List ℕ
  m = message_octets real root t

  abbrev within : List ℕ
  within = tagged 1 true (root_number root) (trees_octets real t)

  is-root : is_root root ≡ true
  unfolding legal_root
  is-root = both_left (is_root root) _ right

  is-legal : legal root 62 0 t ≡ true
  unfolding legal_root
  is-legal = both_right (is_root root) _ right

  facts : Rooted root
  facts = rooted root is-root

  outside : Stood m 0 18446744073709551615 1 true 0 within []
  unfolding message_octets
  outside = stood m few 0 18446744073709551615 1 true 0 within [] (omega arith) (omega arith) (sym (append-nil m)) (omega arith)

  all : 0 + length (tagged 1 true 0 within) ≡ length m
  unfolding message_octets
  all = omega arith

  inside : Stood m outside.start (length m) 1 true (root_number root) (trees_octets real t) []
  inside =
      let e = outside.ends in
      stood m few outside.start (length m) 1 true (root_number root) (trees_octets real t) [] facts.small (omega arith) outside.there
      (omega (arith, all))

  entered : enter_at m 0 unbounded 64 ≡ Here (tag_of 1 1 0 outside.start (length m))
  entered =
      enter-here m 0 18446744073709551615 64 1 0 outside.start (length m)
      (outside.here ∙ ap (λ (i : ℕ). Here (tag_of 1 1 0 outside.start i)) all) (omega arith)

  first : first_at m outside.start (till (length m)) 63 ≡ Ok (tag_of 1 1 (root_number root) inside.start (length m))
  first =
      let e = outside.ends in
      let i : outside.start + length within ≡ length m = omega (arith, all) in
      first-here m outside.start (length m) 63 1 1 (root_number root) inside.start (length m)
      (inside.here ∙ ap (λ (i : ℕ). Here (tag_of 1 1 (root_number root) inside.start i)) i) (deep-some 63 (omega arith))

  trees : Grown m 62 (length m) root 0 0 inside.start [] t
  trees =
      let e0 = outside.ends in
      let e1 = inside.ends in
      grows real spells m few t 62 (length m) root 0 0 inside.start [] [] is-legal inside.there (omega (arith, all))

  -- The message of a legal tree is walked to its end, and the entries are the tree's.
  pub reads-back : (es : Entries) × ((walk m ≡ record { which = root; out = out (Ok (length m)) es }) × (items_of m es ≡ flat 0 0 t))
  reads-back = (
    trees.more,
    (
      walk_here m outside.start inside.start (length m) (root_number root) root trees.more
          (top-here m outside.start inside.start (length m) (root_number root) root entered first facts.kind facts.some)
          (trees.gives (suc (length m)) (omega arith)) refl,
      trees.says,
    ),
  )

  -- The entries by content make the same tree again, with nothing left.
  pub same-tree : (es : Entries) → items_of m es ≡ flat 0 0 t → trees_of root (items_of m es) ≡ taken t []
  same-tree es e = ap (trees_of root) e ∙ made_again root t right

  module _ (rows : Rows) (most : length rows ≤ 256) where
    not-setup : setup (length m) (length rows) ≡ false
    unfolding setup
    not-setup = rw (le-ltb _ _ most, le-ltb _ _ few)

    -- The reader answers Root's kind and the count of entries, and writes them into the table's first rows ..
    pub read_back : count t ≤ length rows
        → (es : Entries) × ((read_at m rows ≡ read_result (Read root (count t)) (overlay es rows)) × ((items_of m es ≡ flat 0 0 t) × (length es ≡ count t)))
    unfolding read_at
    read_back h =
        let r = reads-back in
        let n = flat-count m r.0 t r.1.1 in
        let l : length r.0 ≤ length rows = omega arith in
        (r.0, (rw (not-setup, r.1.0, le-ltb _ _ l, n) refl, (r.1.1, n)))

    -- .. or says how many there are, where the table is too small.
    pub read-room : length rows < count t → read_at m rows ≡ read_result (Room (count t)) rows
    unfolding read_at
    read-room h =
        let r = reads-back in
        let n = flat-count m r.0 t r.1.1 in
        let l : length rows < length r.0 = omega arith in
        rw (not-setup, r.1.0, lt-ltb _ _ l, n) refl

-- No two legal trees have one message.
module _ (real : ℕ → List ℕ) (spells : Spells real) (root root' : ℕ) (t t' : Trees) (right : legal_root root t ≡ true) (right' : legal_root root' t' ≡ true)
    (few : length (message_octets real root t) ≤ 16384) (e : message_octets real root t ≡ message_octets real root' t') where
  one-few : length (message_octets real root' t') ≤ 16384
  one-few = subst (λ (l : List ℕ). length l ≤ 16384) e few

  pub one-tree : (root ≡ root') × (t ≡ t')
  one-tree =
      let a = reads-back real spells root t right few in
      let b = reads-back real spells root' t' right' one-few in
      let w = sym a.1.0 ∙ ap walk e ∙ b.1.0 in
      let r : root ≡ root' = ap (λ (x : Walk). x.which) w in
      let es : a.0 ≡ b.0 = ap (λ (x : Walk). x.out.entries) w in
      let f : flat 0 0 t ≡ flat 0 0 t' =
      sym a.1.1 ∙ ap (λ (l : List ℕ). items_of l a.0) e ∙ ap (items_of (message_octets real root' t')) es ∙ b.1.1 in
      let g : taken t [] ≡ taken t' [] =
      sym (made_again root t right) ∙ ap (trees_of root) f ∙ ap (λ (i : ℕ). trees_of i (flat 0 0 t')) r
      ∙ made_again root' t' right' in
      (r, ap (λ (x : Taken). x.trees) g)

-- The spelling that is written.
pub written-spells : Spells written_real
unfolding is_real written_real
written-spells w h e = go (form (Ieee.of_bits binary64 w)) refl (unless (Ieee.nan_bits binary64 w) _ e).1
  where
    go : (f : Form) → form (Ieee.of_bits binary64 w) ≡ f → is_formed f ≡ true → reals.real (form_octets f) ≡ Some (Ieee.of_bits binary64 w)
    go unwritten q i = never i
    go (octets bs) q i = written_read (Ieee.of_bits binary64 w) bs (of_bits-fits binary64 w) q

-- The message that is written of a legal tree is read as the same tree.
pub written_back : (root : ℕ) (t : Trees) → legal_root root t ≡ true → length (message_octets written_real root t) ≤ 16384
    → (rows : Rows) → length rows ≤ 256 → count t ≤ length rows
    → (es : Entries) × ((read_at (message_octets written_real root t) rows ≡ read_result (Read root (count t)) (overlay es rows))
    × ((items_of (message_octets written_real root t) es ≡ flat 0 0 t) × (length es ≡ count t)))
written_back root t right few rows most h = read_back written_real written-spells root t right few rows most h
