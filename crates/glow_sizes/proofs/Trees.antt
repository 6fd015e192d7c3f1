-- The trees that entries make, and their sizes: one law for each way on and out.
use Prim.Native.Nat.{ℕ, zero, suc, ◌+◌, ◌-◌, ◌≤◌, ◌<◌, min}
use Rattle.std.proofs.lemmas.List.{take_min}
use mathlib.Core.Path.{◌≡◌, refl, sym, ap, subst, ◌∙◌}
use mathlib.Core.Bool.{Bool, true, false, not}
use mathlib.Core.List.{List, [], ◌∷◌, ◌++◌}
use mathlib.Core.Logic.{◌⊎◌, ⊎_elim, inl, inr}
use native.Mathlib.Omega.{arith}
use borrow.Author.Tests.{eq-eqb, ne_eqb, le-leb, lt-leb, leb-true, leb-false, eqb-true}
use lib.Dec.{T, leb, eqb}
use lib.ListN.{length, take, drop, get_or, length-append, drop_of_length-le}
use lib.Seq.{drop-drop, length-take-le}
use Rattle.base_choices.specs.Choices.{pick, both}
use Rattle.base_choices.proofs.Laws.{both_left, both_right}
use Rattle.ber_integers.proofs.Radix.{lt-or-le}
use Rattle.glow_rows.specs.Entry.{Entries, Rows}
use Rattle.glow_grammar.specs.Grammar.{applications, required, rule_of, children, connections}
use Rattle.glow_grammar.proofs.Tables.{application-short, root-short}
use Rattle.glow_trees.specs.Content.{Content, Item, item_of, items_of, contents_of}
use Rattle.glow_trees.specs.Rows.{cells_from, entry_of, entries_of, items_in}
use Rattle.glow_trees.specs.Trees.{Trees, none, tree, count, stands_in, stands, Taken, taken, taken_by, trees_of}
use Rattle.glow_trees.specs.Legal.{suited, complete, path_after, empty, inner, is_none, is_root, legal, legal_root}
use Rattle.glow_trees.specs.Written.{outer, tagged, members_octets, wrapped, own, trees_octets, root_number, message_octets}
use Rattle.glow_sizes.specs.declared.Entered.{Entered}
use Rattle.glow_sizes.specs.declared.Measured.{Measured}
use Rattle.glow_sizes.specs.Accepted.{is_end, is_whole, octets_of, fits, length_of}
use Rattle.glow_member_sizes.specs.Sizes.{cap, tagged_size}
use Rattle.glow_sizes.specs.Sizes.{wrapped_size, is_entry, entry_octets, entered, entered_at, measured, Gives}
use Rattle.glow_sizes.specs.Kept.{Packed, Keeps}
use Rattle.glow_member_sizes.proofs.Caps.{cap-in, cap-over, cap-left, cap-right, cap-tagged, over-tagged}
use Rattle.glow_member_sizes.proofs.Members.{tagged-length, outer-length, twice}
use Rattle.glow_sizes.proofs.Entry.{wrapped-length}

never : {P : Type 0} → false ≡ true → P
never e = absurd (subst (λ (b : Bool). T (not b)) e tt)

both-no : (a b : Bool) → b ≡ false → both a b ≡ false
both-no true b h = h
both-no false b h = refl

both_out : (a b : Bool) → a ≡ false → both a b ≡ false
both_out true b h = never (sym h)
both_out false b h = refl

both-split : (a b : Bool) → both a b ≡ false → (a ≡ false) ⊎ (b ≡ false)
both-split true b h = inr h
both-split false b h = inl refl

-- ---- the entries of rows
items-length : (s : List ℕ) (es : Entries) → length (items_of s es) ≡ length es
unfolding items_of
items-length s [] = refl
items-length s (e ∷ es) = ap suc (items-length s es)

entries-length : (rows : Rows) → length (entries_of rows) ≡ length rows
unfolding entries_of
entries-length [] = refl
entries-length (r ∷ rows) = ap suc (entries-length rows)

pub rows-length : (s : List ℕ) (rows : Rows) (n : ℕ) → n ≤ length rows → length (items_in s rows n) ≡ n
unfolding items_in
rows-length s rows n h = items-length s (entries_of (take n rows)) ∙ entries-length (take n rows) ∙ length-take-le n rows h

-- the entry at a place, and those after it
pub rows_at : (s : List ℕ) (rows : Rows) (n i : ℕ) → i < n → n ≤ length rows
    → drop i (items_in s rows n) ≡ item_of s (entry_of (get_or rows i [])) ∷ drop (suc i) (items_in s rows n)
unfolding items_in items_of entries_of
rows_at s [] (suc n) i h k = absurd (omega arith)
rows_at s rows zero i h k = absurd (omega arith)
rows_at s (r ∷ rows) (suc n) zero h k = refl
rows_at s (r ∷ rows) (suc n) (suc i) h k = rows_at s rows n i (omega arith) (omega arith)

-- ---- what is left is what stands behind the trees
pub taken-rest : (f which parent i : ℕ) (es : List Item)
    → (taken_by f which parent i es).rest ≡ drop (count (taken_by f which parent i es).trees) es
unfolding taken_by count
taken-rest zero which parent i es = refl
taken-rest (suc f) which parent i [] = refl
taken-rest (suc f) which parent i (e ∷ es) =
    let kids : Taken = taken_by f children (suc i) (suc i) es in
    let links : Taken = taken_by f connections (suc i) (suc i + count kids.trees) kids.rest in
    let others : Taken = taken_by f which parent (suc i + (count kids.trees + count links.trees)) links.rest in
    go kids links others (stands which parent e)
    (taken-rest f children (suc i) (suc i) es)
    (taken-rest f connections (suc i) (suc i + count kids.trees) kids.rest)
    (taken-rest f which parent (suc i + (count kids.trees + count links.trees)) links.rest)
  where
    go : (kids links others : Taken) (b : Bool)
        → kids.rest ≡ drop (count kids.trees) es
        → links.rest ≡ drop (count links.trees) kids.rest
        → others.rest ≡ drop (count others.trees) links.rest
        → (pick b (taken (tree e.kind e.members kids.trees links.trees others.trees) others.rest) (taken none (e ∷ es))).rest
        ≡ drop (count (pick b (taken (tree e.kind e.members kids.trees links.trees others.trees) others.rest) (taken none (e ∷ es))).trees)
        (e ∷ es)
    go kids links others true a b c =
        let a' = count kids.trees in
        let b' = count links.trees in
        let c' = count others.trees in
        let p : a' + b' + c' ≡ a' + (b' + c') = omega arith in
        c ∙ ap (drop c') (b ∙ ap (drop b') a ∙ drop-drop b' a' es) ∙ drop-drop c' (a' + b') es ∙ ap (λ (n : ℕ). drop n es) p
    go kids links others false a b c = refl

-- ---- the trees from a place on
module _ (f which parent i : ℕ) (e : Item) (es : List Item) where
  cons-none : stands which parent e ≡ false → (taken_by (suc f) which parent i (e ∷ es)).trees ≡ none
  unfolding taken_by
  cons-none h = simp h

  cons-tree : stands which parent e ≡ true
      → (taken_by (suc f) which parent i (e ∷ es)).trees
      ≡ (let kids : Taken = taken_by f children (suc i) (suc i) es in
      let links : Taken = taken_by f connections (suc i) (suc i + count kids.trees) kids.rest in
      tree e.kind e.members kids.trees links.trees
      (taken_by f which parent (suc i + (count kids.trees + count links.trees)) links.rest).trees)
  unfolding taken_by
  cons-tree h = simp h

module _ (es : List Item) where
  abbrev from : ℕ → ℕ → ℕ → ℕ → Trees
  from f which parent i = (taken_by f which parent i (drop i es)).trees

  pub from_end : (f which parent i : ℕ) → length es ≤ i → from f which parent i ≡ none
  unfolding taken_by
  from_end zero which parent i h = refl
  from_end (suc f) which parent i h = ap (λ (xs : List Item). (taken_by (suc f) which parent i xs).trees) (drop_of_length-le es h)

  module _ (i : ℕ) (e : Item) (at : drop i es ≡ e ∷ drop (suc i) es) where
    pub from-none : (f which parent : ℕ) → stands which parent e ≡ false → from f which parent i ≡ none
    unfolding taken_by
    from-none zero which parent h = refl
    from-none (suc f) which parent h =
        ap (λ (xs : List Item). (taken_by (suc f) which parent i xs).trees) at ∙ cons-none f which parent i e (drop (suc i) es) h

    module _ (f which parent a b : ℕ) (h : stands which parent e ≡ true) (p : suc i + count (from f children (suc i) (suc i)) ≡ a)
        (q : a + count (from f connections (suc i) a) ≡ b) where
      abbrev held : Taken
      held = taken_by f children (suc i) (suc i) (drop (suc i) es)

      abbrev linked : Taken → Taken
      linked x = taken_by f connections (suc i) (suc i + count x.trees) x.rest

      abbrev others : Taken → Taken → Taken
      others x y = taken_by f which parent (suc i + (count x.trees + count y.trees)) y.rest

      abbrev grown : Taken → Trees
      grown y = tree e.kind e.members held.trees y.trees (others held y).trees

      first : from (suc f) which parent i ≡ grown (linked held)
      first = ap (λ (xs : List Item). (taken_by (suc f) which parent i xs).trees) at ∙ cons-tree f which parent i e (drop (suc i) es) h

      left : held.rest ≡ drop a es
      left = taken-rest f children (suc i) (suc i) (drop (suc i) es) ∙ drop-drop (count held.trees) (suc i) es ∙ ap (λ (n : ℕ). drop n es) p

      second : linked held ≡ taken_by f connections (suc i) a (drop a es)
      second =
          ap (λ (n : ℕ). taken_by f connections (suc i) n held.rest) p ∙ ap (taken_by f connections (suc i) a) left

      abbrev links : Taken
      links = taken_by f connections (suc i) a (drop a es)

      behind : links.rest ≡ drop b es
      behind = taken-rest f connections (suc i) a (drop a es) ∙ drop-drop (count links.trees) a es ∙ ap (λ (n : ℕ). drop n es) q

      place : suc i + (count held.trees + count links.trees) ≡ b
      place = go (count held.trees) (count links.trees) p q
        where
          go : (x y : ℕ) → suc i + x ≡ a → a + y ≡ b → suc i + (x + y) ≡ b
          go x y u v = omega arith

      third : others held links ≡ taken_by f which parent b (drop b es)
      third = ap (λ (n : ℕ). taken_by f which parent n links.rest) place ∙ ap (taken_by f which parent b) behind

      pub from-tree : from (suc f) which parent i
          ≡ tree e.kind e.members (from f children (suc i) (suc i)) (from f connections (suc i) a) (from f which parent b)
      from-tree = first ∙ ap grown second ∙ ap (λ (z : Taken). tree e.kind e.members held.trees links.trees z.trees) third

-- ---- sizes
abbrev refused : Measured
refused = record { next = 0; size = 65536 }

module _ (real : ℕ → List ℕ) where
  abbrev octets : Trees → ℕ
  octets t = length (trees_octets real t)

  module _ (which k above total i : ℕ) (t : Trees) where
    pub Not : Type 0
    Not = (legal which k above t ≡ false) ⊎ (16384 < total + octets t)

    pub measured-no : Not → measured real which k above total i t ≡ refused
    unfolding measured Not
    measured-no =
        ⊎_elim (λ (h : legal which k above t ≡ false). rw h refl)
        (λ (h : 16384 < total + octets t). rw (both-no (legal which k above t) _ (lt-leb _ _ h)) refl)

    module _ (r : Measured) (e : measured real which k above total i t ≡ r) where
      pub measured-over : 16384 < r.size → Not
      unfolding measured Not
      measured-over h = go (both (legal which k above t) (leb (total + octets t) 16384)) refl e
        where
          go : (b : Bool) → both (legal which k above t) (leb (total + octets t) 16384) ≡ b
              → pick b (record { next = i + count t; size = total + octets t }) refused ≡ r
              → (legal which k above t ≡ false) ⊎ (16384 < total + octets t)
          go true q u =
              let a : total + octets t ≤ 16384 = leb-true _ _ (both_right (legal which k above t) _ q) in
              let z : total + octets t ≡ r.size = ap (λ (m : Measured). m.size) u in
              absurd (omega arith)
          go false q u =
              ⊎_elim (λ (x : legal which k above t ≡ false). inl x) (λ (x : leb (total + octets t) 16384 ≡ false). inr (leb-false _ _ x))
              (both-split (legal which k above t) _ q)

      pub measured-in : r.size ≤ 16384 → (legal which k above t ≡ true) × ((total + octets t ≡ r.size) × (i + count t ≡ r.next))
      unfolding measured
      measured-in h = go (both (legal which k above t) (leb (total + octets t) 16384)) refl e
        where
          go : (b : Bool) → both (legal which k above t) (leb (total + octets t) 16384) ≡ b
              → pick b (record { next = i + count t; size = total + octets t }) refused ≡ r
              → (legal which k above t ≡ true) × ((total + octets t ≡ r.size) × (i + count t ≡ r.next))
          go true q u = (both_left _ _ q, (ap (λ (m : Measured). m.size) u, ap (λ (m : Measured). m.next) u))
          go false q u = let z : 65536 ≡ r.size = ap (λ (m : Measured). m.size) u in absurd (omega arith)

  pub measured-none : (which k above total i : ℕ) → total ≤ 16384
      → measured real which k above total i none ≡ record { next = i; size = total }
  unfolding measured legal trees_octets count
  measured-none which k above total i h =
      let a : total + 0 ≡ total = omega arith in
      let b : i + 0 ≡ i = omega arith in
      rw (a, b, le-leb _ _ h) refl

-- ---- a tree: whether it is legal
both-four : (a b c d x : Bool) → both a (both b (both c (both d x))) ≡ both (both a (both b (both c d))) x
both-four true true true d x = refl
both-four true true false d x = refl
both-four true false c d x = refl
both-four false b c d x = refl

-- a collection inside: legal where the kind may hold it, else empty
abbrev inside : ℕ → ℕ → ℕ → ℕ → ℕ → ℕ → Trees → Bool
inside kind c what which k path t = pick (eqb (rule_of kind c) what) (legal which k path t) (is_none t)

abbrev may : ℕ → ℕ → ℕ → ℕ → ℕ → Bool
may kind c what start next = pick (eqb (rule_of kind c) what) true (eqb next start)

module _ (kind c what which k path : ℕ) where
  pub inside-not : (t : Trees) → legal which k path t ≡ false → inside kind c what which k path t ≡ false
  unfolding legal
  inside-not none h = never (sym h)
  inside-not (tree kind' xs a b r) h = go (eqb (rule_of kind c) what)
    where
      go : (u : Bool) → pick u (legal which k path (tree kind' xs a b r)) false ≡ false
      go true = h
      go false = refl

  pub inside-full : (t : Trees) (start next : ℕ) → start + count t ≡ next → may kind c what start next ≡ false → inside kind c what which k path t ≡ false
  unfolding count
  inside-full none start next e h =
      let z : next ≡ start = omega arith in
      go (eqb (rule_of kind c) what) (subst (λ (b : Bool). pick (eqb (rule_of kind c) what) true b ≡ false) (eq-eqb _ _ z) h)
    where
      go : (b : Bool) → pick b true true ≡ false → pick b (legal which k path none) true ≡ false
      go true g = never (sym g)
      go false g = never (sym g)
  inside-full (tree kind' xs a b r) start next e h = go (eqb (rule_of kind c) what) h
    where
      go : (u : Bool) → pick u true (eqb next start) ≡ false → pick u (legal which k path (tree kind' xs a b r)) false ≡ false
      go true g = never (sym g)
      go false g = refl

  pub inside-in : (t : Trees) (start next : ℕ) → start + count t ≡ next → may kind c what start next ≡ true → legal which k path t ≡ true
      → inside kind c what which k path t ≡ true
  unfolding count
  inside-in none start next e h l = go (eqb (rule_of kind c) what)
    where
      go : (b : Bool) → pick b (legal which k path none) true ≡ true
      go true = l
      go false = refl
  inside-in (tree kind' xs a b r) start next e h l = go (eqb (rule_of kind c) what) h
    where
      go : (u : Bool) → pick u true (eqb next start) ≡ true → pick u (legal which k path (tree kind' xs a b r)) false ≡ true
      go true g = l
      go false g = let z : next ≡ start = eqb-true _ _ g in absurd (omega arith)

-- ---- a tree: its legality and its octets by their parts
over-wrapped : (n : ℕ) → n ≤ wrapped_size n
unfolding wrapped_size
over-wrapped zero = omega arith
over-wrapped (suc n) =
    let a = over-tagged (suc n) in let b = over-tagged (tagged_size (suc n)) in
    let z : suc n ≡ 0 → ⊥ = λ e. omega arith in
    rw (ne_eqb _ _ z) (omega arith)

lengths : (a b c d : List ℕ) → length (a ++ (b ++ (c ++ d))) ≡ length a + length b + (length c + length d)
lengths a b c d =
    let p = length-append a (b ++ (c ++ d)) in
    let q = length-append b (c ++ d) in
    let r = length-append c d in
    omega arith

module _ (real : ℕ → List ℕ) (which k above kind : ℕ) (xs : List Content) (ks ls rs : Trees) where
  abbrev whole : Trees
  whole = tree kind xs ks ls rs

  abbrev after : ℕ
  after = path_after kind above xs

  pub legal-tree : legal which k above whole
      ≡ both (stands_in which kind)
      (both (eqb (length xs) 16)
      (both (leb 3 k)
      (both (is_entry kind k above xs)
      (both (inside kind 2 14 children (k - 4) after ks) (both (inside kind 5 15 connections (k - 4) after ls) (legal which k above rs))))))
  unfolding legal is_entry
  legal-tree =
      ap (λ (b : Bool). both (stands_in which kind) (both (eqb (length xs) 16) (both (leb 3 k) b)))
      (both-four (suited kind 0 xs) (complete (required kind) xs) (leb after 16) (pick (empty (inner kind xs)) true (leb 5 k)) _)

  -- the element's octets
  abbrev size : ℕ
  size = tagged_size (tagged_size (entry_octets real kind xs + (wrapped_size (octets real ks) + wrapped_size (octets real ls))))

  pub octets-tree : octets real whole ≡ size + octets real rs
  unfolding trees_octets entry_octets
  octets-tree =
      let a = members_octets real 0 (own kind xs) in
      let b = wrapped 1 0 17 (members_octets real 0 (inner kind xs)) in
      let c = wrapped 2 1 4 (trees_octets real ks) in
      let d = wrapped 5 0 16 (trees_octets real ls) in
      let m : length c ≡ wrapped_size (octets real ks) = wrapped-length 2 1 4 (trees_octets real ks) (omega arith) (omega arith) in
      let n : length d ≡ wrapped_size (octets real ls) = wrapped-length 5 0 16 (trees_octets real ls) (omega arith) (omega arith) in
      length-append (outer 0 1 true (get_or applications kind 0) (a ++ (b ++ (c ++ d)))) (trees_octets real rs)
      ∙ ap (λ (x : ℕ). x + octets real rs)
      (outer-length 0 1 true (get_or applications kind 0) (a ++ (b ++ (c ++ d))) (omega arith) (application-short kind)
      ∙ ap (λ (x : ℕ). tagged_size (tagged_size x))
      (lengths a b c d ∙ ap (λ (x : ℕ). length a + length b + (x + length d)) m ∙ ap (λ (x : ℕ). length a + length b + (wrapped_size (octets real ks) + x)) n))

  over-size : (n : ℕ) → n ≤ entry_octets real kind xs + (wrapped_size (octets real ks) + wrapped_size (octets real ls)) → n ≤ octets real whole
  over-size n h =
      let held : ℕ = entry_octets real kind xs + (wrapped_size (octets real ks) + wrapped_size (octets real ls)) in
      let a = over-tagged (entry_octets real kind xs + (wrapped_size (octets real ks) + wrapped_size (octets real ls))) in
      let b = over-tagged (tagged_size (entry_octets real kind xs + (wrapped_size (octets real ks) + wrapped_size (octets real ls)))) in
      let e = octets-tree in
      omega arith

  -- ---- each way to refuse
  module _ (total i : ℕ) where
    abbrev Refused : Type 0
    Refused = Not real which k above total i whole

    no-tree : (b : Bool) → legal which k above whole ≡ b → b ≡ false → Refused
    unfolding Not
    no-tree b e h = inl (e ∙ h)

    long-tree : 16384 < total + octets real whole → Refused
    unfolding Not
    long-tree h = inr h

    pub tree-shallow : k < 3 → Refused
    tree-shallow h = no-tree _ legal-tree (both-no (stands_in which kind) _ (both-no (eqb (length xs) 16) _ (rw (lt-leb _ _ h) refl)))

    no-inside : {rest : Bool} → rest ≡ false
        → both (stands_in which kind) (both (eqb (length xs) 16) (both (leb 3 k) rest)) ≡ false
    no-inside h = both-no (stands_in which kind) _ (both-no (eqb (length xs) 16) _ (both-no (leb 3 k) _ h))

    pub tree-entry : (x : Entered) → entered real kind k above xs ≡ x → 16384 < x.size → Refused
    unfolding entered
    tree-entry x e h = go (is_entry kind k above xs) refl (leb (entry_octets real kind xs) 16384) refl e
      where
        go : (a : Bool) → is_entry kind k above xs ≡ a → (b : Bool) → leb (entry_octets real kind xs) 16384 ≡ b
            → pick (both a b)
            (record { size = entry_octets real kind xs; inside = length (members_octets real 0 (inner kind xs)); path = path_after kind above xs })
            (record { size = 65536; inside = 0; path = 0 }) ≡ x
            → Refused
        go false p b q u = no-tree _ legal-tree (no-inside (rw p refl))
        go true p false q u =
            let y : 16384 < entry_octets real kind xs = leb-false _ _ q in
            let z = over-size (entry_octets real kind xs) (omega arith) in
            long-tree (omega arith)
        go true p true q u =
            let y : entry_octets real kind xs ≤ 16384 = leb-true _ _ q in
            let z : entry_octets real kind xs ≡ x.size = ap (λ (m : Entered). m.size) u in
            absurd (omega arith)

    pub no_kids : inside kind 2 14 children (k - 4) after ks ≡ false → Refused
    no_kids h = no-tree _ legal-tree (no-inside (both-no (is_entry kind k above xs) _ (rw h refl)))

    pub no-links : inside kind 5 15 connections (k - 4) after ls ≡ false → Refused
    no-links h =
        no-tree _ legal-tree
        (no-inside (both-no (is_entry kind k above xs) _ (both-no (inside kind 2 14 children (k - 4) after ks) _ (rw h refl))))

    pub long-kids : 16384 < octets real ks → Refused
    long-kids h =
        let a = over-wrapped (octets real ks) in
        let z = over-size (octets real ks) (omega arith) in
        long-tree (omega arith)

    pub long-links : 16384 < octets real ls → Refused
    long-links h =
        let a = over-wrapped (octets real ls) in
        let z = over-size (octets real ls) (omega arith) in
        long-tree (omega arith)

    pub kids_over : (j : ℕ) (r : Measured) → measured real children (k - 4) after 0 j ks ≡ r → 16384 < r.size → Refused
    unfolding Not
    kids_over j r e h = go (measured-over real children (k - 4) after 0 j ks r e h)
      where
        go : Not real children (k - 4) after 0 j ks → Refused
        go =
            ⊎_elim (λ (x : legal children (k - 4) after ks ≡ false). no_kids (inside-not kind 2 14 children (k - 4) after ks x))
            (λ (x : 16384 < 0 + octets real ks). long-kids (omega arith))

    pub links-over : (j : ℕ) (r : Measured) → measured real connections (k - 4) after 0 j ls ≡ r → 16384 < r.size → Refused
    unfolding Not
    links-over j r e h = go (measured-over real connections (k - 4) after 0 j ls r e h)
      where
        go : Not real connections (k - 4) after 0 j ls → Refused
        go =
            ⊎_elim (λ (x : legal connections (k - 4) after ls ≡ false). no-links (inside-not kind 5 15 connections (k - 4) after ls x))
            (λ (x : 16384 < 0 + octets real ls). long-links (omega arith))

    pub tree_over : 16384 < total + size → Refused
    tree_over h = let e = octets-tree in long-tree (omega arith)

    -- ---- the way on
    pub tree-on : (total' next : ℕ) → stands_in which kind ≡ true → length xs ≡ 16 → 3 ≤ k → is_entry kind k above xs ≡ true
        → inside kind 2 14 children (k - 4) after ks ≡ true → inside kind 5 15 connections (k - 4) after ls ≡ true
        → total + size ≡ total' → suc i + count ks + count ls ≡ next
        → measured real which k above total i whole ≡ measured real which k above total' next rs
    unfolding measured
    tree-on total' next a b c d e f g h =
        let l : legal which k above whole ≡ legal which k above rs = legal-tree ∙ rw (a, eq-eqb _ _ b, le-leb _ _ c, d, e, f) refl in
        let o = octets-tree in
        let m : total + octets real whole ≡ total' + octets real rs = omega arith in
        let n : i + count whole ≡ next + count rs = unfold count in omega arith in
        rw (l, m, n) refl

-- ---- what the entries from a place on give
stands-in : (which parent : ℕ) (e : Item) → stands which parent e ≡ true → stands_in which e.kind ≡ true
unfolding stands
stands-in which parent e = go (eqb e.parent parent)
  where
    go : (b : Bool) → pick b (stands_in which e.kind) false ≡ true → stands_in which e.kind ≡ true
    go true h = h
    go false h = never h

entered-in : (real : ℕ → List ℕ) (kind k above : ℕ) (xs : List Content) (x : Entered) → entered real kind k above xs ≡ x → x.size ≤ 16384
    → (is_entry kind k above xs ≡ true) × ((entry_octets real kind xs ≡ x.size) × (path_after kind above xs ≡ x.path))
unfolding entered
entered-in real kind k above xs x e h = go (both (is_entry kind k above xs) (leb (entry_octets real kind xs) 16384)) refl e
  where
    go : (b : Bool) → both (is_entry kind k above xs) (leb (entry_octets real kind xs) 16384) ≡ b
        → pick b (record { size = entry_octets real kind xs; inside = length (members_octets real 0 (inner kind xs)); path = path_after kind above xs })
        (record { size = 65536; inside = 0; path = 0 }) ≡ x
        → (is_entry kind k above xs ≡ true) × ((entry_octets real kind xs ≡ x.size) × (path_after kind above xs ≡ x.path))
    go true q u = (both_left _ _ q, (ap (λ (m : Entered). m.size) u, ap (λ (m : Entered). m.path) u))
    go false q u = let z : 65536 ≡ x.size = ap (λ (m : Entered). m.size) u in absurd (omega arith)

entered-inside : (real : ℕ → List ℕ) (kind k above : ℕ) (xs : List Content) (x : Entered) → entered real kind k above xs ≡ x → x.size ≤ 16384
    → length (members_octets real 0 (inner kind xs)) ≡ x.inside
unfolding entered
entered-inside real kind k above xs x e h = go (both (is_entry kind k above xs) (leb (entry_octets real kind xs) 16384)) e
  where
    go : (b : Bool)
        → pick b (record { size = entry_octets real kind xs; inside = length (members_octets real 0 (inner kind xs)); path = path_after kind above xs })
        (record { size = 65536; inside = 0; path = 0 }) ≡ x
        → length (members_octets real 0 (inner kind xs)) ≡ x.inside
    go true u = ap (λ (m : Entered). m.inside) u
    go false u = let z : 65536 ≡ x.size = ap (λ (m : Entered). m.size) u in absurd (omega arith)

wrapped-more : (n : ℕ) → n ≤ wrapped_size n
unfolding wrapped_size tagged_size
wrapped-more zero = omega arith
wrapped-more (suc n) = let z : suc n ≡ 0 → ⊥ = λ e. omega arith in rw (ne_eqb (suc n) 0 z) (omega arith)

-- the contents of an entry that is not too long
pub inside-small : (real : ℕ → List ℕ) (s row : List ℕ) (k above : ℕ) (x : Entered) → entered_at real s row k above ≡ x → x.size ≤ 16384
    → x.inside ≤ 16384
unfolding entered_at entry_octets
inside-small real s row k above x e h =
    let xs : List Content = contents_of s (cells_from 16 0 row) in
    let bs : List ℕ = members_octets real 0 (inner (get_or row 0 0) (contents_of s (cells_from 16 0 row))) in
    let a = (entered-in real (get_or row 0 0) k above (contents_of s (cells_from 16 0 row)) x e h).1.0 in
    let b = entered-inside real (get_or row 0 0) k above (contents_of s (cells_from 16 0 row)) x e h in
    let l = wrapped-length 1 0 17 (members_octets real 0 (inner (get_or row 0 0) (contents_of s (cells_from 16 0 row)))) (omega arith) (omega arith) in
    let m = wrapped-more (length (members_octets real 0 (inner (get_or row 0 0) (contents_of s (cells_from 16 0 row))))) in
    omega arith

plain : (a b : ℕ) → 0 + a ≡ b → a ≡ b
plain a b h = omega arith

cap-small : (n m : ℕ) → cap n ≡ m → m ≤ 16384 → n ≡ m
cap-small n m e h =
    ⊎_elim (λ (k : 16384 < n). let z = cap-over n k in absurd (omega arith)) (λ (k : n ≤ 16384). sym (cap-in n k) ∙ e) (lt-or-le 16384 n)

cap-large : (n m : ℕ) → cap n ≡ m → 16384 < m → 16384 < n
cap-large n m e h =
    ⊎_elim (λ (k : 16384 < n). k) (λ (k : n ≤ 16384). let z = cap-in n k in absurd (omega arith)) (lt-or-le 16384 n)

module _ (real : ℕ → List ℕ) (es : List Item) (which parent k above total : ℕ) where
  pub gives-end : (i : ℕ) → length es ≤ i → total ≤ 16384 → Gives real es which parent k above total i (record { next = i; size = total })
  gives-end i h l f m = ap (measured real which k above total i) (from_end es f which parent i h) ∙ measured-none real which k above total i l

  module _ (i : ℕ) (e : Item) (at : drop i es ≡ e ∷ drop (suc i) es) (lt : i < length es) where
    pub gives_none : stands which parent e ≡ false → total ≤ 16384 → Gives real es which parent k above total i (record { next = i; size = total })
    gives_none h l f m = ap (measured real which k above total i) (from-none es i e at f which parent h) ∙ measured-none real which k above total i l

    module _ (st : stands which parent e ≡ true) where
      abbrev kids_by : ℕ → Trees
      kids_by f = from es f children (suc i) (suc i)

      abbrev links_by : ℕ → Trees
      links_by f = from es f connections (suc i) (suc i + count (kids_by f))

      abbrev rest_by : ℕ → Trees
      rest_by f = from es f which parent (suc i + count (kids_by f) + count (links_by f))

      abbrev tree_by : ℕ → Trees
      tree_by f = tree e.kind e.members (kids_by f) (links_by f) (rest_by f)

      by-tree : (r : Measured) → ((f : ℕ) → length es - suc i < f → measured real which k above total i (tree_by f) ≡ r)
          → Gives real es which parent k above total i r
      by-tree r g zero m = absurd (omega arith)
      by-tree r g (suc f) m =
          ap (measured real which k above total i)
          (from-tree es i e at f which parent (suc i + count (kids_by f)) (suc i + count (kids_by f) + count (links_by f)) st refl refl)
          ∙ g f (omega arith)

      abbrev Refuses : Type 0
      Refuses = Gives real es which parent k above total i refused

      by-not : ((f : ℕ) → length es - suc i < f → Not real which k above total i (tree_by f)) → Refuses
      by-not g = by-tree refused (λ f m. measured-no real which k above total i (tree_by f) (g f m))

      pub gives-shallow : k < 3 → Refuses
      gives-shallow h = by-not (λ f m. tree-shallow real which k above e.kind e.members (kids_by f) (links_by f) (rest_by f) total i h)

      module _ (x : Entered) (en : entered real e.kind k above e.members ≡ x) where
        pub gives-entry : 16384 < x.size → Refuses
        gives-entry h =
            by-not (λ f m. tree-entry real which k above e.kind e.members (kids_by f) (links_by f) (rest_by f) total i x en h)

        module _ (small : x.size ≤ 16384) (kids : Measured) (gk : Gives real es children (suc i) (k - 4) x.path 0 (suc i) kids) where
          abbrev path : ℕ
          path = path_after e.kind above e.members

          path-is : path ≡ x.path
          path-is = (entered-in real e.kind k above e.members x en small).1.1

          kids-are : (f : ℕ) → length es - suc i < f → measured real children (k - 4) path 0 (suc i) (kids_by f) ≡ kids
          kids-are f m = ap (λ (p : ℕ). measured real children (k - 4) p 0 (suc i) (kids_by f)) path-is ∙ gk f m

          pub gives-kids : 16384 < kids.size → Refuses
          gives-kids h =
              by-not
              (λ f m.
              kids_over real which k above e.kind e.members (kids_by f) (links_by f) (rest_by f) total i (suc i) kids (kids-are f m) h)

          module _ (few : kids.size ≤ 16384) where
            kids-next : (f : ℕ) → length es - suc i < f → suc i + count (kids_by f) ≡ kids.next
            kids-next f m = (measured-in real children (k - 4) path 0 (suc i) (kids_by f) kids (kids-are f m) few).1.1

            pub gives-full : may e.kind 2 14 (suc i) kids.next ≡ false → Refuses
            gives-full h =
                by-not
                (λ f m.
                no_kids real which k above e.kind e.members (kids_by f) (links_by f) (rest_by f) total i
                (inside-full e.kind 2 14 children (k - 4) path (kids_by f) (suc i) kids.next (kids-next f m) h))

            module _ (mk : may e.kind 2 14 (suc i) kids.next ≡ true) (links : Measured)
                (gl : Gives real es connections (suc i) (k - 4) x.path 0 kids.next links) where
              links-are : (f : ℕ) → length es - suc i < f
                  → measured real connections (k - 4) path 0 (suc i + count (kids_by f)) (links_by f) ≡ links
              links-are f m =
                  ap (λ (p : ℕ). measured real connections (k - 4) p 0 (suc i + count (kids_by f)) (links_by f)) path-is
                  ∙ subst (λ (n : ℕ). Gives real es connections (suc i) (k - 4) x.path 0 n links) (sym (kids-next f m)) gl f (omega arith)

              pub gives-links : 16384 < links.size → Refuses
              gives-links h =
                  by-not
                  (λ f m.
                  links-over real which k above e.kind e.members (kids_by f) (links_by f) (rest_by f) total i (suc i + count (kids_by f)) links
                  (links-are f m) h)

              module _ (less : links.size ≤ 16384) where
                links-next : (f : ℕ) → length es - suc i < f → suc i + count (kids_by f) + count (links_by f) ≡ links.next
                links-next f m =
                    (measured-in real connections (k - 4) path 0 (suc i + count (kids_by f)) (links_by f) links (links-are f m) less).1.1

                from-kids : (f : ℕ) → length es - suc i < f → kids.next + count (links_by f) ≡ links.next
                from-kids f m = ap (λ (n : ℕ). n + count (links_by f)) (sym (kids-next f m)) ∙ links-next f m

                pub gives-linked : may e.kind 5 15 kids.next links.next ≡ false → Refuses
                gives-linked h =
                    by-not
                    (λ f m.
                    no-links real which k above e.kind e.members (kids_by f) (links_by f) (rest_by f) total i
                    (inside-full e.kind 5 15 connections (k - 4) path (links_by f) kids.next links.next (from-kids f m) h))

                module _ (ml : may e.kind 5 15 kids.next links.next ≡ true) (total' : ℕ)
                    (ts : cap (total + tagged_size (tagged_size (x.size + (wrapped_size kids.size + wrapped_size links.size)))) ≡ total') where
                  abbrev size_by : ℕ → ℕ
                  size_by f =
                      tagged_size (tagged_size (entry_octets real e.kind e.members
                      + (wrapped_size (octets real (kids_by f)) + wrapped_size (octets real (links_by f)))))

                  size_is : (f : ℕ) → length es - suc i < f → cap (total + size_by f) ≡ total'
                  size_is f m =
                      let a : entry_octets real e.kind e.members ≡ x.size =
                      (entered-in real e.kind k above e.members x en small).1.0 in
                      let b₀ : 0 + octets real (kids_by f) ≡ kids.size =
                      (measured-in real children (k - 4) path 0 (suc i) (kids_by f) kids (kids-are f m) few).1.0 in
                      let c₀ : 0 + octets real (links_by f) ≡ links.size =
                      (measured-in real connections (k - 4) path 0 (suc i + count (kids_by f)) (links_by f) links (links-are f m) less).1.0 in
                      let b : octets real (kids_by f) ≡ kids.size = omega arith in
                      let c : octets real (links_by f) ≡ links.size = omega arith in
                      rw (a, b, c) ts

                  pub gives-over : 16384 < total' → Refuses
                  gives-over h =
                      by-not
                      (λ f m.
                      tree_over real which k above e.kind e.members (kids_by f) (links_by f) (rest_by f) total i
                      (cap-large (total + size_by f) total' (size_is f m) h))

                  pub gives-on : total' ≤ 16384 → 3 ≤ k → length e.members ≡ 16 → (r : Measured)
                      → Gives real es which parent k above total' links.next r → Gives real es which parent k above total i r
                  gives-on h deep all r g =
                      by-tree r
                      (λ f m.
                      tree-on real which k above e.kind e.members (kids_by f) (links_by f) (rest_by f) total i total'
                      (suc i + count (kids_by f) + count (links_by f)) (stands-in which parent e st) all deep
                      (entered-in real e.kind k above e.members x en small).0
                      (inside-in e.kind 2 14 children (k - 4) path (kids_by f) (suc i) kids.next (kids-next f m) mk
                      (measured-in real children (k - 4) path 0 (suc i) (kids_by f) kids (kids-are f m) few).0)
                      (inside-in e.kind 5 15 connections (k - 4) path (links_by f) kids.next links.next (from-kids f m) ml
                      (measured-in real connections (k - 4) path 0 (suc i + count (kids_by f)) (links_by f) links (links-are f m) less).0)
                      (cap-small (total + size_by f) total' (size_is f m) h) refl
                      ∙ subst (λ (n : ℕ). Gives real es which parent k above total' n r) (sym (links-next f m)) g f (omega arith))

-- ---- the code's small answers
pub next-not : (w v parent : ℕ) (b : Bool) → v ≡ w → (v ≡ parent → ⊥) → pick (eqb w parent) b false ≡ false
next-not w v parent b e h = let z : w ≡ parent → ⊥ = λ i. h (e ∙ i) in rw (ne_eqb _ _ z) refl

pub next-is : (w v parent which kind n : ℕ) (t : Bool) → v ≡ w → v ≡ parent → n ≡ kind → stands_in which n ≡ t
    → pick (eqb w parent) (stands_in which kind) false ≡ t
next-is w v parent which kind n t e h i j =
    let z : w ≡ parent = sym e ∙ h in rw (eq-eqb _ _ z) (ap (stands_in which) (sym i) ∙ j)

pub may-empty : (kind c what start next : ℕ) → next ≡ start → may kind c what start next ≡ true
may-empty kind c what start next h = rw (eq-eqb _ _ h) (go (eqb (rule_of kind c) what))
  where
    go : (b : Bool) → pick b true true ≡ true
    go true = refl
    go false = refl

pub may-rule : (kind c what start next n : ℕ) → rule_of kind c ≡ n → (next ≡ start → ⊥) → may kind c what start next ≡ eqb n what
may-rule kind c what start next n e h = rw (ne_eqb _ _ h) (go (eqb (rule_of kind c) what) ∙ ap (λ (i : ℕ). eqb i what) e)
  where
    go : (b : Bool) → pick b true false ≡ b
    go true = refl
    go false = refl

pub tree-sized : (total own kids links a b c held d f r : ℕ) → cap (wrapped_size kids) ≡ a → cap (wrapped_size links) ≡ b → cap (a + b) ≡ c
    → cap (own + c) ≡ held → cap (tagged_size held) ≡ d → cap (tagged_size d) ≡ f → cap (total + f) ≡ r
    → cap (total + tagged_size (tagged_size (own + (wrapped_size kids + wrapped_size links)))) ≡ r
tree-sized total own kids links a b c held d f r p q s t u v w =
    let x : cap (wrapped_size kids + wrapped_size links) ≡ c =
    sym (cap-left (wrapped_size kids) (wrapped_size links)) ∙ ap (λ (i : ℕ). cap (i + wrapped_size links)) p ∙ sym (cap-right a (wrapped_size links))
    ∙ ap (λ (i : ℕ). cap (a + i)) q ∙ s in
    let y : cap (own + (wrapped_size kids + wrapped_size links)) ≡ held =
    sym (cap-right own (wrapped_size kids + wrapped_size links)) ∙ ap (λ (i : ℕ). cap (own + i)) x ∙ t in
    let z : cap (tagged_size (own + (wrapped_size kids + wrapped_size links))) ≡ d =
    sym (cap-tagged (own + (wrapped_size kids + wrapped_size links))) ∙ ap (λ (i : ℕ). cap (tagged_size i)) y ∙ u in
    sym (cap-right total (tagged_size (tagged_size (own + (wrapped_size kids + wrapped_size links)))))
    ∙ ap (λ (i : ℕ). cap (total + i)) (twice (own + (wrapped_size kids + wrapped_size links)) d f z v) ∙ w

-- ---- the loop: what is left gives what the whole gives
pub record Turn (real : ℕ → List ℕ) (s : List ℕ) (rows : Rows) (n which parent start k above i total : ℕ) : Type 0 where
  pub onward : start ≤ i
  pub within : i ≤ n
  pub small : total ≤ 16384
  pub gives : (r : Measured) → Gives real (items_in s rows n) which parent k above total i r → Gives real (items_in s rows n) which parent k above 0 start r

abbrev pub Answers : (ℕ → List ℕ) → List ℕ → Rows → ℕ → ℕ → ℕ → ℕ → ℕ → ℕ → Measured → Type 0
Answers real s rows n which parent start k above z =
    Gives real (items_in s rows n) which parent k above 0 start z × (((start ≤ z.next) ⊎ (16384 < z.size)) × (z.next ≤ n))

pub passed : {a b m : ℕ} → (a ≤ b) ⊎ (16384 < m) → m ≤ 16384 → a ≤ b
passed {a} {b} {m} h k = ⊎_elim (λ (x : a ≤ b). x) (λ (x : 16384 < m). absurd (omega arith)) h

pub turn-first : (real : ℕ → List ℕ) (s : List ℕ) (rows : Rows) (n which parent start k above : ℕ) → start ≤ n
    → Turn real s rows n which parent start k above start 0
turn-first real s rows n which parent start k above h =
    record { onward = omega arith; within = h; small = omega arith; gives = λ r g. g }

module _ (real : ℕ → List ℕ) (s : List ℕ) (rows : Rows) (n which parent start k above i total : ℕ)
    (tn : Turn real s rows n which parent start k above i total) (le : n ≤ length rows) where
  abbrev es : List Item
  es = items_in s rows n

  abbrev Answer : Measured → Type 0
  Answer z = Answers real s rows n which parent start k above z

  many : length es ≡ n
  many = rows-length s rows n le

  pub turn_end : n ≤ i → Answer (record { next = i; size = total })
  turn_end h =
      let m = many in
      let a = tn.onward in (
        tn.gives _ (gives-end real es which parent k above total i (omega arith) tn.small),
        (inl tn.onward, tn.within),
      )

  turn-no : {z : Measured} → z ≡ refused → Gives real es which parent k above total i refused → Answer z
  turn-no q g = subst Answer (sym q) (tn.gives refused g, (inr (omega arith), omega arith))

  module _ (lt : i < n) where
    abbrev row : List ℕ
    row = get_or rows i []

    abbrev this : Item
    this = item_of s (entry_of row)

    at : drop i es ≡ this ∷ drop (suc i) es
    at = rows_at s rows n i lt le

    in-es : i < length es
    in-es = let m = many in omega arith

    abbrev stood : Bool
    stood = pick (eqb (get_or row 1 0) parent) (stands_in which (get_or row 0 0)) false

    pub turn-none : stood ≡ false → Answer (record { next = i; size = total })
    unfolding stands
    turn-none h = (
      tn.gives _ (gives_none real es which parent k above total i this at in-es h tn.small),
      (inl tn.onward, tn.within),
    )

    module _ (st : stood ≡ true) where
      stands_here : stands which parent this ≡ true
      unfolding stands
      stands_here = st

      pub turn-shallow : {z : Measured} → z ≡ refused → k < 3 → Answer z
      turn-shallow q h = turn-no q (gives-shallow real es which parent k above total i this at in-es stands_here h)

      module _ (x : Entered) (en : entered_at real s row k above ≡ x) where
        entry-is : entered real this.kind k above this.members ≡ x
        unfolding entered_at
        entry-is = en

        pub turn-entry : {z : Measured} → z ≡ refused → 16384 < x.size → Answer z
        turn-entry q h = turn-no q (gives-entry real es which parent k above total i this at in-es stands_here x entry-is h)

        module _ (small : x.size ≤ 16384) (kind me below left : ℕ) (ek : kind ≡ get_or row 0 0) (em : me ≡ below) (eb : below ≡ i + 1) (el : left ≡ k - 4)
            (kids : Measured) (gk : Gives real es 1 me left x.path 0 below kids) where
          below-is : below ≡ suc i
          below-is = omega arith

          -- the parent's place, and four containers less
          as-named : (w j : ℕ) (z : Measured) → Gives real es w me left x.path 0 j z → Gives real es w (suc i) (k - 4) x.path 0 j z
          as-named w j z g =
              subst (λ (p : ℕ). Gives real es w p (k - 4) x.path 0 j z) (em ∙ below-is)
              (subst (λ (p : ℕ). Gives real es w me p x.path 0 j z) el g)

          kids-here : Gives real es children (suc i) (k - 4) x.path 0 (suc i) kids
          kids-here = subst (λ (j : ℕ). Gives real es children (suc i) (k - 4) x.path 0 j kids) below-is (as-named 1 below kids gk)

          pub turn-kids : {z : Measured} → z ≡ refused → 16384 < kids.size → Answer z
          turn-kids q h =
              turn-no q (gives-kids real es which parent k above total i this at in-es stands_here x entry-is small kids kids-here h)

          module _ (few : kids.size ≤ 16384) where
            may_here : (t : Bool) → may kind 2 14 below kids.next ≡ t → may this.kind 2 14 (suc i) kids.next ≡ t
            may_here t h = subst (λ (j : ℕ). may this.kind 2 14 j kids.next ≡ t) below-is (subst (λ (j : ℕ). may j 2 14 below kids.next ≡ t) ek h)

            pub turn-full : {z : Measured} → z ≡ refused → may kind 2 14 below kids.next ≡ false → Answer z
            turn-full q h =
                turn-no q
                (gives-full real es which parent k above total i this at in-es stands_here x entry-is small kids kids-here few (may_here false h))

            module _ (mk : may kind 2 14 below kids.next ≡ true) (links : Measured) (gl : Gives real es 2 me left x.path 0 kids.next links) where
              links-here : Gives real es connections (suc i) (k - 4) x.path 0 kids.next links
              links-here = as-named 2 kids.next links gl

              pub turn-links : {z : Measured} → z ≡ refused → 16384 < links.size → Answer z
              turn-links q h =
                  turn-no q
                  (gives-links real es which parent k above total i this at in-es stands_here x entry-is small kids kids-here few (may_here true mk) links
                  links-here h)

              module _ (less : links.size ≤ 16384) where
                -- what is kept of this entry
                pub turn-keeps : (w : ℕ) → Packed x.size x.inside kids.size links.size w → Keeps real s rows n i w
                turn-keeps w p =
                    record {
                      size = p.0 ∙ sym (entered-in real this.kind k above this.members x entry-is small).1.0;
                      inside = p.1.0 ∙ sym (entered-inside real this.kind k above this.members x entry-is small);
                      kids = λ f m.
                          p.1.1.0
                          ∙ sym (plain _ _ (measured-in real _ _ _ 0 _ _ kids
                          (kids-are real es which parent k above total i this at in-es stands_here x entry-is small kids kids-here f m) few).1.0);
                      links = λ f m.
                          p.1.1.1
                          ∙ sym (plain _ _ (measured-in real _ _ _ 0 _ _ links
                          (links-are real es which parent k above total i this at in-es stands_here x entry-is small kids kids-here few (may_here true mk) links
                          links-here f m) less).1.0);
                    }

                linked-here : (t : Bool) → may kind 5 15 kids.next links.next ≡ t → may this.kind 5 15 kids.next links.next ≡ t
                linked-here t h = subst (λ (j : ℕ). may j 5 15 kids.next links.next ≡ t) ek h

                pub turn-linked : {z : Measured} → z ≡ refused → may kind 5 15 kids.next links.next ≡ false → Answer z
                turn-linked q h =
                    turn-no q
                    (gives-linked real es which parent k above total i this at in-es stands_here x entry-is small kids kids-here few (may_here true mk)
                    links links-here less (linked-here false h))

                module _ (ml : may kind 5 15 kids.next links.next ≡ true) (total' : ℕ)
                    (ts : cap (total + tagged_size (tagged_size (x.size + (wrapped_size kids.size + wrapped_size links.size)))) ≡ total') where
                  pub turn-over : {z : Measured} → z ≡ refused → 16384 < total' → Answer z
                  turn-over q h =
                      turn-no q
                      (gives-over real es which parent k above total i this at in-es stands_here x entry-is small kids kids-here few (may_here true mk)
                      links links-here less (linked-here true ml) total' ts h)

                  cells-many : (m c : ℕ) → length (contents_of s (cells_from m c row)) ≡ m
                  unfolding cells_from contents_of
                  cells-many zero c = refl
                  cells-many (suc m) c = ap suc (cells-many m (suc c))

                  pub turn_on : total' ≤ 16384 → 3 ≤ k → below ≤ kids.next → kids.next ≤ links.next → links.next ≤ n
                      → Turn real s rows n which parent start k above links.next total'
                  turn_on h deep a b c =
                      let o = tn.onward in
                      record {
                        onward = omega arith;
                        within = c;
                        small = h;
                        gives = λ r g.
                            tn.gives r
                            (gives-on real es which parent k above total i this at in-es stands_here x entry-is small kids kids-here few
                            (may_here true mk) links links-here less (linked-here true ml) total' ts h deep (cells-many 16 0) r g);
                      }

-- ---- a collection that is not walked
module _ (real : ℕ → List ℕ) (s : List ℕ) (rows : Rows) (n which parent start k above : ℕ) (h : start ≤ n) (le : n ≤ length rows) (z : Measured)
    (e : z ≡ record { next = start; size = 0 }) where
  pub inside-end : n ≤ start → Answers real s rows n which parent start k above z
  inside-end l =
      subst (Answers real s rows n which parent start k above) (sym e)
      (turn_end real s rows n which parent start k above start 0 (turn-first real s rows n which parent start k above h) le l)

  pub inside-other : start < n → (w : ℕ) → w ≡ get_or (get_or rows start []) 1 0 → (w ≡ parent → ⊥) → Answers real s rows n which parent start k above z
  inside-other l w i p =
      subst (Answers real s rows n which parent start k above) (sym e)
      (turn-none real s rows n which parent start k above start 0 (turn-first real s rows n which parent start k above h) le l
      (next-not (get_or (get_or rows start []) 1 0) w parent (stands_in which (get_or (get_or rows start []) 0 0)) i p))

-- ---- the whole message
is-end : (es : List Item) (n : ℕ) → n < length es → is_end (drop n es) ≡ false
is-end [] n h = absurd (omega arith)
is-end (e ∷ es) zero h = refl
is-end (e ∷ es) (suc n) h = is-end es n (omega arith)

pub no_size : 65536 ≡ cap (tagged_size (cap (tagged_size 65536)))
no_size =
    let a = over-tagged 65536 in
    let e : cap (tagged_size 65536) ≡ 65536 = cap-over (tagged_size 65536) (omega arith) in
    sym (ap (λ (x : ℕ). cap (tagged_size x)) e ∙ e)

module _ (real : ℕ → List ℕ) (root rows n : ℕ) (es : List Item) where
  no-fit : fits real root rows n es ≡ false → length_of real root rows n es ≡ 65536
  unfolding length_of
  no-fit h = rw h refl

  pub length-rows : rows < n → length_of real root rows n es ≡ 65536
  unfolding fits
  length-rows h = no-fit (both_out _ _ (lt-leb _ _ h))

  pub length-many : 256 < n → length_of real root rows n es ≡ 65536
  unfolding fits
  length-many h = no-fit (both-no (leb n rows) _ (both_out _ _ (lt-leb _ _ h)))

  no_whole : is_whole root es ≡ false → length_of real root rows n es ≡ 65536
  unfolding fits
  no_whole h = no-fit (both-no (leb n rows) _ (both-no (leb n 256) _ (both_out _ _ h)))

  pub length-root : (b : Bool) → b ≡ is_root root → b ≡ false → length_of real root rows n es ≡ 65536
  unfolding is_whole legal_root
  length-root b e h = no_whole (both-no (is_end (trees_of root es).rest) _ (both_out _ _ (sym e ∙ h)))

  abbrev all : Trees
  all = (trees_of root es).trees

  -- the message around the trees
  message-length : length (octets_of real root es) ≡ tagged_size (tagged_size (octets real all))
  unfolding octets_of message_octets
  message-length =
      tagged-length 1 true 0 (tagged 1 true (root_number root) (trees_octets real all)) (omega arith)
      ∙ ap tagged_size (tagged-length 1 true (root_number root) (trees_octets real all) (root-short root))

  module _ (m : Measured) (g : Gives real es root 0 62 0 0 0 m) where
    all_are : measured real root 62 0 0 0 all ≡ m
    unfolding trees_of
    all_are = g (suc (length es)) (omega arith)

    pub length_over : 16384 < m.size → length_of real root rows n es ≡ 65536
    unfolding Not is_whole legal_root fits
    length_over h = go (measured-over real root 62 0 0 0 all m all_are h)
      where
        go : (legal root 62 0 all ≡ false) ⊎ (16384 < 0 + octets real all) → length_of real root rows n es ≡ 65536
        go =
            ⊎_elim (λ (x : legal root 62 0 all ≡ false). no_whole (both-no (is_end (trees_of root es).rest) _ (both-no (is_root root) _ x)))
            (λ (x : 16384 < 0 + octets real all).
            let a = over-tagged (octets real all) in
            let b = over-tagged (tagged_size (octets real all)) in
            let e = message-length in
            let y : 16384 < length (octets_of real root es) = omega arith in
            no-fit (both-no (leb n rows) _ (both-no (leb n 256) _ (both-no (is_whole root es) _ (lt-leb _ _ y)))))

    pub all-octets : m.size ≤ 16384 → octets real all ≡ m.size
    all-octets few = let o : 0 + octets real all ≡ m.size = (measured-in real root 62 0 0 0 all m all_are few).1.0 in omega arith

    module _ (few : m.size ≤ 16384) (many : length es ≡ n) where
      rest-is : (trees_of root es).rest ≡ drop m.next es
      unfolding trees_of
      rest-is =
          let a : 0 + count all ≡ m.next = (measured-in real root 62 0 0 0 all m all_are few).1.1 in
          let b : count all ≡ m.next = omega arith in
          taken-rest (suc (length es)) root 0 0 es ∙ ap (λ (i : ℕ). drop i es) b

      pub length-left : m.next ≤ n → (m.next ≡ n → ⊥) → length_of real root rows n es ≡ 65536
      unfolding is_whole
      length-left h k =
          let l : m.next < length es = omega arith in
          no_whole (both_out _ _ (ap is_end rest-is ∙ is-end es m.next l))

      pub length-is : (b : Bool) (a r : ℕ) → b ≡ is_root root → b ≡ true → n ≤ rows → n ≤ 256 → m.next ≡ n
          → cap (tagged_size m.size) ≡ a → cap (tagged_size a) ≡ r → length_of real root rows n es ≡ r
      unfolding is_whole legal_root length_of fits cap
      length-is b a r e h i j k p q =
          let l : length es ≤ m.next = omega arith in
          let u : is_end (trees_of root es).rest ≡ true = ap is_end (rest-is ∙ drop_of_length-le es l) in
          let v : is_root root ≡ true = sym e ∙ h in
          let w : legal root 62 0 all ≡ true = (measured-in real root 62 0 0 0 all m all_are few).0 in
          let o₀ : 0 + octets real all ≡ m.size = (measured-in real root 62 0 0 0 all m all_are few).1.0 in
          let o : octets real all ≡ m.size = omega arith in
          let x : length (octets_of real root es) ≡ tagged_size (tagged_size m.size) = message-length ∙ ap (λ (z : ℕ). tagged_size (tagged_size z)) o in
          rw (le-leb _ _ i, le-leb _ _ j, u, v, w, x) (twice m.size a r p q)

-- ---- any count: past the rows' end there is nothing
module _ (real : ℕ → List ℕ) (s : List ℕ) (rows : Rows) (n which parent start k above m : ℕ) (e : m ≡ min n (length rows)) where
  rows-least : items_in s rows m ≡ items_in s rows n
  unfolding items_in
  rows-least = ap (λ (x : Rows). items_of s (entries_of x)) (ap (λ (j : ℕ). take j rows) e ∙ take_min n rows)

  pub trees-past : m < start → Gives real (items_in s rows n) which parent k above 0 start (record { next = start; size = 0 })
  trees-past p =
      let a = ap (λ (es : List Item). length es) rows-least in
      let b = rows-length s rows m (omega arith) in
      gives-end real (items_in s rows n) which parent k above 0 start (omega (arith, a, b, p)) (omega arith)

  pub trees-least : (r : Measured) → Gives real (items_in s rows m) which parent k above 0 start r → Gives real (items_in s rows n) which parent k above 0 start r
  trees-least r = subst (λ (es : List Item). Gives real es which parent k above 0 start r) rows-least
