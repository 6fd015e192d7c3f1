-- The entries of a tree whose kinds stand where they may, as those of a legal tree do, make that tree and no other.
use Prim.Native.Nat.{ℕ, zero, suc, ◌+◌, ◌-◌, ◌<◌, ◌≤◌}
use mathlib.Core.Path.{◌≡◌, refl, sym, ap, ◌∙◌}
use mathlib.Core.List.{List, [], ◌∷◌, ◌++◌, append_assoc}
use mathlib.Core.Bool.{Bool, true, false}
use mathlib.Core.Logic.{◌⊎◌, inl, inr}
use native.Mathlib.Omega.{arith}
use borrow.Author.Tests.{eq-eqb, ne_eqb, eqb-true}
use lib.ListN.{length}
use lib.Dec.{leb, eqb}
use Rattle.base_choices.specs.Choices.{pick}
use Rattle.base_choices.proofs.Laws.{both_left, both_right}
use Rattle.glow_grammar.specs.Grammar.{holds, rule_of, required, children, connections}
use Rattle.glow_trees.specs.Content.{Content, Item, item}
use Rattle.glow_trees.specs.Trees.{Trees, none, tree, count, flat, among, stands_in, stands, Taken, taken, taken_by, trees_of}
use Rattle.glow_trees.specs.Legal.{suited, complete, path_after, inner, empty, is_none, is_root, legal, legal_root}
use Rattle.trees_accepted.specs.Stood.{Stood}
use Rattle.trees_accepted.proofs.Bools.{never}
use Rattle.trees_accepted.proofs.Lists.{append-none, flat-length}

-- no connection is a child
connection-only : (kind : ℕ) → stands_in connections kind ≡ true → stands_in children kind ≡ false
unfolding holds among
connection-only kind e =
    let q : 8 ≡ kind = eqb-true 8 kind (only (eqb 8 kind) e) in
    ap (λ (k : ℕ). stands_in children k) (sym q)
  where
    only : (b : Bool) → pick b true false ≡ true → b ≡ true
    only true e = refl
    only false e = e

-- what comes after the trees of a collection stands in it no more: it has a parent before, or a kind that the collection does not hold
abbrev pub Stops : ℕ → ℕ → List Item → Type 0
Stops which parent [] = Unit {0}
Stops which parent (e ∷ es) = (e.parent < parent) ⊎ ((e.parent ≡ parent) × (stands_in which e.kind ≡ false))

stop-not : (which parent : ℕ) (e : Item) (es : List Item) → Stops which parent (e ∷ es) → stands which parent e ≡ false
unfolding stands
stop-not which parent e es (inl h) = let n : e.parent ≡ parent → ⊥ = λ q. omega arith in simp (ne_eqb _ _ n)
stop-not which parent e es (inr h) = go (eqb e.parent parent)
  where
    go : (b : Bool) → pick b (stands_in which e.kind) false ≡ false
    go true = h.1
    go false = refl

-- what is taken from the entries of a tree, and then others
module _ (f which parent i : ℕ) where
  take_none : (rest : List Item) → 0 < f → Stops which parent rest → taken_by f which parent i rest ≡ taken none rest
  unfolding taken_by
  take_none rest l h = go f l rest h
    where
      go : (f : ℕ) → 0 < f → (rest : List Item) → Stops which parent rest → taken_by f which parent i rest ≡ taken none rest
      go zero l rest h = absurd (omega arith)
      go (suc f) l [] h = refl
      go (suc f) l (e ∷ es) h = rw (stop-not which parent e es h)

-- the first of the trees of a collection stands under its parent, in that collection
first-of : (which parent i : ℕ) (t : Trees) (rest : List Item) (other low : ℕ) → Stood which t
    → (parent < low) ⊎ ((parent ≡ low) × ((kind : ℕ) → stands_in which kind ≡ true → stands_in other kind ≡ false))
    → Stops other low rest → Stops other low (flat parent i t ++ rest)
unfolding flat
first-of which parent i none rest other low e d h = h
first-of which parent i (tree kind xs kids links rest') rest other low e (inl d) h = inl d
first-of which parent i (tree kind xs kids links rest') rest other low e (inr d) h = inr (d.0, d.1 kind e.0)

deeper : (which parent other low : ℕ) (rest : List Item) → Stops which parent rest → parent < low → Stops other low rest
deeper which parent other low [] h l = tt
deeper which parent other low (e ∷ es) (inl h) l = inl (omega arith)
deeper which parent other low (e ∷ es) (inr h) l = let q = h.0 in inl (omega arith)

stands_here : (which parent kind : ℕ) (xs : List Content) → stands_in which kind ≡ true → stands which parent (item kind parent xs) ≡ true
unfolding stands
stands_here which parent kind xs e = simp (eq-eqb parent parent refl) e

takes : (t : Trees) (f which parent i : ℕ) (rest : List Item) → count t < f → Stood which t → parent ≤ i → Stops which parent rest
    → taken_by f which parent i (flat parent i t ++ rest) ≡ taken t rest
unfolding taken_by flat count
takes none f which parent i rest l e p h = take_none f which parent i rest (omega arith) h
takes (tree kind xs kids links rest') zero which parent i rest l e p h = absurd (omega arith)
takes (tree kind xs kids links rest') (suc f) which parent i rest l e p h =
    let j = suc i + (count kids + count links) in
    let a = flat (suc i) (suc i) kids in
    let b = flat (suc i) (suc i + count kids) links in
    let c = flat parent j rest' in
    let up : parent < suc i = omega arith in
    let s2 : Stops connections (suc i) (c ++ rest) =
    first-of which parent j rest' rest connections (suc i) e.1.1.1 (inl up) (deeper which parent connections (suc i) rest h up) in
    let s1 : Stops children (suc i) (b ++ (c ++ rest)) =
    first-of connections (suc i) (suc i + count kids) links (c ++ rest) children (suc i) e.1.1.0 (inr (refl, connection-only))
    (first-of which parent j rest' rest children (suc i) e.1.1.1 (inl up) (deeper which parent children (suc i) rest h up)) in
    let g : (a ++ (b ++ c)) ++ rest ≡ a ++ (b ++ (c ++ rest)) = append_assoc a (b ++ c) rest ∙ ap (λ (t : List Item). a ++ t) (append_assoc b c rest) in
    let first = takes kids f children (suc i) (suc i) (b ++ (c ++ rest)) (omega arith) e.1.0 (omega arith) s1 in
    let second = takes links f connections (suc i) (suc i + count kids) (c ++ rest) (omega arith) e.1.1.0 (omega arith) s2 in
    let third = takes rest' f which parent j rest (omega arith) e.1.1.1 (omega arith) h in
    rw (stands_here which parent kind xs e.0, g, first, second, third)

-- The entries of such a tree make that tree,
pub stood-again : (root : ℕ) (t : Trees) → Stood root t → trees_of root (flat 0 0 t) ≡ taken t []
unfolding trees_of
stood-again root t e =
    let l = flat-length 0 0 t in
    let z : count t < suc (length (flat 0 0 t)) = omega arith in
    ap (taken_by (suc (length (flat 0 0 t))) root 0 0) (sym (append-none (flat 0 0 t)))
    ∙ takes t (suc (length (flat 0 0 t))) root 0 0 [] z e (omega arith) tt

-- and no other.
pub stood-once : (root : ℕ) (t u : Trees) → Stood root t → Stood root u → flat 0 0 t ≡ flat 0 0 u → t ≡ u
stood-once root t u a b e = ap (λ (x : Taken). x.trees) (sym (stood-again root t a) ∙ ap (trees_of root) e ∙ stood-again root u b)

-- ---- legal trees

is-none : (t : Trees) → is_none t ≡ true → t ≡ none
is-none none e = refl
is-none (tree kind xs kids links rest) e = never e

held : (b : Bool) (which k above : ℕ) (t : Trees) → pick b (legal which k above t) (is_none t) ≡ true → legal which k above t ≡ true
unfolding legal
held true which k above t e = e
held false which k above t e = ap (legal which k above) (is-none t e)

legal-stood : (which k above : ℕ) (t : Trees) → legal which k above t ≡ true → Stood which t
unfolding legal
legal-stood which k above none e = tt
legal-stood which k above (tree kind xs kids links rest) e =
    let path = path_after kind above xs in
    let e1 = both_right (stands_in which kind) _ e in
    let e2 = both_right (eqb (length xs) 16) _ e1 in
    let e3 = both_right (leb 3 k) _ e2 in
    let e4 = both_right (suited kind 0 xs) _ e3 in
    let e5 = both_right (complete (required kind) xs) _ e4 in
    let e6 = both_right (leb path 16) _ e5 in
    let e7 = both_right (pick (empty (inner kind xs)) true (leb 5 k)) _ e6 in
    let e8 = both_right (pick (eqb (rule_of kind 2) 14) (legal children (k - 4) path kids) (is_none kids)) _ e7 in (
      both_left (stands_in which kind) _ e,
      (
        legal-stood children (k - 4) path kids (held (eqb (rule_of kind 2) 14) children (k - 4) path kids (both_left _ _ e7)),
        (
          legal-stood connections (k - 4) path links (held (eqb (rule_of kind 5) 15) connections (k - 4) path links (both_left _ _ e8)),
          legal-stood which k above rest
              (both_right (pick (eqb (rule_of kind 5) 15) (legal connections (k - 4) path links) (is_none links)) _ e8),
        ),
      ),
    )

root-stood : (root : ℕ) (t : Trees) → legal_root root t ≡ true → Stood root t
unfolding legal_root
root-stood root t e = legal-stood root 62 0 t (both_right (is_root root) (legal root 62 0 t) e)

pub made_again : (root : ℕ) (t : Trees) → legal_root root t ≡ true → trees_of root (flat 0 0 t) ≡ taken t []
made_again root t e = stood-again root t (root-stood root t e)

pub once : (root : ℕ) (t u : Trees) → legal_root root t ≡ true → legal_root root u ≡ true → flat 0 0 t ≡ flat 0 0 u → t ≡ u
once root t u a b e = stood-once root t u (root-stood root t a) (root-stood root u b) e
