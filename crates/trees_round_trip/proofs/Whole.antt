-- The trees that entries make, and what is left over, are these entries.
use Prim.Native.Nat.{ℕ, zero, suc, ◌+◌}
use mathlib.Core.Path.{◌≡◌, refl, sym, ap, ◌∙◌}
use mathlib.Core.List.{List, [], ◌∷◌, ◌++◌, append_assoc, append-nil}
use mathlib.Core.Bool.{Bool, true, false}
use borrow.Author.Tests.{eqb-true}
use lib.ListN.{length}
use lib.Dec.{eqb}
use Rattle.base_choices.specs.Choices.{pick}
use Rattle.glow_grammar.specs.Grammar.{children, connections}
use Rattle.glow_trees.specs.Content.{Item, item}
use Rattle.glow_trees.specs.Trees.{none, tree, count, flat, stands_in, Taken, taken, stands, taken_by, trees_of}
use Rattle.trees_read_back.proofs.Bools.{never}

-- what stands under a parent has it
stood-parent : (which parent : ℕ) (e : Item) → stands which parent e ≡ true → e.parent ≡ parent
unfolding stands
stood-parent which parent e = go (eqb e.parent parent) refl
  where
    go : (b : Bool) → eqb e.parent parent ≡ b → pick b (stands_in which e.kind) false ≡ true → e.parent ≡ parent
    go true q h = eqb-true _ _ q
    go false q h = never h

-- entries that were taken, with those that were left
abbrev Back : ℕ → ℕ → List Item → Taken → Type 0
Back parent i es x = flat parent i x.trees ++ x.rest ≡ es

module _ (parent i : ℕ) (e : Item) (es : List Item) (kids links others : Taken) where
  abbrev whole : Taken
  whole = taken (tree e.kind e.members kids.trees links.trees others.trees) others.rest

  tree-back : e.parent ≡ parent
      → Back (suc i) (suc i) es kids
      → Back (suc i) (suc i + count kids.trees) kids.rest links
      → Back parent (suc i + (count kids.trees + count links.trees)) links.rest others
      → Back parent i (e ∷ es) whole
  unfolding flat
  tree-back p a b c =
      let ks = flat (suc i) (suc i) kids.trees in
      let ls = flat (suc i) (suc i + count kids.trees) links.trees in
      let rs = flat parent (suc i + (count kids.trees + count links.trees)) others.trees in
      let g : (ks ++ (ls ++ rs)) ++ others.rest ≡ es =
      append_assoc ks (ls ++ rs) others.rest
      ∙ ap (λ (x : List Item). ks ++ x) (append_assoc ls rs others.rest ∙ ap (λ (x : List Item). ls ++ x) c ∙ b)
      ∙ a in
      ap (λ (n : ℕ). item e.kind n e.members ∷ ((ks ++ (ls ++ rs)) ++ others.rest)) (sym p) ∙ ap (λ (x : List Item). e ∷ x) g

taken_back : (f which parent i : ℕ) (es : List Item) → Back parent i es (taken_by f which parent i es)
unfolding taken_by flat
taken_back zero which parent i es = refl
taken_back (suc f) which parent i [] = refl
taken_back (suc f) which parent i (e ∷ es) =
    let kids : Taken = taken_by f children (suc i) (suc i) es in
    let links : Taken = taken_by f connections (suc i) (suc i + count kids.trees) kids.rest in
    let others : Taken = taken_by f which parent (suc i + (count kids.trees + count links.trees)) links.rest in
    go kids links others (stands which parent e) refl
    (taken_back f children (suc i) (suc i) es)
    (taken_back f connections (suc i) (suc i + count kids.trees) kids.rest)
    (taken_back f which parent (suc i + (count kids.trees + count links.trees)) links.rest)
  where
    go : (kids links others : Taken) (b : Bool) → stands which parent e ≡ b
        → Back (suc i) (suc i) es kids
        → Back (suc i) (suc i + count kids.trees) kids.rest links
        → Back parent (suc i + (count kids.trees + count links.trees)) links.rest others
        → Back parent i (e ∷ es) (pick b (whole parent i e es kids links others) (taken none (e ∷ es)))
    go kids links others true q a b c = tree-back parent i e es kids links others (stood-parent which parent e q) a b c
    go kids links others false q a b c = refl

-- The entries of the trees that all entries make, where none is left over, are these entries.
pub taken-whole : (root : ℕ) (es : List Item) → (trees_of root es).rest ≡ [] → flat 0 0 (trees_of root es).trees ≡ es
unfolding trees_of
taken-whole root es e =
    sym (append-nil (flat 0 0 (trees_of root es).trees))
    ∙ ap (λ (x : List Item). flat 0 0 (trees_of root es).trees ++ x) (sym e)
    ∙ taken_back (suc (length es)) root 0 0 es
