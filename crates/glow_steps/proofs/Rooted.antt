-- Laws of Root, and of the small tables that the turns read.
use Rattle.std.specs.Prelude.{Ok, Err}
use Prim.Native.Nat.{ℕ}
use mathlib.Core.Path.{◌≡◌, sym, ◌∙◌}
use mathlib.Core.List.{List}
use mathlib.Core.Bool.{true, false}
use borrow.Author.Tests.{eq-eqb, ne_eqb}
use Rattle.ber_containers.specs.declared.No.{No}
use Rattle.ber_containers.specs.declared.Tag.{Tag}
use Rattle.ber_containers.specs.declared.Stands.TheVariants.{Ended, Here, Refused}
use Rattle.ber_containers.specs.Ends.{no, enter_at, first_at, is_tag}
use Rattle.glow_grammar.specs.Grammar.{body, kids, children, connections, root_elements, streams, no_root, application, universal, set, sequence}
use Rattle.glow_grammar.specs.Grammar.{element_collection, stream_collection, root_element_collection}
use Rattle.glow_grammar.specs.Grammar.{inner_class, inner_number, collection_of, root_of}
use Rattle.glow_steps.specs.Root.{unbounded, root_kind, top_at}

module _ (what : ℕ) where
  pub collection-kids : what ≡ kids → collection_of what ≡ children
  unfolding collection_of
  collection-kids h = simp (eq-eqb _ _ h)

  pub collection-links : (what ≡ kids → ⊥) → collection_of what ≡ connections
  unfolding collection_of
  collection-links h = simp (ne_eqb _ _ h)

  pub class-kids : what ≡ kids → inner_class what ≡ application
  unfolding inner_class
  class-kids h = simp (eq-eqb _ _ h)

  pub class-other : (what ≡ kids → ⊥) → inner_class what ≡ universal
  unfolding inner_class
  class-other h = simp (ne_eqb _ _ h)

  pub number-body : what ≡ body → inner_number what ≡ set
  unfolding inner_number
  number-body h = simp (eq-eqb _ _ h)

  pub number-kids : (what ≡ body → ⊥) → what ≡ kids → inner_number what ≡ element_collection
  unfolding inner_number
  number-kids h i = simp (ne_eqb _ _ h, eq-eqb _ _ i)

  pub number-links : (what ≡ body → ⊥) → (what ≡ kids → ⊥) → inner_number what ≡ sequence
  unfolding inner_number
  number-links h i = simp (ne_eqb _ _ h, ne_eqb _ _ i)

module _ (number : ℕ) where
  pub root-elements : number ≡ root_element_collection → root_of number ≡ root_elements
  unfolding root_of
  root-elements h = simp (eq-eqb _ _ h)

  pub root-streams : (number ≡ root_element_collection → ⊥) → number ≡ stream_collection → root_of number ≡ streams
  unfolding root_of
  root-streams h i = simp (ne_eqb _ _ h, eq-eqb _ _ i)

  pub root_none : (number ≡ root_element_collection → ⊥) → (number ≡ stream_collection → ⊥) → root_of number ≡ no_root
  unfolding root_of
  root_none h i = simp (ne_eqb _ _ h, ne_eqb _ _ i)

module _ (g : Tag) where
  pub root-other : is_tag g 1 1 g.number ≡ false → root_kind g ≡ no_root
  unfolding root_kind
  root-other i = simp i

  pub root-held : is_tag g 1 1 g.number ≡ true → root_kind g ≡ root_of g.number
  unfolding root_kind
  root-held i = simp i

module _ (s : List ℕ) where
  pub top-no : {e : No} → enter_at s 0 unbounded 64 ≡ Refused e → top_at s ≡ Err e
  unfolding top_at
  top-no h = rw h

  pub top-ended : {n : ℕ} → enter_at s 0 unbounded 64 ≡ Ended n → top_at s ≡ Err (no 33 0)
  unfolding top_at
  top-ended h = rw h

  module _ {t : Tag} (h : enter_at s 0 unbounded 64 ≡ Here t) where
    pub top-other : is_tag t 1 1 0 ≡ false → top_at s ≡ Err (no 33 0)
    unfolding top_at
    top-other i = simp (h, i)

    module _ (i : is_tag t 1 1 0 ≡ true) where
      pub top-missing : {e : No} → first_at s t.start t.inner 63 ≡ Err e → top_at s ≡ Err e
      unfolding top_at
      top-missing f = simp (h, i, f)

      module _ {g : Tag} (f : first_at s t.start t.inner 63 ≡ Ok g) {which : ℕ} (e : root_kind g ≡ which) where
        pub top-none : which ≡ 4 → top_at s ≡ Err (no 33 t.start)
        unfolding top_at
        top-none z = simp (h, i, f, eq-eqb _ _ (e ∙ z))

        pub top-root : (which ≡ 4 → ⊥) → top_at s ≡ Ok (which, t.inner, g)
        unfolding top_at
        top-root z = rw (← e) (simp (h, i, f, ne_eqb _ _ (λ q. z (sym e ∙ q))))
