-- One turn of the walk: what is known of each answer.
use Rattle.std.specs.Prelude.{Result, Ok, Err}
use Rattle.ber_containers.specs.declared.No.{No}
use Prim.Native.Nat.{ℕ, ◌+◌, ◌-◌, ◌<◌, ◌≤◌}
use mathlib.Core.Path.{◌≡◌, refl, subst}
use mathlib.Core.List.{List, [], ◌∷◌}
use mathlib.Core.Bool.{Bool, true, false}
use mathlib.Core.Logic.{◌⊎◌, inl, inr}
use native.Mathlib.Omega.{arith}
use borrow.Author.Tests.{eqb-true, eqb-false, leb-true, leb-false}
use lib.ListN.{length}
use lib.Dec.{leb, eqb}
use Rattle.base_choices.specs.Choices.{pick}
use Rattle.base_choices.proofs.Laws.{pick-by}
use Rattle.ber_integers.proofs.Radix.{Below}
use Rattle.ber_containers.specs.declared.Open.{Open}
use Rattle.ber_containers.specs.declared.Tag.{Tag}
use Rattle.ber_containers.specs.declared.Stands.{Stands}
use Rattle.ber_containers.specs.declared.Stands.TheVariants.{Ended, Here, Refused}
use Rattle.ber_containers.specs.Ends.{enter_at, first_at, last_at, is_tag}
use Rattle.ber_containers.specs.Passing.{passed_at}
use Rattle.glow_rows.specs.declared.Cell.{Cell}
use Rattle.glow_grammar.specs.declared.Leaf.{Leaf}
use Rattle.glow_grammar.specs.declared.Leaf.TheVariants.{Kept, Refused as Unfit}
use Rattle.glow_grammar.specs.Grammar.{rule_of, inner_class, inner_number, collection_of, kind_in}
use Rattle.glow_grammar.specs.Leaf.{leaf_at, LeafBounded}
use Rattle.glow_leaves.proofs.Bounds.{leaf-bounded, bounded-16}
use Rattle.glow_steps.specs.declared.Member.{Member}
use Rattle.glow_steps.specs.declared.Member.TheVariants.{Done, Over, Leaf as Cell-of, Contents, Items, Refused as NoMember}
use Rattle.glow_steps.specs.declared.Item.{Item}
use Rattle.glow_steps.specs.declared.Item.TheVariants.{Done as NoMore, Element, Refused as NoItem}
use Rattle.glow_steps.specs.Members.{due, in_order, again, after_listed, after_other, column, over_of, kept_of, leaf_of, plain_at, inner_at, value_of, listed_at, ruled_at}
use Rattle.glow_steps.specs.Members.{member_of, member_at, kind_of, element_of, item_of, item_at}
use Rattle.glow_trees.specs.Content.{content_of}
use Rattle.glow_trees.specs.Trees.{stands_in}
use Rattle.glow_trees.specs.Legal.{suits, present, path_of}
use Rattle.glow_trees.specs.Written.{member_octets}
use Rattle.trees_accepted.proofs.Bools.{never}
use Rattle.trees_accepted.proofs.Tables.{kind-stands}
use Rattle.trees_accepted.proofs.Sizes.{around, inside, member-size}
use Rattle.trees_accepted.proofs.Spans.{Closes, Tells, Begins, closes-later, tag-holds, EnterTell, FirstTell, LastTell, OnTell}
use Rattle.trees_accepted.proofs.Spans.{enter-tells, first-tells, last-tells, passed-tells}
use Rattle.trees_accepted.proofs.Leaves.{RealsLeast, Right, kept-right}

pub tag-form : (t : Tag) (class c number : ℕ) → is_tag t class c number ≡ true → t.constructed ≡ c
unfolding is_tag
tag-form t class c number = go (eqb t.class class) (eqb t.number number)
  where
    go : (a b : Bool) → pick a (pick b (eqb t.constructed c) false) false ≡ true → t.constructed ≡ c
    go true true e = eqb-true t.constructed c e
    go true false e = never e
    go false b e = never e

module _ (s : List ℕ) (octets : Below 256 s) (short : length s ≤ 16384) (least : ℕ → List ℕ) (reals : RealsLeast least) where
  -- a value in an outer tag at p: a container that is gone into
  pub record Inside (p k : ℕ) (outer : Open) (g : Tag) (j : ℕ) : Type 0 where
    pub counts : j ≡ k - 1
    pub allowed : 1 < k
    pub starts : g.start ≤ length s
    pub holds : (m q r n : ℕ) → g.start + m ≤ q → Closes g.inner q r → r ≤ length s → Closes outer r n → p + around (around m) ≤ n

  pub inside_of : (p k : ℕ) (t g : Tag) → Begins s p t → Begins s t.start g → 0 < k → 0 < k - 1 → Inside p k t.inner g (k - 1)
  inside_of p k t g a b h l =
      record {
        counts = refl;
        allowed = omega arith;
        starts = b.within;
        holds = λ m q r n u c w d.
            let x = closes-later g.inner q r c in
            let y = tag-holds t.start g q r m b.tells c u (omega arith) in
            tag-holds p t r n (around m) a.tells d y (omega arith);
      }

  module _ (p k row above before : ℕ) where
    pub record LeafRead (after c : ℕ) (v : Cell) (path next : ℕ) : Type 0 where
      pub n : ℕ
      pub listed : rule_of row n ≡ 0 → ⊥
      pub plain : rule_of row n < 13
      pub order : in_order row before n ≡ true
      pub fresh : again row before n ≡ false
      pub afters : after ≡ after_listed row before n
      pub cells : c ≡ column row n
      pub suit : suits (rule_of row n) (content_of s v) ≡ true
      pub there : present (content_of s v) ≡ true
      pub paths : path ≡ path_of (rule_of row n) above (content_of s v ∷ [])
      pub few : above ≤ 16 → path ≤ 16
      pub deep : 0 < k
      pub size : n < 31 → p + length (member_octets least n (content_of s v)) ≤ next
      pub ends : next ≤ length s

    pub record OverRead (after next : ℕ) : Type 0 where
      pub n : ℕ
      pub rule : rule_of row n ≡ 0
      pub order : in_order row before n ≡ true
      pub afters : after ≡ after_other row before n
      pub later : p ≤ next
      pub ends : next ≤ length s

    pub record InnerRead (after : ℕ) (outer : Open) (g : Tag) (j : ℕ) : Type 0 where
      pub n : ℕ
      pub rule : 13 ≤ rule_of row n
      pub order : in_order row before n ≡ true
      pub afters : after ≡ after_listed row before n
      pub inner : Inside p k outer g j

    abbrev pub MemberTell : Open → Member → Type 0
    MemberTell o (Done next) = (Closes o p next × (next ≤ length s)) × (due row before 268435456 ≡ false)
    MemberTell o (Over after next) = OverRead after next
    MemberTell o (Cell-of after c v path next) = LeafRead after c v path next
    MemberTell o (Contents after outer g j) = (r : InnerRead after outer g j) × (rule_of row r.n ≡ 13)
    MemberTell o (Items after which outer g j) =
        (r : InnerRead after outer g j) × ((rule_of row r.n ≡ 13 → ⊥) × (which ≡ collection_of (rule_of row r.n)))
    MemberTell o (NoMember e) = Unit {0}

    module _ (o : Open) (t : Tag) (b : Begins s p t) (allowed : t.constructed ≡ 1 → 0 < k) (order : in_order row before t.number ≡ true) where
      abbrev what : ℕ
      what = rule_of row t.number

      over-tells : rule_of row t.number ≡ 0 → (x : Result ℕ No) → OnTell s octets p x → MemberTell o (over_of (after_other row before t.number) x)
      over-tells e (Ok n) w = record { n = t.number; rule = e; order = order; afters = refl; later = w.0; ends = w.1 }
      over-tells e (Err x) w = tt

      module _ (some : rule_of row t.number ≡ 0 → ⊥) (held : t.constructed ≡ 1) (fresh : again row before t.number ≡ false)
          (g : Tag) (gb : Begins s t.start g) (ga : g.constructed ≡ 1 → 0 < k - 1) where
        abbrev after : ℕ
        after = after_listed row before t.number

        inner-tells : 13 ≤ what → MemberTell o (inner_at t (k - 1) g what after)
        unfolding inner_at
        inner-tells h =
            pick-by (MemberTell o) (is_tag g (inner_class what) 1 (inner_number what))
            (λ e. let i = inside_of p k t g b gb (allowed held) (ga (tag-form g (inner_class what) 1 (inner_number what) e)) in
            let r : InnerRead after t.inner g (k - 1) = record { n = t.number; rule = h; order = order; afters = refl; inner = i } in
            pick-by (MemberTell o) (eqb what 13) (λ e. (r, eqb-true what 13 e)) (λ e. (r, (eqb-false what 13 e, refl))))
            (λ e. tt)

        -- a value of a definite length
        ends_at : g.constructed ≡ 0 → (g.inner.definite ≡ 1) × (g.start + (g.inner.end - g.start) ≡ g.inner.end)
        ends_at c = go gb.tells
          where
            go : Tells t.start g → (g.inner.definite ≡ 1) × (g.start + (g.inner.end - g.start) ≡ g.inner.end)
            go (inl x) = let e = x.1.1.1 in (x.0, omega arith)
            go (inr x) = let e = x.1.1 in absurd (omega arith)

        leaf-tells : what < 13 → g.constructed ≡ 0 → (x : Leaf)
            → leaf_at s t.start g.number g.start (g.inner.end - g.start) what above ≡ x
            → MemberTell o (leaf_of s t (k - 1) g after (column row t.number) x)
        leaf-tells h c (Unfit number place) e = tt
        leaf-tells h c (Kept v n) e =
            let r : Right s least reals octets what above g.start (g.inner.end - g.start) v n =
            kept-right s least reals octets what above g.start (g.inner.end - g.start) some t.start g.number e in
            let f : LeafBounded above (Kept v n) =
            subst (LeafBounded above) e (leaf-bounded above s t.start g.number g.start (g.inner.end - g.start) what) in
            let d = ends_at c in
            let w : g.inner.end ≤ length s = omega (arith, r.ends, d.1) in
            go r f d w (last_at s g.inner.end t.inner (k - 1)) (last-tells s octets g.inner.end w t.inner (k - 1))
          where
            go : Right s least reals octets what above g.start (g.inner.end - g.start) v n → (n ≤ 16) ⊎ (n ≡ above)
                → (g.inner.definite ≡ 1) × (g.start + (g.inner.end - g.start) ≡ g.inner.end) → (w : g.inner.end ≤ length s)
                → (x : Result ℕ No) → LastTell s octets g.inner.end w t.inner x
                → MemberTell o (kept_of after (column row t.number) v n x)
            go r f d w (Err x) l = tt
            go r f d w (Ok next) l =
                let m = inside least (content_of s v) in
                let u : g.start + m ≤ g.inner.end = omega (arith, r.size, d.1) in
                let y = tag-holds t.start g g.inner.end g.inner.end m gb.tells (inl (d.0, (refl, refl))) u (omega arith) in
                let z = tag-holds p t g.inner.end next (around m) b.tells l.0 y (omega arith) in
                record {
                  n = t.number;
                  listed = some;
                  plain = h;
                  order = order;
                  fresh = fresh;
                  afters = refl;
                  cells = refl;
                  suit = r.suit;
                  there = r.there;
                  paths = r.path;
                  few = λ a. bounded-16 f a;
                  deep = allowed held;
                  size = λ a. let q = member-size least t.number (content_of s v) a r.short in omega arith;
                  ends = l.1;
                }

        plain-tells : what < 13 → MemberTell o (plain_at s t (k - 1) g what above after (column row t.number))
        unfolding plain_at
        plain-tells h =
            pick-by (MemberTell o) (is_tag g 0 0 g.number)
            (λ e. leaf-tells h (tag-form g 0 0 g.number e) (leaf_at s t.start g.number g.start (g.inner.end - g.start) what above) refl)
            (λ e. tt)

      value_tells : (rule_of row t.number ≡ 0 → ⊥) → (held : t.constructed ≡ 1) → again row before t.number ≡ false → (x : Result Tag No)
          → FirstTell s octets t.start b.within t.inner (k - 1) x
          → MemberTell o (value_of s t (k - 1) what above (after_listed row before t.number) (column row t.number) x)
      value_tells some held fresh (Ok g) w =
          pick-by (MemberTell o) (leb 13 what) (λ e. inner-tells some held fresh g w.0 w.1 (leb-true 13 what e))
          (λ e. plain-tells some held fresh g w.0 w.1 (leb-false 13 what e))
      value_tells some held fresh (Err e) w = tt

      ruled-tells : MemberTell o (ruled_at s p t (k - 1) row above before what)
      unfolding ruled_at listed_at
      ruled-tells =
          pick-by (MemberTell o) (eqb what 0)
          (λ e. over-tells (eqb-true what 0 e) (passed_at s t (k - 1)) (passed-tells s octets p t (k - 1) b))
          (λ e. pick-by (MemberTell o) (eqb t.constructed 1)
          (λ c. pick-by (MemberTell o) (again row before t.number) (λ f. tt)
          (λ f. value_tells (eqb-false what 0 e) (eqb-true t.constructed 1 c) f (first_at s t.start t.inner (k - 1))
          (first-tells s octets t.start b.within t.inner (k - 1))))
          (λ c. tt))

    member_of_lem : (h : p ≤ length s) (o : Open) (x : Stands) → EnterTell s octets p h o k x → MemberTell o (member_of s p k row above before x)
    member_of_lem h o (Ended n) w = pick-by (MemberTell o) (due row before 268435456) (λ e. tt) (λ e. (w, e))
    member_of_lem h o (Here t) w =
        pick-by (MemberTell o) (eqb t.class 2)
        (λ e. pick-by (MemberTell o) (in_order row before t.number) (λ i. ruled-tells o t w.0 w.1 i) (λ i. tt))
        (λ e. tt)
    member_of_lem h o (Refused e) w = tt

    pub member-tells : p ≤ length s → (o : Open) → MemberTell o (member_at s p o k row above before)
    unfolding member_at
    member-tells h o = member_of_lem h o (enter_at s p o k) (enter-tells s octets p h o k)

  -- in a collection
  module _ (p k which : ℕ) where
    abbrev pub ItemTell : Open → Item → Type 0
    ItemTell o (NoMore next) = Closes o p next × (next ≤ length s)
    ItemTell o (Element kind outer g j) = (stands_in which kind ≡ true) × Inside p k outer g j
    ItemTell o (NoItem e) = Unit {0}

    kind-in : (g : Tag) → (kind_of which g ≡ 0 → ⊥) → (stands_in which (kind_of which g) ≡ true) × (g.constructed ≡ 1)
    unfolding kind_of
    kind-in g = go (is_tag g 1 1 g.number) refl
      where
        go : (b : Bool) → is_tag g 1 1 g.number ≡ b → (pick b (kind_in which g.number) 0 ≡ 0 → ⊥)
            → (stands_in which (pick b (kind_in which g.number) 0) ≡ true) × (g.constructed ≡ 1)
        go true e n = (kind-stands which g.number n, tag-form g 1 1 g.number e)
        go false e n = absurd (n refl)

    element-of : (o : Open) (t : Tag) (b : Begins s p t) → 0 < k → (x : Result Tag No) → FirstTell s octets t.start b.within t.inner (k - 1) x
        → ItemTell o (element_of which t (k - 1) x)
    element-of o t b l (Ok g) w =
        pick-by (ItemTell o) (eqb (kind_of which g) 0) (λ e. tt)
        (λ e. let i = kind-in g (eqb-false (kind_of which g) 0 e) in (i.0, inside_of p k t g b w.0 l (w.1 i.1)))
    element-of o t b l (Err e) w = tt

    item-of : (h : p ≤ length s) (o : Open) (x : Stands) → EnterTell s octets p h o k x → ItemTell o (item_of s p k which x)
    item-of h o (Ended n) w = w
    item-of h o (Here t) w =
        pick-by (ItemTell o) (is_tag t 2 1 0)
        (λ e. element-of o t w.0 (w.1 (tag-form t 2 1 0 e)) (first_at s t.start t.inner (k - 1))
        (first-tells s octets t.start w.0.within t.inner (k - 1)))
        (λ e. tt)
    item-of h o (Refused e) w = tt

    pub item-tells : p ≤ length s → (o : Open) → ItemTell o (item_at s p o k which)
    unfolding item_at
    item-tells h o = item-of h o (enter_at s p o k) (enter-tells s octets p h o k)
