-- One turn of the walk where a member or an item was written.
use Prim.Native.Nat.{ℕ, ◌-◌, ◌≤◌, ◌<◌}
use mathlib.Core.Path.{◌≡◌, refl, ◌∙◌}
use mathlib.Core.List.{List}
use mathlib.Core.Bool.{Bool, true, false}
use native.Mathlib.Omega.{arith}
use borrow.Author.Tests.{le-leb, lt-leb, eq-eqb, ne_eqb}
use lib.ListN.{length}
use lib.Dec.{leb, eqb}
use Rattle.base_choices.specs.Choices.{pick}
use Rattle.ber_containers.specs.declared.Tag.{Tag}
use Rattle.ber_containers.specs.Ends.{bit, deep, is_tag}
use Rattle.glow_rows.specs.declared.Cell.{Cell}
use Rattle.glow_grammar.specs.declared.Leaf.TheVariants.{Kept}
use Rattle.glow_grammar.specs.Grammar.{body, rule_of, inner_class, inner_number, collection_of, kind_in}
use Rattle.glow_grammar.specs.Leaf.{leaf_at}
use Rattle.glow_steps.specs.declared.Member.TheVariants.{Done, Leaf, Contents, Items}
use Rattle.glow_steps.specs.declared.Item.TheVariants.{Done as NoMore, Element}
use Rattle.glow_steps.specs.Members.{due, in_order, again, after_listed, column, plain_at, inner_at, listed_at, ruled_at, member_at, kind_of, item_at}
use Rattle.trees_read_back.proofs.Standing.{till, tag_of, Outered, enter-here, enter-end, first-here, last-here, deep-plain, deep-some}

pub member-done : (s : List ℕ) (p end k row above before : ℕ) → p ≡ end → due row before 268435456 ≡ false
    → member_at s p (till end) k row above before ≡ Done p
unfolding member_at
member-done s p end k row above before e d = rw (enter-end s p end k e, d)

pub item-done : (s : List ℕ) (p end k which : ℕ) → p ≡ end → item_at s p (till end) k which ≡ NoMore p
unfolding item_at
item-done s p end k which e = rw (enter-end s p end k e)

module _ (s : List ℕ) (p end k row above before n class : ℕ) (c : Bool) (number : ℕ) (xs rest : List ℕ)
    (y : Outered s p end n class c number xs rest) (some : 0 < k) (order : in_order row before n ≡ true) (fresh : again row before n ≡ false)
    (shallow : deep (bit c) (k - 1) ≡ false) (what : ℕ) (rule : rule_of row n ≡ what) (listed : what ≡ 0 → ⊥) where
  abbrev t : Tag
  t = tag_of 2 1 n y.a y.q

  abbrev g : Tag
  g = tag_of class (bit c) number y.b y.q

  member-listed : member_at s p (till end) k row above before
      ≡ pick (leb body what) (inner_at t (k - 1) g what (after_listed row before n)) (plain_at s t (k - 1) g what above (after_listed row before n) (column row n))
  unfolding member_at ruled_at listed_at
  member-listed =
      rw (
        enter-here s p end k 2 n y.a y.q y.here some,
        order,
        rule,
        ne_eqb _ _ listed,
        fresh,
        first-here s y.a y.q (k - 1) class (bit c) number y.b y.q y.first shallow,
      )
      refl

-- the value in a member's outer tag
plain-kept : (s : List ℕ) (k n a b q number what above after c len : ℕ) {v : Cell} {path : ℕ} → q - b ≡ len
    → leaf_at s a number b len what above ≡ Kept v path
    → plain_at s (tag_of 2 1 n a q) k (tag_of 0 0 number b q) what above after c ≡ Leaf after c v path q
unfolding plain_at is_tag
plain-kept s k n a b q number what above after c len e l = rw (eq-eqb number number refl, e, l, last-here s q q k refl)

inner-is : (k n a b q what after class number : ℕ) → inner_class what ≡ class → inner_number what ≡ number
    → inner_at (tag_of 2 1 n a q) k (tag_of class 1 number b q) what after
    ≡ pick (eqb what body) (Contents after (till q) (tag_of class 1 number b q) k) (Items after (collection_of what) (till q) (tag_of class 1 number b q) k)
unfolding inner_at is_tag
inner-is k n a b q what after class number e f = rw (e, f, eq-eqb class class refl, eq-eqb number number refl)

module _ (s : List ℕ) (p end k row above before n : ℕ) (rest : List ℕ) (some : 0 < k) (order : in_order row before n ≡ true)
    (fresh : again row before n ≡ false) (what : ℕ) (rule : rule_of row n ≡ what) (listed : what ≡ 0 → ⊥) where
  pub member-leaf : (number : ℕ) (xs : List ℕ) (y : Outered s p end n 0 false number xs rest) → what < 13
      → {v : Cell} {path : ℕ} → leaf_at s y.a number y.b (length xs) what above ≡ Kept v path
      → member_at s p (till end) k row above before ≡ Leaf (after_listed row before n) (column row n) v path y.q
  member-leaf number xs y h l =
      let e = y.ends in
      member-listed s p end k row above before n 0 false number xs rest y some order fresh (deep-plain (k - 1)) what rule listed
      ∙ rw (lt-leb _ _ h) (plain-kept s (k - 1) n y.a y.b y.q number what above (after_listed row before n) (column row n) (length xs) (omega arith) l)

  module _ (class number : ℕ) (xs : List ℕ) (y : Outered s p end n class true number xs rest) (deeper : 1 < k) where
    inner-at : 13 ≤ what → inner_class what ≡ class → inner_number what ≡ number
        → member_at s p (till end) k row above before
        ≡ pick (eqb what body) (Contents (after_listed row before n) (till y.q) (tag_of class 1 number y.b y.q) (k - 1))
        (Items (after_listed row before n) (collection_of what) (till y.q) (tag_of class 1 number y.b y.q) (k - 1))
    inner-at h e f =
        member-listed s p end k row above before n class true number xs rest y some order fresh (deep-some (k - 1) (omega arith)) what rule listed
        ∙ rw (le-leb _ _ h) (inner-is (k - 1) n y.a y.b y.q what (after_listed row before n) class number e f)

    pub member-contents : what ≡ 13 → class ≡ 0 → number ≡ 17
        → member_at s p (till end) k row above before ≡ Contents (after_listed row before n) (till y.q) (tag_of class 1 number y.b y.q) (k - 1)
    unfolding inner_class inner_number
    member-contents e c m = inner-at (omega arith) (rw (e, c)) (rw (e, m)) ∙ rw e

    pub member-items : (which : ℕ) → 13 < what → inner_class what ≡ class → inner_number what ≡ number → collection_of what ≡ which
        → member_at s p (till end) k row above before ≡ Items (after_listed row before n) which (till y.q) (tag_of class 1 number y.b y.q) (k - 1)
    member-items which h e f w = let z : what ≡ 13 → ⊥ = λ q. omega arith in inner-at (omega arith) e f ∙ rw (ne_eqb _ _ z, w)

-- an item of a collection
pub item-here : (s : List ℕ) (p end k which number kind : ℕ) (xs rest : List ℕ) (y : Outered s p end 0 1 true number xs rest) → 1 < k
    → kind_in which number ≡ kind → (kind ≡ 0 → ⊥)
    → item_at s p (till end) k which ≡ Element kind (till y.q) (tag_of 1 1 number y.b y.q) (k - 1)
unfolding item_at is_tag kind_of
item-here s p end k which number kind xs rest y h e z =
    rw (
      enter-here s p end k 2 0 y.a y.q y.here (omega arith),
      first-here s y.a y.q (k - 1) 1 1 number y.b y.q y.first (deep-some (k - 1) (omega arith)),
      eq-eqb number number refl,
      e,
      ne_eqb _ _ z,
    )
    refl
