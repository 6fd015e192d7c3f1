-- One law for each answer of the turns, at plain variables.
use Rattle.std.specs.Prelude.{Ok, Err}
use Prim.Native.Nat.{ℕ, zero, suc, ◌+◌, ◌-◌, ◌*◌, ◌/◌, ◌%◌, ◌^◌, ◌≤◌, ◌<◌}
use mathlib.Core.Path.{◌≡◌, refl, sym, ◌∙◌}
use mathlib.Core.List.{List, [], ◌∷◌}
use mathlib.Core.Bool.{true, false, not}
use native.Mathlib.Omega.{arith}
use borrow.Author.Tests.{le-leb, lt-leb, eq-eqb, ne_eqb, lt-ltb, le-ltb}
use lib.Bits.{bit_or}
use lib.Pow.{shl_exact}
use lib.ListN.{length, get_or}
use lib.Dec.{ltb, eqb}
use Rattle.ber_containers.specs.declared.No.{No}
use Rattle.ber_containers.specs.declared.Open.{Open}
use Rattle.ber_containers.specs.declared.Tag.{Tag}
use Rattle.ber_containers.specs.declared.Stands.TheVariants.{Ended, Here, Refused}
use Rattle.ber_containers.specs.Ends.{no, enter_at, first_at, last_at, is_tag}
use Rattle.ber_containers.specs.Passing.{passed_at}
use Rattle.glow_rows.specs.declared.Cell.{Cell}
use Rattle.glow_grammar.specs.declared.Leaf.{Leaf}
use Rattle.glow_grammar.specs.declared.Leaf.TheVariants.{Kept, Refused as Unfit}
use Rattle.glow_grammar.specs.Grammar.{members, rule_of, required, is_set, inner_class, inner_number, collection_of, kind_in}
use Rattle.glow_grammar.specs.Leaf.{leaf_at}
use Rattle.glow_steps.specs.declared.Member.{Member}
use Rattle.glow_steps.specs.declared.Member.TheVariants.{Done, Over, Leaf as Cell-of, Contents, Items, Refused as NoMember}
use Rattle.glow_steps.specs.declared.Item.TheVariants.{Done as NoMore, Element, Refused as NoItem}
use Rattle.glow_steps.specs.Members.{marked, mark, due, in_order, again, after_listed, after_other, column}
use Rattle.glow_steps.specs.Members.{plain_at, inner_at, listed_at, ruled_at, member_at, kind_of, item_at}
use Rattle.glow_steps.specs.Progress.{MemberOnward}

-- what came before
module _ (row before n : ℕ) where
  pub due-some : before < required row → due row before n ≡ ltb before n
  unfolding due
  due-some h = simp (lt-ltb _ _ h)

  pub due-none : required row ≤ before → due row before n ≡ false
  unfolding due
  due-none h = simp (le-ltb _ _ h)

  pub order-set : is_set row ≡ true → in_order row before n ≡ true
  unfolding in_order
  order-set h = simp h

  pub again-set : is_set row ≡ true → again row before n ≡ marked before n
  unfolding again
  again-set h = simp h

  pub listed-set : is_set row ≡ true → after_listed row before n ≡ mark before n
  unfolding after_listed
  listed-set h = simp h

  pub other-set : is_set row ≡ true → after_other row before n ≡ before
  unfolding after_other
  other-set h = simp h

  pub column-set : is_set row ≡ true → column row n ≡ n + 1
  unfolding column
  column-set h = simp h

  module _ (q : is_set row ≡ false) where
    pub order-low : n < before → in_order row before n ≡ false
    unfolding in_order
    order-low h = simp (q, lt-leb _ _ h)

    pub order-due : before ≤ n → in_order row before n ≡ not (due row before n)
    unfolding in_order
    order-due h = simp (q, le-leb _ _ h)

    pub again-not : again row before n ≡ false
    unfolding again
    again-not = simp q

    pub listed-not : after_listed row before n ≡ n + 1
    unfolding after_listed
    listed-not = simp q

    pub other-not : after_other row before n ≡ n + 1
    unfolding after_other
    other-not = simp q

    pub column-not : column row n ≡ n
    unfolding column
    column-not = simp q

-- what a member holds
module _ (s : List ℕ) (t : Tag) (k : ℕ) (g : Tag) (what above after c : ℕ) where
  pub plain_other : is_tag g 0 0 g.number ≡ false → plain_at s t k g what above after c ≡ NoMember (no 33 t.start)
  unfolding plain_at
  plain_other i = simp i

  module _ (i : is_tag g 0 0 g.number ≡ true) where
    abbrev judged-as : Leaf → Type 0
    judged-as x = leaf_at s t.start g.number g.start (g.inner.end - g.start) what above ≡ x

    pub plain-no : {number place : ℕ} → judged-as (Unfit number place) → plain_at s t k g what above after c ≡ NoMember (no number place)
    unfolding plain_at
    plain-no l = simp (i, l)

    pub plain_more : {v : Cell} {path : ℕ} {e : No} → judged-as (Kept v path) → last_at s g.inner.end t.inner k ≡ Err e
        → plain_at s t k g what above after c ≡ NoMember e
    unfolding plain_at
    plain_more l m = simp (i, l, m)

    pub plain-kept : {v : Cell} {path next : ℕ} → judged-as (Kept v path) → last_at s g.inner.end t.inner k ≡ Ok next
        → plain_at s t k g what above after c ≡ Cell-of after c v path next
    unfolding plain_at
    plain-kept l m = simp (i, l, m)

module _ (t : Tag) (k : ℕ) (g : Tag) (what after : ℕ) where
  pub inner-other : is_tag g (inner_class what) 1 (inner_number what) ≡ false → inner_at t k g what after ≡ NoMember (no 33 t.start)
  unfolding inner_at
  inner-other i = simp i

  module _ (i : is_tag g (inner_class what) 1 (inner_number what) ≡ true) where
    pub inner-contents : what ≡ 13 → inner_at t k g what after ≡ Contents after t.inner g k
    unfolding inner_at
    inner-contents h = simp (i, eq-eqb _ _ h)

    pub inner-items : (what ≡ 13 → ⊥) → inner_at t k g what after ≡ Items after (collection_of what) t.inner g k
    unfolding inner_at
    inner-items h = simp (i, ne_eqb _ _ h)

module _ (s : List ℕ) (t : Tag) (k what above after c : ℕ) where
  pub listed-missing : {e : No} → first_at s t.start t.inner k ≡ Err e → listed_at s t k what above after c ≡ NoMember e
  unfolding listed_at
  listed-missing h = rw h

  pub listed-inner : {g : Tag} → first_at s t.start t.inner k ≡ Ok g → 13 ≤ what → listed_at s t k what above after c ≡ inner_at t k g what after
  unfolding listed_at
  listed-inner h w = simp (h, le-leb _ _ w)

  pub listed_plain : {g : Tag} → first_at s t.start t.inner k ≡ Ok g → what < 13
      → listed_at s t k what above after c ≡ plain_at s t k g what above after c
  unfolding listed_at
  listed_plain h w = simp (h, lt-leb _ _ w)

module _ (s : List ℕ) (p : ℕ) (t : Tag) (k row above before what : ℕ) where
  module _ (u : what ≡ 0) where
    pub ruled-over : {next : ℕ} → passed_at s t k ≡ Ok next
        → ruled_at s p t k row above before what ≡ Over (after_other row before t.number) next
    unfolding ruled_at
    ruled-over e = simp (eq-eqb _ _ u, e)

    pub ruled-over-no : {e : No} → passed_at s t k ≡ Err e → ruled_at s p t k row above before what ≡ NoMember e
    unfolding ruled_at
    ruled-over-no e = simp (eq-eqb _ _ u, e)

  module _ (u : what ≡ 0 → ⊥) where
    pub ruled-form : (t.constructed ≡ 1 → ⊥) → ruled_at s p t k row above before what ≡ NoMember (no 33 p)
    unfolding ruled_at
    ruled-form f = simp (ne_eqb _ _ u, ne_eqb _ _ f)

    pub ruled-again : t.constructed ≡ 1 → again row before t.number ≡ true → ruled_at s p t k row above before what ≡ NoMember (no 33 p)
    unfolding ruled_at
    ruled-again f a = simp (ne_eqb _ _ u, eq-eqb _ _ f, a)

    pub ruled-listed : t.constructed ≡ 1 → again row before t.number ≡ false
        → ruled_at s p t k row above before what ≡ listed_at s t k what above (after_listed row before t.number) (column row t.number)
    unfolding ruled_at
    ruled-listed f a = simp (ne_eqb _ _ u, eq-eqb _ _ f, a)

module _ (s : List ℕ) (p : ℕ) (o : Open) (k row above before : ℕ) where
  pub member-no : {e : No} → enter_at s p o k ≡ Refused e → member_at s p o k row above before ≡ NoMember e
  unfolding member_at
  member-no h = rw h

  pub member-due : {n : ℕ} → enter_at s p o k ≡ Ended n → due row before 268435456 ≡ true → member_at s p o k row above before ≡ NoMember (no 33 p)
  unfolding member_at
  member-due h d = simp (h, d)

  pub member-done : {n : ℕ} → enter_at s p o k ≡ Ended n → due row before 268435456 ≡ false → member_at s p o k row above before ≡ Done n
  unfolding member_at
  member-done h d = simp (h, d)

  pub member-class : {t : Tag} → enter_at s p o k ≡ Here t → (t.class ≡ 2 → ⊥) → member_at s p o k row above before ≡ NoMember (no 33 p)
  unfolding member_at
  member-class h c = simp (h, ne_eqb _ _ c)

  pub member-order : {t : Tag} → enter_at s p o k ≡ Here t → t.class ≡ 2 → in_order row before t.number ≡ false
      → member_at s p o k row above before ≡ NoMember (no 33 p)
  unfolding member_at
  member-order h c i = simp (h, eq-eqb _ _ c, i)

  pub member-ruled : {t : Tag} → enter_at s p o k ≡ Here t → t.class ≡ 2 → in_order row before t.number ≡ true
      → member_at s p o k row above before ≡ ruled_at s p t (k - 1) row above before (rule_of row t.number)
  unfolding member_at
  member-ruled h c i = simp (h, eq-eqb _ _ c, i)

module _ (which : ℕ) (g : Tag) where
  pub kind-other : is_tag g 1 1 g.number ≡ false → kind_of which g ≡ 0
  unfolding kind_of
  kind-other i = simp i

  pub kind-held : is_tag g 1 1 g.number ≡ true → kind_of which g ≡ kind_in which g.number
  unfolding kind_of
  kind-held i = simp i

module _ (s : List ℕ) (p : ℕ) (o : Open) (k which : ℕ) where
  pub item-no : {e : No} → enter_at s p o k ≡ Refused e → item_at s p o k which ≡ NoItem e
  unfolding item_at
  item-no h = rw h

  pub item-done : {n : ℕ} → enter_at s p o k ≡ Ended n → item_at s p o k which ≡ NoMore n
  unfolding item_at
  item-done h = rw h

  module _ {t : Tag} (h : enter_at s p o k ≡ Here t) where
    pub item-other : is_tag t 2 1 0 ≡ false → item_at s p o k which ≡ NoItem (no 33 p)
    unfolding item_at
    item-other i = simp (h, i)

    module _ (i : is_tag t 2 1 0 ≡ true) {left : ℕ} (l : left ≡ k - 1) where
      pub item-missing : {e : No} → first_at s t.start t.inner left ≡ Err e → item_at s p o k which ≡ NoItem e
      unfolding item_at
      item-missing f = simp (h, i, rw l at f)

      module _ {g : Tag} (f : first_at s t.start t.inner left ≡ Ok g) {kind : ℕ} (e : kind_of which g ≡ kind) where
        pub item-kind : kind ≡ 0 → item_at s p o k which ≡ NoItem (no 33 t.start)
        unfolding item_at
        item-kind z = simp (h, i, rw l at f, eq-eqb _ _ (e ∙ z))

        pub item-element : (kind ≡ 0 → ⊥) → item_at s p o k which ≡ Element kind t.inner g left
        unfolding item_at
        item-element z = rw (← e, l) (simp (h, i, rw l at f, ne_eqb _ _ (λ q. z (sym e ∙ q))))

-- a member read from the content of a tag is read from the tag
pub member-later : (s : List ℕ) (p q : ℕ) (r : Member) → p ≤ q → MemberOnward s q r → MemberOnward s p r
member-later s p q (Done next) h w = omega arith
member-later s p q (Over before next) h w = (omega arith, omega arith)
member-later s p q (Cell-of before c v above next) h w = (omega arith, omega arith)
member-later s p q (Contents before outer g k) h w = (omega arith, omega arith)
member-later s p q (Items before which outer g k) h w = (omega arith, omega arith)
member-later s p q (NoMember e) h w = tt

-- a listed member's number is below 16
shorter : (xs : List ℕ) (n : ℕ) → (get_or xs n 0 ≡ 0 → ⊥) → n < length xs
shorter [] n h = absurd (h refl)
shorter (x ∷ xs) zero h = omega arith
shorter (x ∷ xs) (suc n) h = let r : n < length xs = shorter xs n h in omega arith

abbrev Short : List (List ℕ) → Type 0
Short [] = Unit {0}
Short (xs ∷ xss) = (length xs < 16) × Short xss

short-at : (xss : List (List ℕ)) (row : ℕ) → Short xss → length (get_or xss row []) < 16
short-at [] row h = omega arith
short-at (xs ∷ xss) zero h = h.0
short-at (xs ∷ xss) (suc row) h = short-at xss row h.1

all_short : Short members
unfolding members
all_short = search arith

pub rule-small : (row n : ℕ) → (rule_of row n ≡ 0 → ⊥) → n < 16
unfolding rule_of
rule-small row n h = let a = shorter (get_or members row []) n h in let b = short-at members row all_short in omega arith

-- marks
pub marked-is : (before n : ℕ) → marked before n ≡ eqb (before / 2 ^ n % 2) 1
unfolding marked
marked-is before n = refl

pub mark-is : (before n : ℕ) → n < 16 → mark before n ≡ bit_or before (1 * 2 ^ n % 2 ^ 64)
unfolding mark
mark-is before n h = let e : 1 * 2 ^ n ≡ 2 ^ n = omega arith in rw (shl_exact {a = 1} 1 n 64 (omega arith) (omega arith), e)
