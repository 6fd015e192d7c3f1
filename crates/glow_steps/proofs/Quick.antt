-- A member or an item told at once is what the general turn gives.
use Rattle.std.specs.Prelude.{Ok}
use Prim.Native.Nat.{ℕ, ◌+◌, ◌-◌, ◌/◌, ◌%◌, ◌≤◌, ◌<◌}
use mathlib.Core.Path.{◌≡◌, refl, sym, ap, subst, ◌∙◌}
use mathlib.Core.Bool.{Bool, true, false}
use mathlib.Core.List.{List}
use native.Mathlib.Omega.{arith}
use borrow.Author.Tests.{lt-ltb, le-ltb, eq-eqb, ne_eqb}
use lib.ListN.{length, get_or}
use lib.Dec.{eqb}
use Rattle.base_choices.specs.Choices.{pick}
use Rattle.ber_containers.specs.declared.Open.{Open}
use Rattle.ber_containers.specs.declared.Tag.{Tag}
use Rattle.ber_containers.specs.declared.Stands.TheVariants.{Here}
use Rattle.ber_containers.specs.Ends.{no, deep, standing_at, enter_at, first_at, last_at, is_tag}
use Rattle.ber_containers.specs.Passing.{Through, passed_at}
use Rattle.ber_containers.specs.Short.{short_tag, Short}
use Rattle.ber_containers.proofs.Laws.{standing-ended, enter-here, first-here, last-ended, tag-form}
use Rattle.ber_containers.proofs.Laws.{skip-next, passed-in, passed-skip}
use Rattle.glow_rows.specs.declared.Cell.{Cell}
use Rattle.glow_grammar.specs.declared.Leaf.TheVariants.{Kept, Refused as Unfit}
use Rattle.glow_grammar.specs.Grammar.{rule_of, kind_in, inner_class, inner_number, collection_of}
use Rattle.glow_grammar.specs.Leaf.{leaf_at}
use Rattle.glow_steps.specs.declared.Member.TheVariants.{Leaf as Cell-of, Contents, Items, Refused as NoMember}
use Rattle.glow_steps.specs.declared.Item.TheVariants.{Element}
use Rattle.glow_steps.specs.Members.{in_order, again, after_listed, column, plain_at, inner_at, listed_at, member_at, item_at}
use Rattle.glow_steps.specs.Brief.{opened_by, tag_in, Pair, Nested, NextRule, Suits, MemberTold, Unlisted, OverTold, KindTold, ItemTold}
use Rattle.glow_steps.proofs.Laws.{rule-small, member-ruled, ruled-over, ruled-listed, listed_plain, listed-inner, plain-no, plain-kept}
use Rattle.glow_steps.proofs.Laws.{inner-contents, inner-items, kind-held, item-element}

abbrev definite : ℕ → Open
definite end = record { definite = 1; end = end }

abbrev indefinite : ℕ → Open
indefinite end = record { definite = 0; end = end }

pub opened-definite : (start n end : ℕ) → n < 128 → opened_by start n end ≡ definite (start + n)
unfolding opened_by
opened-definite start n end h = rw (lt-ltb _ _ h)

pub opened-open : (start n end : ℕ) → 128 ≤ n → opened_by start n end ≡ indefinite end
unfolding opened_by
opened-open start n end h = rw (le-ltb _ _ h)

short-definite : (b start n end : ℕ) → n < 128 → short_tag b start n end ≡ tag_in b start (definite (start + n))
unfolding short_tag
short-definite b start n end h = rw (lt-ltb _ _ h)

short-open : (b start n end : ℕ) → n ≡ 128 → short_tag b start n end ≡ tag_in b start (indefinite end)
unfolding short_tag
short-open b start n end e = rw e

-- two tags of definite length, two of indefinite length
module _ (s : List ℕ) (p end : ℕ) {l n : ℕ} (a : Short s p end l) where
  pair-definite : Short s (p + 2) (p + 2 + l) n → n + 2 ≡ l → l < 128 → Pair s p end n
  pair-definite b e h =
      let m : n < 128 = omega arith in
      let x : definite (p + 4 + n) ≡ opened_by (p + 4) n end = sym (opened-definite (p + 4) n end m) in
      let i : p + 2 + l ≡ p + 4 + n = omega arith in
      let j : p + 2 + 2 ≡ p + 4 = omega arith in
      record {
        inside = omega (arith, b.inside);
        fits = λ z. omega (arith, a.fits h);
        outer = λ o q.
            a.stands o q
            ∙ ap Here (short-definite (get_or s p 0) (p + 2) l end h)
            ∙ ap (λ (y : ℕ). Here (tag_in (get_or s p 0) (p + 2) (definite y))) i
            ∙ ap (λ (y : Open). Here (tag_in (get_or s p 0) (p + 2) y)) x;
        inner = subst (λ (y : Open). standing_at s (p + 2) y ≡ Here (tag_in (get_or s (p + 2) 0) (p + 4) y)) x
            (b.stands (definite (p + 4 + n)) (sym i)
            ∙ ap Here (short-definite (get_or s (p + 2) 0) (p + 2 + 2) n (p + 2 + l) m)
            ∙ ap (λ (y : ℕ). Here (tag_in (get_or s (p + 2) 0) y (definite (y + n)))) j);
      }

  pair-open : Short s (p + 2) end n → l ≡ 128 → n ≡ 128 → Pair s p end n
  pair-open b d e =
      let x : indefinite end ≡ opened_by (p + 4) n end = sym (opened-open (p + 4) n end (omega arith)) in
      let j : p + 2 + 2 ≡ p + 4 = omega arith in
      record {
        inside = omega (arith, b.inside);
        fits = λ z. absurd (omega arith);
        outer = λ o q.
            a.stands o q
            ∙ ap Here (short-open (get_or s p 0) (p + 2) l end d)
            ∙ ap (λ (y : Open). Here (tag_in (get_or s p 0) (p + 2) y)) x;
        inner = subst (λ (y : Open). standing_at s (p + 2) y ≡ Here (tag_in (get_or s (p + 2) 0) (p + 4) y)) x
            (b.stands (indefinite end) refl
            ∙ ap Here (short-open (get_or s (p + 2) 0) (p + 2 + 2) n end e)
            ∙ ap (λ (y : ℕ). Here (tag_in (get_or s (p + 2) 0) y (indefinite end))) j);
      }

-- the length is the octet that stands there
length_at : (s : List ℕ) (p : ℕ) {n end : ℕ} → Short s (p + 2) end n → n ≡ get_or s (p + 3) 0
length_at s p b = let j : p + 2 + 1 ≡ p + 3 = omega arith in b.octet ∙ ap (λ (y : ℕ). get_or s y 0) j

-- what the tests of `nested` say
module _ (s : List ℕ) (p end : ℕ) {l n : ℕ} (a : Short s p end l) where
  pub nested-definite : Short s (p + 2) (p + 2 + l) n → n + 2 ≡ l → l < 128 → Nested s p end n
  nested-definite b e h = record { octet = length_at s p b; pair = pair-definite s p end a b e h }

  pub nested-open : Short s (p + 2) end n → l ≡ 128 → n ≡ 128 → Nested s p end 128
  nested-open b d e = subst (Nested s p end) e (record { octet = length_at s p b; pair = pair-open s p end a b d e })

-- what `rule_at` and `kind_at` tell of it
module _ (s : List ℕ) (p end k : ℕ) {n : ℕ} (room : 2 ≤ k) (h : Nested s p end n) where
  pub nested-member : end < 18446744073709551616 → {row before what : ℕ} → (NextRule (get_or s p 0) row before what) × (Suits what (get_or s (p + 2) 0) n)
      → MemberTold s p end k row before what
  nested-member top {row} {before} {what} r =
      record {
        room = room;
        top = top;
        pair = subst (Pair s p end) h.octet h.pair;
        rule = r.0;
        suits = subst (Suits what (get_or s (p + 2) 0)) h.octet r.1;
      }

  pub nested-item : {which kind : ℕ} → KindTold which (get_or s p 0) (get_or s (p + 2) 0) kind → ItemTold s p end k which kind
  nested-item r = record { room = room; pair = subst (Pair s p end) h.octet h.pair; names = r }

deep_room : (c k : ℕ) → (k ≡ 0 → ⊥) → deep c k ≡ false
unfolding deep
deep_room c k h = go (eqb c 1) (eqb k 0) (ne_eqb _ _ h)
  where
    go : (u v : Bool) → v ≡ false → pick u v false ≡ false
    go true v e = e
    go false v e = refl

-- the two tags, gone into
module _ (s : List ℕ) (p : ℕ) (o : Open) (k : ℕ) (room : 2 ≤ k) (h : Pair s p o.end (get_or s (p + 3) 0)) where
  abbrev inside : Open
  inside = opened_by (p + 4) (get_or s (p + 3) 0) o.end

  abbrev outer : Tag
  outer = tag_in (get_or s p 0) (p + 2) inside

  abbrev value : Tag
  value = tag_in (get_or s (p + 2) 0) (p + 4) inside

  entered : enter_at s p o k ≡ Here outer
  entered = enter-here s p o k (h.outer o refl) (deep_room _ k (λ (z : k ≡ 0). omega arith))

  found : first_at s (p + 2) inside (k - 1) ≡ Ok value
  found = first-here s (p + 2) inside (k - 1) h.inner (eq-eqb inside.definite inside.definite refl) (deep_room _ (k - 1) (λ
      (z : k - 1 ≡ 0). omega arith))

-- the tags of contents and of collections
body-tag : (what b start : ℕ) (x : Open) → what ≡ 13 → b ≡ 49 → is_tag (tag_in b start x) (inner_class what) 1 (inner_number what) ≡ true
unfolding inner_class inner_number is_tag
body-tag what b start x e f = rw (e, f)

list-tag : (what b start : ℕ) (x : Open) → 13 < what → b ≡ pick (eqb what 14) 100 48 → (u : Bool) → eqb what 14 ≡ u
    → is_tag (tag_in b start x) (inner_class what) 1 (inner_number what) ≡ true
unfolding inner_class inner_number is_tag
list-tag what b start x l e true q = let n : what ≡ 13 → ⊥ = λ z. omega arith in rw (e, q, ne_eqb _ _ n)
list-tag what b start x l e false q = let n : what ≡ 13 → ⊥ = λ z. omega arith in rw (e, q, ne_eqb _ _ n)

-- a listed member's number is below 16
next_small : {b row before what : ℕ} → NextRule b row before what → (what ≡ 0 → ⊥) → {m : ℕ} → m ≡ b % 32 → m < 16
next_small {b} {row} r w {m} e = subst (λ x. x < 16) (sym e) (rule-small row (b % 32) (λ q. w (sym r.rule ∙ q)))

module _ (s : List ℕ) (p : ℕ) (o : Open) (k row above before what : ℕ) (h : MemberTold s p o.end k row before what) (w : what ≡ 0 → ⊥) where
  abbrev tag : Tag
  tag = outer s p o k h.room h.pair

  abbrev held : Tag
  held = value s p o k h.room h.pair

  abbrev within : Open
  within = inside s p o k h.room h.pair

  abbrev after : ℕ
  after = after_listed row before (get_or s p 0 % 32)

  abbrev place : ℕ
  place = column row (get_or s p 0 % 32)

  one : get_or s p 0 % 64 / 32 ≡ 1
  one = let e = h.rule.class in omega arith

  listed : member_at s p o k row above before ≡ listed_at s tag (k - 1) what above after place
  listed =
      member-ruled s p o k row above before (entered s p o k h.room h.pair) (let e = h.rule.class in omega arith) h.rule.order
      ∙ rw h.rule.rule (ruled-listed s p tag (k - 1) row above before what w one h.rule.once)

  module _ (l : what < 13) where
    told : member_at s p o k row above before ≡ plain_at s tag (k - 1) held what above after place
    told = listed ∙ listed_plain s tag (k - 1) what above after place (found s p o k h.room h.pair) l

    universal : is_tag held 0 0 held.number ≡ true
    universal =
        let v : get_or s (p + 2) 0 < 31 = (h.suits.plain l).0 in
        let a : get_or s (p + 2) 0 / 64 ≡ 0 = omega arith in
        let b : get_or s (p + 2) 0 % 64 / 32 ≡ 0 = omega arith in
        tag-form held 0 0 held.number a refl ∙ eq-eqb _ _ b

    opens : within ≡ definite (p + 4 + get_or s (p + 3) 0)
    opens = opened-definite _ _ _ (h.suits.plain l).1

    ends : within.end ≡ p + 4 + get_or s (p + 3) 0
    ends = ap (λ (y : Open). y.end) opens

    last : last_at s within.end within (k - 1) ≡ Ok within.end
    last = last-ended s _ within (k - 1) (standing-ended s _ within refl (ap (λ (y : Open). y.definite) opens))

    -- the leaf's arguments as the code gives them
    same : leaf_at s (p + 2) (get_or s (p + 2) 0 % 32) (p + 4) (within.end - (p + 4)) what above
        ≡ leaf_at s (p + 2) (get_or s (p + 2) 0) (p + 4) (get_or s (p + 3) 0) what above
    same =
        let v : get_or s (p + 2) 0 < 31 = (h.suits.plain l).0 in
        let a : get_or s (p + 2) 0 % 32 ≡ get_or s (p + 2) 0 = omega arith in
        let d : within.end - (p + 4) ≡ get_or s (p + 3) 0 = omega (arith, ends) in
        ap (λ (x : ℕ). leaf_at s (p + 2) x (p + 4) (within.end - (p + 4)) what above) a
        ∙ ap (λ (x : ℕ). leaf_at s (p + 2) (get_or s (p + 2) 0) (p + 4) x what above) d

    told-no : {x y : ℕ} → leaf_at s (p + 2) (get_or s (p + 2) 0) (p + 4) (get_or s (p + 3) 0) what above ≡ Unfit x y
        → member_at s p o k row above before ≡ NoMember (no x y)
    told-no e = told ∙ plain-no s tag (k - 1) held what above after place universal (same ∙ e)

    told-kept : {v : Cell} {path : ℕ} → leaf_at s (p + 2) (get_or s (p + 2) 0) (p + 4) (get_or s (p + 3) 0) what above ≡ Kept v path
        → member_at s p o k row above before ≡ Cell-of after place v path (p + 4 + get_or s (p + 3) 0)
    told-kept {v} {path} e =
        told
        ∙ plain-kept s tag (k - 1) held what above after place universal (same ∙ e) last
        ∙ ap (λ (x : ℕ). Cell-of after place v path x) ends

  gone : 13 ≤ what → member_at s p o k row above before ≡ inner_at tag (k - 1) held what after
  gone l = listed ∙ listed-inner s tag (k - 1) what above after place (found s p o k h.room h.pair) l

  told-contents : what ≡ 13 → member_at s p o k row above before ≡ Contents after within held (k - 1)
  told-contents e =
      gone (omega arith)
      ∙ inner-contents tag (k - 1) held what after (body-tag what (get_or s (p + 2) 0) (p + 4) within e (h.suits.contents e)) e

  told-items : 13 < what → member_at s p o k row above before ≡ Items after (collection_of what) within held (k - 1)
  told-items l =
      gone (omega arith)
      ∙ inner-items tag (k - 1) held what after (list-tag what (get_or s (p + 2) 0) (p + 4) within l (h.suits.list l) (eqb what 14) refl) (λ z. omega arith)

  -- the same, with the numbers as the code has them
  module _ {m len a' : ℕ} (em : m ≡ get_or s p 0 % 32) (el : len ≡ get_or s (p + 3) 0) (ea : m < 16 → after_listed row before m ≡ a') where
    number : m < 16
    number = next_small h.rule w em

    is-after : after ≡ a'
    is-after = ap (after_listed row before) (sym em) ∙ ea number

    module _ (l : what < 13) {kind : ℕ} (ek : kind ≡ get_or s (p + 2) 0) where
      leaf-is : leaf_at s (p + 2) (get_or s (p + 2) 0) (p + 4) (get_or s (p + 3) 0) what above ≡ leaf_at s (p + 2) kind (p + 4) len what above
      leaf-is = rw (ek, el)

      pub quick-no : {x y : ℕ} → leaf_at s (p + 2) kind (p + 4) len what above ≡ Unfit x y → member_at s p o k row above before ≡ NoMember (no x y)
      quick-no e = told-no l (leaf-is ∙ e)

      pub quick-kept : {v : Cell} {path c' : ℕ} → (m < 16 → column row m ≡ c') → leaf_at s (p + 2) kind (p + 4) len what above ≡ Kept v path
          → member_at s p o k row above before ≡ Cell-of a' c' v path (p + 4 + len)
      quick-kept {v} {path} {c'} ec e =
          let c : place ≡ c' = ap (column row) (sym em) ∙ ec number in
          told-kept l (leaf-is ∙ e)
          ∙ ap (λ (y : ℕ). Cell-of y place v path (p + 4 + get_or s (p + 3) 0)) is-after
          ∙ ap (λ (y : ℕ). Cell-of a' y v path (p + 4 + get_or s (p + 3) 0)) c
          ∙ ap (λ (y : ℕ). Cell-of a' c' v path (p + 4 + y)) (sym el)

    module _ {x : Open} (ex : opened_by (p + 4) len o.end ≡ x) where
      is_open : within ≡ x
      is_open = ap (λ (y : ℕ). opened_by (p + 4) y o.end) (sym el) ∙ ex

      pub quick-contents : what ≡ 13 → member_at s p o k row above before ≡ Contents a' x (tag_in (get_or s (p + 2) 0) (p + 4) x) (k - 1)
      quick-contents e =
          told-contents e
          ∙ ap (λ (y : ℕ). Contents y within held (k - 1)) is-after
          ∙ ap (λ (y : Open). Contents a' y (tag_in (get_or s (p + 2) 0) (p + 4) y) (k - 1)) is_open

      pub quick-items : 13 < what → {which : ℕ} → collection_of what ≡ which
          → member_at s p o k row above before ≡ Items a' which x (tag_in (get_or s (p + 2) 0) (p + 4) x) (k - 1)
      quick-items l {which} c =
          told-items l
          ∙ ap (λ (y : ℕ). Items y (collection_of what) within held (k - 1)) is-after
          ∙ ap (λ (y : ℕ). Items a' y within held (k - 1)) c
          ∙ ap (λ (y : Open). Items a' which y (tag_in (get_or s (p + 2) 0) (p + 4) y) (k - 1)) is_open

pub next-is : (b row before : ℕ) {x what : ℕ} → b / 32 ≡ 5 → x ≡ b % 32 → rule_of row x ≡ what → in_order row before x ≡ true
    → again row before x ≡ false → NextRule b row before what
next-is b row before c e r o a =
    record {
      class = c;
      rule = ap (rule_of row) (sym e) ∙ r;
      order = ap (in_order row before) (sym e) ∙ o;
      once = ap (again row before) (sym e) ∙ a;
    }

module _ (what b n : ℕ) where
  pub suits-plain : what < 13 → b < 31 → n < 128 → Suits what b n
  suits-plain l v h = record { plain = λ i. (v, h); contents = λ e. absurd (omega arith); list = λ i. absurd (omega arith) }

  pub suits-body : what ≡ 13 → b ≡ 49 → Suits what b n
  suits-body e v = record { plain = λ i. absurd (omega arith); contents = λ i. v; list = λ i. absurd (omega arith) }

  pub suits-list : 13 ≤ what → (what ≡ 13 → ⊥) → b ≡ pick (eqb what 14) 100 48 → Suits what b n
  suits-list l e v = record { plain = λ i. absurd (omega arith); contents = λ i. absurd (e i); list = λ i. v }

pub kind-is : (which item b : ℕ) {x kind : ℕ} → item ≡ 160 → b / 32 ≡ 3 → x ≡ b % 32 → kind_in which x ≡ kind → KindTold which item b kind
kind-is which item b z c e k = record { zero = z; class = c; names = ap (kind_in which) (sym e) ∙ k }

-- an item
module _ (s : List ℕ) (p : ℕ) (o : Open) (k which kind : ℕ) (h : ItemTold s p o.end k which kind) (w : kind ≡ 0 → ⊥) where
  abbrev itself : Tag
  itself = outer s p o k h.room h.pair

  abbrev element : Tag
  element = value s p o k h.room h.pair

  told-element : item_at s p o k which ≡ Element kind (inside s p o k h.room h.pair) element (k - 1)
  told-element =
      let z = h.names.zero in
      let c = h.names.class in
      let a : get_or s p 0 / 64 ≡ 2 = omega arith in
      let b : get_or s p 0 % 64 / 32 ≡ 1 = omega arith in
      let d : get_or s p 0 % 32 ≡ 0 = omega arith in
      let i : is_tag itself 2 1 0 ≡ true = tag-form itself 2 1 0 a d ∙ eq-eqb _ _ b in
      let e : get_or s (p + 2) 0 / 64 ≡ 1 = omega arith in
      let f : get_or s (p + 2) 0 % 64 / 32 ≡ 1 = omega arith in
      let n : is_tag element 1 1 element.number ≡ true = tag-form element 1 1 element.number e refl ∙ eq-eqb _ _ f in
      item-element s p o k which (entered s p o k h.room h.pair) i refl (found s p o k h.room h.pair)
      (kind-held which element n ∙ h.names.names) w

  pub quick-element : {len : ℕ} {x : Open} → len ≡ get_or s (p + 3) 0 → opened_by (p + 4) len o.end ≡ x
      → item_at s p o k which ≡ Element kind x (tag_in (get_or s (p + 2) 0) (p + 4) x) (k - 1)
  quick-element {len} {x} el ex =
      let e : inside s p o k h.room h.pair ≡ x = ap (λ (y : ℕ). opened_by (p + 4) y o.end) (sym el) ∙ ex in
      told-element ∙ ap (λ (y : Open). Element kind y (tag_in (get_or s (p + 2) 0) (p + 4) y) (k - 1)) e

-- a member that is not listed, passed over at once
pub unlisted-is : (b row before : ℕ) {n what : ℕ} → b / 64 ≡ 2 → n ≡ b % 32 → rule_of row n ≡ what → what ≡ 0 → in_order row before n ≡ true
    → Unlisted b row before
unlisted-is b row before c e r z o = record {
  class = c;
  rule = ap (λ m. rule_of row m) (sym e) ∙ r ∙ z;
  order = ap (λ m. in_order row before m) (sym e) ∙ o;
}

module _ (s : List ℕ) (p b l end k : ℕ) where
  pub past-plain : l < 128 → b % 64 < 32 → p + 2 + l ≤ length s → passed_at s (short_tag b (p + 2) l end) k ≡ Ok (p + 2 + l)
  past-plain h f m =
      ap (λ (t : Tag). passed_at s t k) (short-definite b (p + 2) l end h)
      ∙ passed-skip s (tag_in b (p + 2) (definite (p + 2 + l))) k (λ q. omega arith)
      ∙ skip-next s (tag_in b (p + 2) (definite (p + 2 + l))) m

  pub past-in : {r : ℕ} → l < 128 → 32 ≤ b % 64 → Through s k (definite (p + 2 + l)) (p + 2) (Ok r)
      → passed_at s (short_tag b (p + 2) l end) k ≡ Ok r
  past-in h f i =
      let c : b % 64 / 32 ≡ 1 = omega arith in
      ap (λ (t : Tag). passed_at s t k) (short-definite b (p + 2) l end h) ∙ passed-in s (tag_in b (p + 2) (definite (p + 2 + l))) k c i

  pub past_open : {r : ℕ} → l ≤ 128 → 128 ≤ l → 32 ≤ b % 64 → Through s k (indefinite end) (p + 2) (Ok r)
      → passed_at s (short_tag b (p + 2) l end) k ≡ Ok r
  past_open m n f i =
      let h : l ≡ 128 = omega arith in
      let c : b % 64 / 32 ≡ 1 = omega arith in
      ap (λ (t : Tag). passed_at s t k) (short-open b (p + 2) l end h) ∙ passed-in s (tag_in b (p + 2) (indefinite end)) k c i

pub over-told : (s : List ℕ) (p end k row before : ℕ) {l r : ℕ} → (k ≡ 0 → ⊥) → Short s p end l → Unlisted (get_or s p 0) row before
    → passed_at s (short_tag (get_or s p 0) (p + 2) l end) (k - 1) ≡ Ok r → p < r → OverTold s p end k row before r
unfolding short_tag
over-told s p end k row before {l} z h u e m = record {
  inside = omega (arith, h.inside);
  later = m;
  over = λ o above q.
      member-ruled s p o k row above before (enter-here s p o k (h.stands o q) (deep_room _ k z)) u.class u.order
      ∙ ruled-over s p (short_tag (get_or s p 0) (p + 2) l end) (k - 1) row above before _ u.rule e;
}
