-- What is told at a place of the message is told of a place in it, its end included, and not before it: heads, containers, values, members. What is
-- refused has one of the numbers of refusals, and what is kept is a part of the message.
use Rattle.std.specs.Prelude.{Float, Option, Some, None, Result, Ok, Err}
use Rattle.ber_tags.specs.declared.Length.{Length}
use Prim.Native.Nat.{ℕ, zero, suc, ◌+◌, ◌-◌, ◌*◌, ◌%◌, ◌≤◌, ◌<◌}
use mathlib.Core.Path.{◌≡◌, refl}
use mathlib.Core.List.{List}
use mathlib.Core.Bool.{Bool, true, false}
use native.Mathlib.Omega.{arith}
use borrow.Author.Tests.{leb-true, leb-false, ltb-false}
use lib.ListN.{length, take, drop, get_or}
use lib.Dec.{leb, ltb, eqb}
use lib.IntN.{ℤ}
use types.Run.{OneOf, hit}
use Rattle.ber_integers.specs.Digits.{natural}
use Rattle.ber_integers.specs.Integer.{integer_at}
use Rattle.ber_reals.specs.Real.{real_at}
use Rattle.ber_tags.specs.declared.Head.{Head}
use Rattle.ber_tags.specs.declared.Head.TheVariants.{Tag as HeadTag, Refused as NoHead}
use Rattle.ber_tags.specs.Tag.{stop, cut, long_number, tag_number, sized, length_at, head_of, after_number, head_at}
use Rattle.ber_values.specs.declared.Value.{Value as Any}
use Rattle.ber_values.specs.declared.Value.TheVariants.{Absent, Int, Real, Text, Bool as Truth, Octets}
use Rattle.ber_values.specs.declared.Answer.{Answer}
use Rattle.ber_values.specs.declared.Answer.TheVariants.{Found as Holds, Other, Refused as Bad}
use Rattle.ber_values.specs.Value.{bool_at, on_flag, on_number, on_real, is_listed, kind_at, content_at}
use Rattle.ber_identifiers.specs.Identifier.{Arcs, bad, over, numbers, arcs}
use Rattle.ber_containers.specs.declared.No.{No}
use Rattle.ber_containers.specs.declared.Open.{Open}
use Rattle.ber_containers.specs.declared.Tag.{Tag}
use Rattle.ber_containers.specs.declared.Stands.{Stands}
use Rattle.ber_containers.specs.declared.Stands.TheVariants.{Ended, Here, Refused}
use Rattle.ber_containers.specs.declared.Crossing.{Crossing}
use Rattle.ber_containers.specs.declared.Crossing.TheVariants.{Over as Ends, Past, Into, Refused as Stuck}
use Rattle.ber_containers.specs.Ends.{of_head, zero_at, closing_at, standing_at, deep, counted, enter_at, first_of, first_at, last_of, last_at, is_tag}
use Rattle.ber_containers.specs.Passing.{skipped, past_of, cross_of, cross_at, on_crossing, onwards, through_by, passed_at}
use Rattle.ber_containers.specs.Progress.{Ahead, Onward}
use Rattle.base_choices.proofs.Laws.{pick-by}
use Rattle.ber_containers.proofs.Heads.{stop-inside}
use Rattle.ber_containers.proofs.Quick.{standing-onward}
use Rattle.glow_rows.specs.declared.Cell.{Cell}
use Rattle.glow_grammar.specs.declared.Leaf.{Leaf}
use Rattle.glow_grammar.specs.declared.Leaf.TheVariants.{Kept, Refused as Unfit}
use Rattle.glow_grammar.specs.Grammar.{any, step, path, name, body, rule_of, inner_class, inner_number}
use Rattle.glow_grammar.specs.Leaf.{expects, in_range, is_name, is_path, number_leaf, text_leaf, value_leaf, judged, path_leaf, list_leaf, numbers_at, leaf_at}
use Rattle.glow_leaves.proofs.Bounds.{is_part, kept-part}
use Rattle.glow_steps.specs.declared.Member.{Member}
use Rattle.glow_steps.specs.declared.Member.TheVariants.{Done, Over, Leaf as Cell-of, Contents, Items, Refused as NoMember}
use Rattle.glow_steps.specs.declared.Item.{Item}
use Rattle.glow_steps.specs.declared.Item.TheVariants.{Done as NoMore, Element, Refused as NoItem}
use Rattle.glow_steps.specs.Members.{due, in_order, again, after_listed, after_other, column, over_of, kept_of, leaf_of, plain_at, inner_at, value_of, listed_at, ruled_at}
use Rattle.glow_steps.specs.Members.{member_of, member_at, kind_of, element_of, item_of, item_at}
use Rattle.glow_reader.specs.Message.{refusals}

-- document 01's rows of refusals
pub is-30 : OneOf refusals 30
is-30 = hit refusals 30 tt

is-31 : OneOf refusals 31
is-31 = hit refusals 31 tt

is_32 : OneOf refusals 32
is_32 = hit refusals 32 tt

pub is-33 : OneOf refusals 33
is-33 = hit refusals 33 tt

is-34 : OneOf refusals 34
is-34 = hit refusals 34 tt

is-35 : OneOf refusals 35
is-35 = hit refusals 35 tt

is-36 : OneOf refusals 36
is-36 = hit refusals 36 tt

is-37 : OneOf refusals 37
is-37 = hit refusals 37 tt

module _ (s : List ℕ) where
  -- heads
  abbrev NumberIn : Result (ℕ × ℕ) ℕ → Type 0
  NumberIn (Ok (n, p)) = p ≤ length s
  NumberIn (Err place) = place ≤ length s

  abbrev SizedIn : Result (Length × ℕ) ℕ → Type 0
  SizedIn (Ok (l, next)) = next ≤ length s
  SizedIn (Err place) = place ≤ length s

  abbrev HeadIn : Head → Type 0
  HeadIn (HeadTag c b n l next) = next ≤ length s
  HeadIn (NoHead place) = place ≤ length s

  module _ (at bound : ℕ) (h : at ≤ length s) where
    cut_in : cut s at bound ≤ length s
    unfolding cut
    cut_in = pick-by (λ x. x ≤ length s) (leb bound (length s)) (λ e. h) (λ e. omega arith)

    before-stop : (p : ℕ) → leb (stop s bound) p ≡ false → p + 1 ≤ length s
    before-stop p e = omega (arith, leb-false (stop s bound) p e, stop-inside s bound)

    long-in : (k acc p : ℕ) → NumberIn (long_number s at bound k acc p)
    unfolding long_number
    long-in zero acc p = h
    long-in (suc k) acc p =
        pick-by NumberIn (leb (stop s bound) p) (λ e. cut_in)
        (λ e. pick-by NumberIn (ltb (get_or s p 0) 128) (λ d. before-stop p e) (λ d. long-in k (acc * 128 + get_or s p 0 % 128) (p + 1)))

    number_in : NumberIn (tag_number s at bound)
    unfolding tag_number
    number_in =
        pick-by NumberIn (leb (stop s bound) at) (λ e. cut_in)
        (λ e. pick-by NumberIn (ltb (get_or s at 0 % 32) 31) (λ d. before-stop at e)
        (λ d. pick-by NumberIn (leb (stop s bound) (at + 1)) (λ e. cut_in)
        (λ e. pick-by NumberIn (eqb (get_or s (at + 1) 0) 128) (λ d. h) (λ d. long-in 4 0 (at + 1)))))

    sized-in : (len next : ℕ) → next ≤ length s → SizedIn (sized at bound len next)
    unfolding sized
    sized-in len next k = pick-by SizedIn (ltb bound (next + len)) (λ e. h) (λ e. k)

    length-in : (c : Bool) (p : ℕ) → SizedIn (length_at s at bound c p)
    unfolding length_at
    length-in c p =
        pick-by SizedIn (leb (stop s bound) p) (λ e. cut_in)
        (λ e. pick-by SizedIn (ltb (get_or s p 0) 128) (λ d. sized-in (get_or s p 0) (p + 1) (before-stop p e))
        (λ d. pick-by SizedIn (eqb (get_or s p 0) 128) (λ d. pick-by SizedIn c (λ d. before-stop p e) (λ d. h))
        (λ d. pick-by SizedIn (ltb 132 (get_or s p 0)) (λ d. h)
        (λ d. pick-by SizedIn (ltb (stop s bound) (p + 1 + (get_or s p 0 - 128))) (λ d. cut_in)
        (λ d. sized-in (natural (take (get_or s p 0 - 128) (drop (p + 1) s))) (p + 1 + (get_or s p 0 - 128))
        (omega (arith, ltb-false (stop s bound) (p + 1 + (get_or s p 0 - 128)) d, stop-inside s bound)))))))

    head_in : HeadIn (head_at s at bound)
    unfolding head_at
    head_in = by_number (tag_number s at bound) number_in
      where
        by_length : (b n : ℕ) (z : Result (Length × ℕ) ℕ) → SizedIn z → HeadIn (head_of b n z)
        by_length b n (Ok (l, next)) w = w
        by_length b n (Err place) w = w

        by_number : (r : Result (ℕ × ℕ) ℕ) → NumberIn r → HeadIn (after_number s at bound r)
        by_number (Ok (n, p)) w = by_length (get_or s at 0) n (length_at s at bound (leb 32 (get_or s at 0 % 64)) p) (length-in (leb 32 (get_or s at 0 % 64)) p)
        by_number (Err place) w = w

  -- a refusal, and a tag after the place p
  abbrev pub NoIn : No → Type 0
  NoIn e = (e.1 ≤ length s) × OneOf refusals e.0

  abbrev pub TagIn : ℕ → Tag → Type 0
  TagIn p t = Ahead s p t × (t.start ≤ length s)

  -- containers, at the place p
  abbrev pub StandsIn : ℕ → Stands → Type 0
  StandsIn p (Ended n) = (p ≤ n) × (n ≤ length s)
  StandsIn p (Here t) = TagIn p t
  StandsIn p (Refused e) = NoIn e

  abbrev pub FoundIn : ℕ → Result Tag No → Type 0
  FoundIn p (Ok t) = TagIn p t
  FoundIn p (Err e) = NoIn e

  abbrev pub OntoIn : ℕ → Result ℕ No → Type 0
  OntoIn p (Ok n) = (p ≤ n) × (n ≤ length s)
  OntoIn p (Err e) = NoIn e

  abbrev CrossIn : ℕ → Crossing → Type 0
  CrossIn p (Ends n) = (p ≤ n) × (n ≤ length s)
  CrossIn p (Past n) = (p < n) × (n ≤ length s)
  CrossIn p (Into t) = TagIn p t
  CrossIn p (Stuck e) = NoIn e

  -- after an earlier place too
  pub onto-earlier : {p q : ℕ} → p ≤ q → (x : Result ℕ No) → OntoIn q x → OntoIn p x
  onto-earlier h (Ok n) w = (omega (arith, h, w.0), w.1)
  onto-earlier h (Err e) w = w

  -- what stands at p: its place within, and that it is ahead
  abbrev Standing : Stands → Type 0
  Standing (Ended n) = n ≤ length s
  Standing (Here t) = t.start ≤ length s
  Standing (Refused e) = NoIn e

  both-in : (p : ℕ) (x : Stands) → Onward s p x → Standing x → StandsIn p x
  both-in p (Ended n) a w = (a, w)
  both-in p (Here t) a w = (a, w)
  both-in p (Refused e) a w = w

  of-head : (bound : ℕ) (x : Head) → HeadIn x → Standing (of_head bound x)
  of-head bound (HeadTag c b n l next) w = w
  of-head bound (NoHead place) w = (w, is-30)

  skipped-in : {p : ℕ} (t : Tag) → Ahead s p t → OntoIn t.start (skipped s t)
  unfolding skipped
  skipped-in t a =
      pick-by (OntoIn t.start) (leb t.inner.end (length s)) (λ e. (a.opens, leb-true t.inner.end (length s) e)) (λ e. (omega arith, is-30))

  past-of : {p q : ℕ} → p < q → (x : Result ℕ No) → OntoIn q x → CrossIn p (past_of x)
  past-of h (Ok n) w = (omega (arith, h, w.0), w.1)
  past-of h (Err e) w = w

  module _ (p : ℕ) (h : p ≤ length s) where
    closing-in : (o : Open) → Standing (closing_at s p o)
    unfolding closing_at
    closing-in o =
        pick-by Standing (eqb o.definite 1) (λ e. (h, is-30))
        (λ e. pick-by Standing (eqb (p + 1) o.end) (λ e. (h, is-30))
        (λ e. pick-by Standing (leb (length s) (p + 1)) (λ e. (omega arith, is-30))
        (λ e. let k : p + 2 ≤ length s = omega (arith, leb-false (length s) (p + 1) e) in
        pick-by Standing (eqb (get_or s (p + 1) 0) 0) (λ e. k) (λ e. (h, is-30)))))

    stands-in : (o : Open) → Standing (standing_at s p o)
    unfolding standing_at
    stands-in o =
        pick-by Standing (eqb p o.end) (λ e. pick-by Standing (eqb o.definite 1) (λ e. h) (λ e. (h, is-30)))
        (λ e. pick-by Standing (zero_at s p) (λ e. closing-in o) (λ e. of-head o.end (head_at s p o.end) (head_in p o.end h)))

    standing-in : (o : Open) → StandsIn p (standing_at s p o)
    standing-in o = both-in p (standing_at s p o) (standing-onward s p o) (stands-in o)

    counted-in : (k : ℕ) (x : Stands) → StandsIn p x → StandsIn p (counted p k x)
    counted-in k (Ended n) w = w
    counted-in k (Here t) w = pick-by (StandsIn p) (deep t.constructed k) (λ e. (h, is_32)) (λ e. w)
    counted-in k (Refused e) w = w

    first-of : (c : Open) (k : ℕ) (x : Stands) → StandsIn p x → FoundIn p (first_of p c k x)
    first-of c k (Ended n) w = (h, is-33)
    first-of c k (Here t) w =
        pick-by (FoundIn p) (eqb t.inner.definite c.definite)
        (λ e. pick-by (FoundIn p) (deep t.constructed k) (λ e. (h, is_32)) (λ e. w))
        (λ e. (h, is-31))
    first-of c k (Refused e) w = w

    last-of : (k : ℕ) (x : Stands) → StandsIn p x → OntoIn p (last_of p k x)
    last-of k (Ended n) w = w
    last-of k (Here t) w = (h, pick-by (OneOf refusals) (deep t.constructed k) (λ e. is_32) (λ e. is-33))
    last-of k (Refused e) w = w

    cross-of : (k : ℕ) (x : Stands) → StandsIn p x → CrossIn p (cross_of s p k x)
    cross-of k (Ended n) w = w
    cross-of k (Here t) w =
        pick-by (CrossIn p) (eqb t.constructed 1) (λ e. pick-by (CrossIn p) (eqb k 0) (λ e. (h, is_32)) (λ e. w))
        (λ e. past-of w.0.later (skipped s t) (skipped-in t w.0))
    cross-of k (Refused e) w = w

    pub enter-in : (o : Open) (k : ℕ) → StandsIn p (enter_at s p o k)
    unfolding enter_at
    enter-in o k = counted-in k (standing_at s p o) (standing-in o)

    pub first-in : (c : Open) (k : ℕ) → FoundIn p (first_at s p c k)
    unfolding first_at
    first-in c k = first-of c k (standing_at s p c) (standing-in c)

    pub last-in : (c : Open) (k : ℕ) → OntoIn p (last_at s p c k)
    unfolding last_at
    last-in c k = last-of k (standing_at s p c) (standing-in c)

    cross-in : (o : Open) (k : ℕ) → CrossIn p (cross_at s p o k)
    unfolding cross_at
    cross-in o k = cross-of k (standing_at s p o) (standing-in o)

  module _ (p : ℕ) where
    on-crossing : (x : Crossing) (past : ℕ → Result ℕ No) (into : Tag → Result ℕ No) → CrossIn p x
        → ((n : ℕ) → p < n → n ≤ length s → OntoIn p (past n))
        → ((t : Tag) → TagIn p t → OntoIn p (into t)) → OntoIn p (on_crossing x past into)
    on-crossing (Ends n) past into w f g = w
    on-crossing (Past n) past into w f g = f n w.0 w.1
    on-crossing (Into t) past into w f g = g t w
    on-crossing (Stuck e) past into w f g = w

    on-wards : {q : ℕ} → p < q → (x : Result ℕ No) (go : ℕ → Result ℕ No) → OntoIn q x → ((n : ℕ) → p < n → n ≤ length s → OntoIn p (go n)) → OntoIn p (onwards x go)
    on-wards h (Ok n) go w f = f n (omega (arith, h, w.0)) w.1
    on-wards h (Err e) go w f = w

  -- Fuel that is more than what is left of the message never runs out: each turn goes on.
  through-in : (f k : ℕ) (o : Open) (p : ℕ) → p ≤ length s → length s - p < f → OntoIn p (through_by f s k o p)
  unfolding through_by
  through-in zero k o p h l = absurd (omega arith)
  through-in (suc f) k o p h l =
      on-crossing p (cross_at s p o k)
      (λ n. through_by f s k o n)
      (λ t. onwards (through_by f s (k - 1) t.inner t.start) (λ n. through_by f s k o n))
      (cross-in p h o k)
      (λ n a w. onto-earlier (omega arith) (through_by f s k o n) (through-in f k o n w (omega (arith, a, w, l))))
      (λ t w. on-wards p w.0.later (through_by f s (k - 1) t.inner t.start) (λ n. through_by f s k o n)
      (through-in f (k - 1) t.inner t.start w.1 (omega (arith, w.0.later, w.1, l)))
      (λ n a v. onto-earlier (omega arith) (through_by f s k o n) (through-in f k o n v (omega (arith, a, v, l)))))

  passed-in : {p : ℕ} (t : Tag) (k : ℕ) → TagIn p t → OntoIn t.start (passed_at s t k)
  unfolding passed_at
  passed-in t k w =
      pick-by (OntoIn t.start) (eqb t.constructed 1) (λ e. through-in (suc (length s)) k t.inner t.start w.1 (omega arith))
      (λ e. skipped-in t w.0)

  -- a value: its octets lie in the message if it is kept
  module _ (at start len : ℕ) (h : at ≤ length s) where
    abbrev LeafIn : Leaf → Type 0
    LeafIn (Kept v n) = start + len ≤ length s
    LeafIn (Unfit number place) = (place ≤ length s) × OneOf refusals number

    abbrev AnswerIn : Answer → Type 0
    AnswerIn (Holds v next) = start + len ≤ length s
    AnswerIn Other = Unit {0}
    AnswerIn (Bad number place) = (place ≤ length s) × OneOf refusals number

    module _ (w : start + len ≤ length s) where
      flag-in : (next : ℕ) (f : Option Bool) → AnswerIn (on_flag at next f)
      flag-in next (Some b) = w
      flag-in next None = (h, is-30)

      integer-in : (next : ℕ) (n : Option ℤ) → AnswerIn (on_number at next n)
      integer-in next (Some z) = w
      integer-in next None = (h, is-30)

      double-in : (next : ℕ) (x : Option Float) → AnswerIn (on_real at next x)
      double-in next (Some x) = w
      double-in next None = (h, is-35)

      kind-in : (kind : ℕ) → AnswerIn (kind_at s at kind start len)
      unfolding kind_at
      kind-in kind =
          pick-by AnswerIn (eqb kind 1) (λ e. flag-in (start + len) (bool_at s start len))
          (λ e. pick-by AnswerIn (eqb kind 2) (λ e. integer-in (start + len) (integer_at s start len))
          (λ e. pick-by AnswerIn (eqb kind 4) (λ e. w)
          (λ e. pick-by AnswerIn (eqb kind 9) (λ e. double-in (start + len) (real_at s start len)) (λ e. w))))

      number-leaf-in : (what above : ℕ) (z : ℤ) → LeafIn (number_leaf at what above z)
      unfolding number_leaf
      number-leaf-in what above z =
          pick-by LeafIn (eqb what any) (λ e. w)
          (λ e. pick-by LeafIn (in_range what z)
          (λ e. pick-by LeafIn (eqb what step) (λ e. pick-by LeafIn (leb (above + 1) 16) (λ e. w) (λ e. (h, is-37))) (λ e. w))
          (λ e. (h, is-34)))

      text-leaf-in : (what above a b : ℕ) → LeafIn (text_leaf s at what above a b)
      unfolding text_leaf
      text-leaf-in what above a b =
          pick-by LeafIn (eqb what name) (λ e. pick-by LeafIn (is_name (take b (drop a s))) (λ e. w) (λ e. (h, is-36))) (λ e. w)

      value-leaf-in : (what above : ℕ) (v : Any) → LeafIn (value_leaf s at what above v)
      value-leaf-in what above Absent = (h, is-33)
      value-leaf-in what above (Int z) = number-leaf-in what above z
      value-leaf-in what above (Real x) = w
      value-leaf-in what above (Text a b) = text-leaf-in what above a b
      value-leaf-in what above (Truth b) = w
      value-leaf-in what above (Octets a b) = w

      path-leaf-in : (a : Arcs) → LeafIn (path_leaf at start len a)
      path-leaf-in bad = (h, is-30)
      path-leaf-in over = (h, is-37)
      path-leaf-in (numbers ns) = pick-by LeafIn (is_path ns) (λ e. w) (λ e. (h, is-37))

      list-leaf-in : (above : ℕ) (a : Arcs) → LeafIn (list_leaf at start len above a)
      list-leaf-in above bad = (h, is-30)
      list-leaf-in above over = (h, is-34)
      list-leaf-in above (numbers ns) = w

    content-in : (kind : ℕ) → AnswerIn (content_at s at kind start len)
    unfolding content_at
    content-in kind =
        pick-by AnswerIn (is_listed kind)
        (λ e. pick-by AnswerIn (leb (start + len) (length s)) (λ e. kind-in (leb-true (start + len) (length s) e) kind) (λ e. (omega arith, is-30)))
        (λ e. tt)

    judged-in : (what above : ℕ) (a : Answer) → AnswerIn a → LeafIn (judged s at what above a)
    judged-in what above (Holds v next) w = value-leaf-in w what above v
    judged-in what above Other w = (h, is-33)
    judged-in what above (Bad number place) w = w

    numbers-in : (what above : ℕ) → LeafIn (numbers_at s at start len what above)
    unfolding numbers_at
    numbers-in what above =
        pick-by LeafIn (leb (start + len) (length s))
        (λ e. let w : start + len ≤ length s = leb-true (start + len) (length s) e in
        pick-by LeafIn (eqb what path) (λ e. path-leaf-in w (arcs s start len)) (λ e. list-leaf-in w above (arcs s start len)))
        (λ e. (omega arith, is-30))

    leaf-in : (number what above : ℕ) → LeafIn (leaf_at s at number start len what above)
    unfolding leaf_at
    leaf-in number what above =
        pick-by LeafIn (expects what number)
        (λ e. pick-by LeafIn (eqb number 13) (λ e. numbers-in what above)
        (λ e. judged-in what above (content_at s at number start len) (content-in number)))
        (λ e. (h, is-33))

  -- A cell of kind 4, 12 or 13, a text, octets, a path or sources, is a part of the message.
  abbrev pub CellIn : Cell → Type 0
  CellIn v = is_part v.kind ≡ true → v.first + v.second ≤ length s

  kept_in : (at number start len what above : ℕ) {v : Cell} {n : ℕ} → leaf_at s at number start len what above ≡ Kept v n → CellIn v
  kept_in at number start len what above e q =
      let r = kept-part s start len at number what above e q in omega (arith, r.first, r.second, r.within)

  -- members and items, at the place p
  abbrev pub MemberIn : ℕ → Member → Type 0
  MemberIn p (Done next) = (p ≤ next) × (next ≤ length s)
  MemberIn p (Over before next) = (p < next) × (next ≤ length s)
  MemberIn p (Cell-of before c v above next) = (p < next) × ((next ≤ length s) × CellIn v)
  MemberIn p (Contents before outer g k) = (p < g.start) × (g.start ≤ length s)
  MemberIn p (Items before which outer g k) = (p < g.start) × (g.start ≤ length s)
  MemberIn p (NoMember e) = NoIn e

  abbrev pub ItemIn : ℕ → Item → Type 0
  ItemIn p (NoMore next) = (p ≤ next) × (next ≤ length s)
  ItemIn p (Element kind outer g k) = (p < g.start) × (g.start ≤ length s)
  ItemIn p (NoItem e) = NoIn e

  module _ (p : ℕ) where
    over-of : {q : ℕ} → p < q → (after : ℕ) (x : Result ℕ No) → OntoIn q x → MemberIn p (over_of after x)
    over-of h after (Ok n) w = (omega (arith, h, w.0), w.1)
    over-of h after (Err e) w = w

    kept_of_lem : {q : ℕ} → p < q → (after c : ℕ) (v : Cell) (above : ℕ) (x : Result ℕ No) → CellIn v → OntoIn q x → MemberIn p (kept_of after c v above x)
    kept_of_lem h after c v above (Ok n) i w = (omega (arith, h, w.0), (w.1, i))
    kept_of_lem h after c v above (Err e) i w = w

    module _ (t : Tag) (h : TagIn p t) (k : ℕ) where
      plain_in : (g : Tag) → TagIn t.start g → (what above after c : ℕ) → MemberIn p (plain_at s t k g what above after c)
      unfolding plain_at
      plain_in g a what above after c =
          pick-by (MemberIn p) (is_tag g 0 0 g.number)
          (λ e. by-leaf (leaf_at s t.start g.number g.start (g.inner.end - g.start) what above) refl
          (leaf-in t.start g.start (g.inner.end - g.start) h.1 g.number what above))
          (λ e. (h.1, is-33))
        where
          by-leaf : (x : Leaf) → leaf_at s t.start g.number g.start (g.inner.end - g.start) what above ≡ x
              → LeafIn t.start g.start (g.inner.end - g.start) h.1 x → MemberIn p (leaf_of s t k g after c x)
          by-leaf (Kept v n) e w =
              let q : g.inner.end ≤ length s = omega (arith, a.0.opens, w) in
              kept_of_lem (omega (arith, h.0.later, a.0.later, a.0.opens)) after c v n (last_at s g.inner.end t.inner k)
              (kept_in t.start g.number g.start (g.inner.end - g.start) what above e) (last-in g.inner.end q t.inner k)
          by-leaf (Unfit number place) e w = w

      inner-in : (g : Tag) (what after : ℕ) → TagIn t.start g → MemberIn p (inner_at t k g what after)
      unfolding inner_at
      inner-in g what after w =
          let a : p < g.start = omega (arith, h.0.later, w.0.later) in
          pick-by (MemberIn p) (is_tag g (inner_class what) 1 (inner_number what))
          (λ e. pick-by (MemberIn p) (eqb what body) (λ e. (a, w.1)) (λ e. (a, w.1)))
          (λ e. (h.1, is-33))

      value-of : (what above after c : ℕ) (x : Result Tag No) → FoundIn t.start x → MemberIn p (value_of s t k what above after c x)
      value-of what above after c (Ok g) w = pick-by (MemberIn p) (leb body what) (λ e. inner-in g what after w) (λ e. plain_in g w what above after c)
      value-of what above after c (Err e) w = w

      listed_in : (what above after c : ℕ) → MemberIn p (listed_at s t k what above after c)
      unfolding listed_at
      listed_in what above after c = value-of what above after c (first_at s t.start t.inner k) (first-in t.start h.1 t.inner k)

      ruled-in : p ≤ length s → (row above before what : ℕ) → MemberIn p (ruled_at s p t k row above before what)
      unfolding ruled_at
      ruled-in w row above before what =
          pick-by (MemberIn p) (eqb what 0) (λ e. over-of h.0.later (after_other row before t.number) (passed_at s t k) (passed-in t k h))
          (λ e. pick-by (MemberIn p) (eqb t.constructed 1)
          (λ e. pick-by (MemberIn p) (again row before t.number) (λ e. (w, is-33))
          (λ e. listed_in what above (after_listed row before t.number) (column row t.number)))
          (λ e. (w, is-33)))

      element-of : (which : ℕ) (x : Result Tag No) → FoundIn t.start x → ItemIn p (element_of which t k x)
      element-of which (Ok g) w =
          pick-by (ItemIn p) (eqb (kind_of which g) 0) (λ e. (h.1, is-33)) (λ e. (omega (arith, h.0.later, w.0.later), w.1))
      element-of which (Err e) w = w

    module _ (h : p ≤ length s) (k : ℕ) where
      member_of_lem : (row above before : ℕ) (x : Stands) → StandsIn p x → MemberIn p (member_of s p k row above before x)
      member_of_lem row above before (Ended n) w = pick-by (MemberIn p) (due row before 268435456) (λ e. (h, is-33)) (λ e. w)
      member_of_lem row above before (Here t) w =
          pick-by (MemberIn p) (eqb t.class 2)
          (λ e. pick-by (MemberIn p) (in_order row before t.number) (λ e. ruled-in t w (k - 1) h row above before (rule_of row t.number))
          (λ e. (h, is-33)))
          (λ e. (h, is-33))
      member_of_lem row above before (Refused e) w = w

      item-of : (which : ℕ) (x : Stands) → StandsIn p x → ItemIn p (item_of s p k which x)
      item-of which (Ended n) w = w
      item-of which (Here t) w =
          pick-by (ItemIn p) (is_tag t 2 1 0)
          (λ e. element-of t w (k - 1) which (first_at s t.start t.inner (k - 1)) (first-in t.start w.1 t.inner (k - 1)))
          (λ e. (h, is-33))
      item-of which (Refused e) w = w

      pub member-in : (o : Open) (row above before : ℕ) → MemberIn p (member_at s p o k row above before)
      unfolding member_at
      member-in o row above before = member_of_lem row above before (enter_at s p o k) (enter-in p h o k)

      pub item_in : (o : Open) (which : ℕ) → ItemIn p (item_at s p o k which)
      unfolding item_at
      item_in o which = item-of which (enter_at s p o k) (enter-in p h o k)
