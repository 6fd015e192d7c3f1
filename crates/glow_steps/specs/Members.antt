-- One turn of the walk: what stands at a place among the members of a row of the grammar, or in a collection (document 01, "Glow").
-- No turn recurs; what is to be gone into is told.
use Rattle.ber_containers.specs.declared.No.{No}
use Rattle.std.specs.Prelude.{ℕ, ◌+◌, ◌-◌, ◌/◌, ◌%◌, ◌^◌, List, Bool, true, false, not, leb, ltb, eqb, Result, Ok, Err}
use Rattle.std.specs.Int.Bits.{bit_or}
use Rattle.base_choices.specs.Choices.{pick, unless}
use Rattle.ber_containers.specs.declared.Open.{Open}
use Rattle.ber_containers.specs.declared.Tag.{Tag}
use Rattle.ber_containers.specs.declared.Stands.{Stands}
use Rattle.ber_containers.specs.declared.Stands.TheVariants.{Ended, Here, Refused}
use Rattle.ber_containers.specs.Ends.{no, enter_at, first_at, last_at, is_tag}
use Rattle.ber_containers.specs.Passing.{passed_at}
use Rattle.glow_rows.specs.declared.Cell.{Cell}
use Rattle.glow_grammar.specs.declared.Leaf.{Leaf}
use Rattle.glow_grammar.specs.declared.Leaf.TheVariants.{Kept, Refused as Unfit}
use Rattle.glow_grammar.specs.Grammar.{universal, application, context, item_tag, past_all}
use Rattle.glow_grammar.specs.Grammar as grammar
use Rattle.glow_grammar.specs.Grammar.{body, rule_of, required, is_set, inner_class, inner_number, collection_of, kind_in}
use Rattle.glow_grammar.specs.Leaf.{leaf_at}
use Rattle.glow_steps.specs.declared.Member.{Member}
use Rattle.glow_steps.specs.declared.Member.TheVariants.{Done, Over, Leaf as Cell-of, Contents, Items, Refused as NoMember}
use Rattle.glow_steps.specs.declared.Item.{Item}
use Rattle.glow_steps.specs.declared.Item.TheVariants.{Done as NoMore, Element, Refused as NoItem}

-- What came before a member, as a number `before`: of a sequence the least number that may come next, of a set a bit for each listed member
-- that came.
unfoldable pub marked : ℕ → ℕ → Bool
marked before n = eqb (before / 2 ^ n % 2) 1

unfoldable pub mark : ℕ → ℕ → ℕ
mark before n = bit_or before (2 ^ n)

-- "A missing member is found at the first higher tag or its container's end": a required member from `before` on, below n
unfoldable pub due : ℕ → ℕ → ℕ → Bool
due row before n = pick (ltb before (required row)) (ltb before n) false

-- "Sequence members come in strictly ascending tag order, set members in any order, .."
unfoldable pub in_order : ℕ → ℕ → ℕ → Bool
in_order row before n = pick (is_set row) true (pick (leb before n) (not (due row before n)) false)

-- ".. no listed one twice"
unfoldable pub again : ℕ → ℕ → ℕ → Bool
again row before n = pick (is_set row) (marked before n) false

-- after the member n, listed or passed over
unfoldable pub after_listed : ℕ → ℕ → ℕ → ℕ
after_listed row before n = pick (is_set row) (mark before n) (n + 1)

unfoldable pub after_other : ℕ → ℕ → ℕ → ℕ
after_other row before n = pick (is_set row) before (n + 1)

-- the cell that keeps the member n: contents stand behind the number or path
unfoldable pub column : ℕ → ℕ → ℕ
column row n = pick (is_set row) (n + 1) n

-- The tag t of a member, with k containers allowed inside it; `above` counts the numbers of the path so far.

abbrev pub over_of : ℕ → Result ℕ No → Member
over_of after (Ok next) = Over after next
over_of after (Err e) = NoMember e

abbrev pub kept_of : ℕ → ℕ → Cell → ℕ → Result ℕ No → Member
kept_of after c v above (Ok next) = Cell-of after c v above next
kept_of after c v above (Err e) = NoMember e

-- a value kept, and nothing after it in its outer tag
abbrev pub leaf_of : List ℕ → Tag → ℕ → Tag → ℕ → ℕ → Leaf → Member
leaf_of s t k g after c (Kept v above) = kept_of after c v above (last_at s g.inner.end t.inner k)
leaf_of s t k g after c (Unfit number place) = NoMember (no number place)

-- the value g of a member that holds one value: a universal primitive tag
unfoldable pub plain_at : List ℕ → Tag → ℕ → Tag → ℕ → ℕ → ℕ → ℕ → Member
plain_at s t k g what above after c =
    pick (is_tag g universal 0 g.number)
    (leaf_of s t k g after c (leaf_at s t.start g.number g.start (g.inner.end - g.start) what above))
    (NoMember (no 33 t.start))

-- the value g of a member that holds contents or a collection
unfoldable pub inner_at : Tag → ℕ → Tag → ℕ → ℕ → Member
inner_at t k g what after =
    pick (is_tag g (inner_class what) 1 (inner_number what))
    (pick (eqb what body) (Contents after t.inner g k) (Items after (collection_of what) t.inner g k))
    (NoMember (no 33 t.start))

abbrev pub value_of : List ℕ → Tag → ℕ → ℕ → ℕ → ℕ → ℕ → Result Tag No → Member
value_of s t k what above after c (Ok g) = pick (leb body what) (inner_at t k g what after) (plain_at s t k g what above after c)
value_of s t k what above after c (Err e) = NoMember e

-- a listed member
unfoldable pub listed_at : List ℕ → Tag → ℕ → ℕ → ℕ → ℕ → ℕ → Member
listed_at s t k what above after c = value_of s t k what above after c (first_at s t.start t.inner k)

-- "Among members, a context tag we don't list is passed over"; a listed number without a value inside is a tag unexpected
unfoldable pub ruled_at : List ℕ → ℕ → Tag → ℕ → ℕ → ℕ → ℕ → ℕ → Member
ruled_at s p t k row above before what =
    pick (eqb what grammar.no) (over_of (after_other row before t.number) (passed_at s t k))
    (unless (eqb t.constructed 1) (NoMember (no 33 p))
    (pick (again row before t.number) (NoMember (no 33 p))
    (listed_at s t k what above (after_listed row before t.number) (column row t.number))))

-- at the container's end every required member is due
abbrev pub member_of : List ℕ → ℕ → ℕ → ℕ → ℕ → ℕ → Stands → Member
member_of s p k row above before (Ended next) = pick (due row before past_all) (NoMember (no 33 p)) (Done next)
member_of s p k row above before (Here t) =
    unless (eqb t.class context) (NoMember (no 33 p))
    (unless (in_order row before t.number) (NoMember (no 33 p))
    (ruled_at s p t (k - 1) row above before (rule_of row t.number)))
member_of s p k row above before (Refused e) = NoMember e

-- what stands at p among the members of a row, in the open container o with k containers still allowed
unfoldable pub member_at : List ℕ → ℕ → Open → ℕ → ℕ → ℕ → ℕ → Member
member_at s p o k row above before = member_of s p k row above before (enter_at s p o k)

-- the kind of the tag g in a collection: 0 if it may not stand there
unfoldable pub kind_of : ℕ → Tag → ℕ
kind_of which g = pick (is_tag g application 1 g.number) (kind_in which g.number) 0

abbrev pub element_of : ℕ → Tag → ℕ → Result Tag No → Item
element_of which t k (Ok g) =
    pick (eqb (kind_of which g) 0) (NoItem (no 33 t.start)) (Element (kind_of which g) t.inner g k)
element_of which t k (Err e) = NoItem e

-- "Item of any collection: 0, no other."
abbrev pub item_of : List ℕ → ℕ → ℕ → ℕ → Stands → Item
item_of s p k which (Ended next) = NoMore next
item_of s p k which (Here t) =
    pick (is_tag t context 1 item_tag) (element_of which t (k - 1) (first_at s t.start t.inner (k - 1))) (NoItem (no 33 p))
item_of s p k which (Refused e) = NoItem e

-- what stands at p in a collection
unfoldable pub item_at : List ℕ → ℕ → Open → ℕ → ℕ → Item
item_at s p o k which = item_of s p k which (enter_at s p o k)
