-- For quick answers that may give up: a member or an item told at once, where tags and lengths take one octet each and the value fills its outer tag.
use Rattle.std.specs.Prelude.{ℕ, ◌+◌, ◌/◌, ◌%◌, ◌≤◌, ◌<◌, ◌≡◌, true, false, List, length, get_or, ltb, eqb, Ok}
use Rattle.base_choices.specs.Choices.{pick}
use Rattle.ber_containers.specs.declared.Open.{Open}
use Rattle.ber_containers.specs.declared.Tag.{Tag}
use Rattle.ber_containers.specs.declared.Stands.TheVariants.{Here}
use Rattle.ber_containers.specs.Ends.{standing_at}
use Rattle.ber_containers.specs.Passing.{passed_at}
use Rattle.ber_containers.specs.Short.{not_shut, short_tag}
use Rattle.glow_grammar.specs.Grammar.{body, kids, context, application, universal, item_tag, set, sequence, element_collection, octet_of, rule_of, kind_in}
use Rattle.glow_steps.specs.declared.Member.TheVariants.{Over}
use Rattle.glow_steps.specs.Members.{in_order, again, after_other, member_at}

-- the open container of a tag of the length n (128: indefinite), in a container that ends at `end`
unfoldable pub opened_by : ℕ → ℕ → ℕ → Open
opened_by start n end = pick (ltb n 128) (record { definite = 1; end = start + n }) (record { definite = 0; end = end })

-- the tag of the first octet b, open so
abbrev pub tag_in : ℕ → ℕ → Open → Tag
tag_in b start o = record { class = b / 64; constructed = b % 64 / 32; number = b % 32; start = start; inner = o }

-- two tags from p on, one filled by the other, which has the length n: both have the same end
pub record Pair (s : List ℕ) (p end n : ℕ) : Type 0 where
  pub inside : p + 3 < length s
  pub fits : n < 128 → p + 4 + n ≤ end
  pub outer : (o : Open) → o.end ≡ end → standing_at s p o ≡ Here (tag_in (get_or s p 0) (p + 2) (opened_by (p + 4) n end))
  pub inner : standing_at s (p + 2) (opened_by (p + 4) n end) ≡ Here (tag_in (get_or s (p + 2) 0) (p + 4) (opened_by (p + 4) n end))

-- such a pair, with its length as it stands there
pub record Nested (s : List ℕ) (p end n : ℕ) : Type 0 where
  pub octet : n ≡ get_or s (p + 3) 0
  pub pair : Pair s p end n

-- the octet of a constructed context tag whose member is listed, in order and not there twice
pub record NextRule (b row before what : ℕ) : Type 0 where
  pub class : b / 32 ≡ 5
  pub rule : rule_of row (b % 32) ≡ what
  pub order : in_order row before (b % 32) ≡ true
  pub once : again row before (b % 32) ≡ false

-- the first octet of a value that stands at such a member: a universal primitive tag, a set for contents, a collection's tag
pub record Suits (what b n : ℕ) : Type 0 where
  pub plain : what < body → (b < 31) × (n < 128)
  pub contents : what ≡ body → b ≡ octet_of universal set
  pub list : body < what → b ≡ pick (eqb what kids) (octet_of application element_collection) (octet_of universal sequence)

pub record MemberTold (s : List ℕ) (p end k row before what : ℕ) : Type 0 where
  pub room : 2 ≤ k
  pub top : end < 18446744073709551616
  pub pair : Pair s p end (get_or s (p + 3) 0)
  pub rule : NextRule (get_or s p 0) row before what
  pub suits : Suits what (get_or s (p + 2) 0) (get_or s (p + 3) 0)

-- the octet of a context tag whose member is not listed, and in order
pub record Unlisted (b row before : ℕ) : Type 0 where
  pub class : b / 64 ≡ 2
  pub rule : rule_of row (b % 32) ≡ 0
  pub order : in_order row before (b % 32) ≡ true

-- any answer but not_shut is the place after the value of a tag at p, of one octet, with the length l
abbrev pub Pasts : List ℕ → ℕ → ℕ → ℕ → ℕ → ℕ → ℕ → Type 0
Pasts s p b l end k r = (r ≡ not_shut → ⊥) → (passed_at s (short_tag b (p + 2) l end) k ≡ Ok r) × (p < r)

-- `next` is the place after a member at p that is not listed
pub record OverTold (s : List ℕ) (p end k row before next : ℕ) : Type 0 where
  pub inside : p < length s
  pub later : p < next
  pub over : (o : Open) (above : ℕ) → o.end ≡ end → member_at s p o k row above before ≡ Over (after_other row before (get_or s p 0 % 32)) next

-- the octets of an item's tag and of an application tag that names a kind
pub record KindTold (which item b kind : ℕ) : Type 0 where
  pub zero : item ≡ octet_of context item_tag
  pub class : b / 32 ≡ 3
  pub names : kind_in which (b % 32) ≡ kind

pub record ItemTold (s : List ℕ) (p end k which kind : ℕ) : Type 0 where
  pub room : 2 ≤ k
  pub pair : Pair s p end (get_or s (p + 3) 0)
  pub names : KindTold which (get_or s p 0) (get_or s (p + 2) 0) kind
