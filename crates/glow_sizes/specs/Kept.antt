-- The sizes of entries, kept by place: one word an entry, sixteen bits a size.
use Rattle.std.specs.Prelude.{ℕ, suc, ◌+◌, ◌-◌, ◌*◌, ◌^◌, ◌/◌, ◌%◌, ◌≤◌, ◌<◌, ◌≡◌, List, [], length, drop, get_or}
use Rattle.glow_rows.specs.Entry.{Rows}
use Rattle.glow_grammar.specs.Grammar.{children, connections}
use Rattle.glow_trees.specs.Content.{Content, Item, contents_of}
use Rattle.glow_trees.specs.Rows.{cells_from, items_in}
use Rattle.glow_trees.specs.Trees.{Trees, taken_by, trees_of, count}
use Rattle.glow_trees.specs.Legal.{rule_at, inner}
use Rattle.glow_trees.specs.Written.{members_octets, trees_octets}
use Rattle.glow_member_sizes.specs.Sizes.{message_limit}
use Rattle.glow_sizes.specs.declared.Measured.{Measured}
use Rattle.glow_sizes.specs.Sizes.{entry_octets}

-- a kind's rules in one word, four bits a cell
abbrev pub RulesIn : ℕ → ℕ → Type 0
RulesIn kind w = (c : ℕ) → c < 16 → rule_at kind c ≡ w / 2 ^ (4 * c) % 16

-- the trees that stand in a collection from place i on; f is more than the entries that are left
abbrev pub trees_at : List Item → ℕ → ℕ → ℕ → ℕ → Trees
trees_at es f which parent i = (taken_by f which parent i (drop i es)).trees

-- the children of the entry at place i, and its connections
abbrev pub kids_at : List Item → ℕ → ℕ → Trees
kids_at es f i = trees_at es f children (suc i) (suc i)

abbrev pub links_at : List Item → ℕ → ℕ → Trees
links_at es f i = trees_at es f connections (suc i) (suc i + count (kids_at es f i))

abbrev pub kind_at : Rows → ℕ → ℕ
kind_at rows i = get_or (get_or rows i []) 0 0

abbrev pub members_at : List ℕ → Rows → ℕ → List Content
members_at s rows i = contents_of s (cells_from 16 0 (get_or rows i []))

-- four sizes in one word: each is below `one_size`; the second, third and fourth are counted in units
abbrev pub one_size : ℕ
one_size = 65536

abbrev pub inside_unit : ℕ
inside_unit = 65536

abbrev pub kids_unit : ℕ
kids_unit = 4294967296

abbrev pub links_unit : ℕ
links_unit = 281474976710656

-- four sizes in one word
abbrev pub Packed : ℕ → ℕ → ℕ → ℕ → ℕ → Type 0
Packed size inside kids links w =
    (w % one_size ≡ size) × ((w / inside_unit % one_size ≡ inside) × ((w / kids_unit % one_size ≡ kids) × (w / links_unit % one_size ≡ links)))

-- w holds how many octets the entry at place i takes alone, its contents, its children and its connections
pub record Keeps (real : ℕ → List ℕ) (s : List ℕ) (rows : Rows) (n i w : ℕ) : Type 0 where
  pub size : w % one_size ≡ entry_octets real (kind_at rows i) (members_at s rows i)
  pub inside : w / inside_unit % one_size ≡ length (members_octets real 0 (inner (kind_at rows i) (members_at s rows i)))
  pub kids : (f : ℕ) → length (items_in s rows n) - suc i < f → w / kids_unit % one_size ≡ length (trees_octets real (kids_at (items_in s rows n) f i))
  pub links : (f : ℕ) → length (items_in s rows n) - suc i < f → w / links_unit % one_size ≡ length (trees_octets real (links_at (items_in s rows n) f i))

-- after a word was stored at place i, if there is one
pub record Stored (before : List ℕ) (i w : ℕ) (after : List ℕ) : Type 0 where
  pub there : i < length before → get_or after i 0 ≡ w
  pub others : (j : ℕ) → (j ≡ i → ⊥) → get_or after j 0 ≡ get_or before j 0

-- the entries from start up to next are kept, and those before start as they were
pub record Noted (real : ℕ → List ℕ) (s : List ℕ) (rows : Rows) (n start next : ℕ) (before after : List ℕ) : Type 0 where
  pub same : (j : ℕ) → j < start → get_or after j 0 ≡ get_or before j 0
  pub kept : (j : ℕ) → start ≤ j → j < next → j < length before → Keeps real s rows n j (get_or after j 0)

-- what a walk keeps, unless it refuses
abbrev pub Notes : (ℕ → List ℕ) → List ℕ → Rows → ℕ → ℕ → Measured → List ℕ → List ℕ → Type 0
Notes real s rows n start r before after = r.size ≤ message_limit → Noted real s rows n start r.next before after

-- all entries are kept, and the trees in Root's collection take so many octets
pub record Judged (real : ℕ → List ℕ) (s : List ℕ) (rows : Rows) (n root size : ℕ) (before after : List ℕ) : Type 0 where
  pub octets : length (trees_octets real (trees_of root (items_in s rows n)).trees) ≡ size
  pub kept : (j : ℕ) → j < n → j < length before → Keeps real s rows n j (get_or after j 0)
