-- What the functions that write leave in a lent output, for the functions of this crate.
use Rattle.std.specs.Prelude.{ℕ, suc, ◌+◌, ◌-◌, ◌*◌, ◌≤◌, ◌<◌, ◌≡◌, List, [], ◌∷◌, ◌++◌, true, eqb, length, get_or, Some}
use Rattle.base_choices.specs.Choices.{pick}
use Rattle.ber_integers.specs.Digits.{put, outcome}
use Rattle.ber_tags.specs.Write.{length_octets}
use Rattle.glow_rows.specs.Cell.{boolean, integer}
use Rattle.glow_grammar.specs.Grammar.{universal, context, contents_member, set, octet_of}
use Rattle.glow_rows.specs.Entry.{Rows}
use Rattle.glow_trees.specs.Content.{Content, Item, contents_of}
use Rattle.glow_trees.specs.Rows.{cells_from, items_in}
use Rattle.glow_trees.specs.Trees.{Trees, none, tree, count}
use Rattle.glow_trees.specs.Legal.{is_real, suits, suited, inner, legal}
use Rattle.glow_trees.specs.Written.{spelled, member_octets, members_octets, wrapped, own, trees_octets, written_real}
use Rattle.glow_member_sizes.specs.Sizes.{tagged_size}
use Rattle.glow_sizes.specs.Kept.{trees_at, kids_at, links_at, kind_at, members_at, Keeps}
use Rattle.glow_writer.specs.declared.write.Placed.{Placed}

-- Octets of at most 16,384, for which there is room, stand at `at`, and r is the place after them.
unfoldable pub Puts : List ℕ → ℕ → List ℕ → ℕ → List ℕ → Type 0
Puts out at bs r out' = at + length bs ≤ length out → length bs ≤ 16384 → put out at bs ≡ outcome (Some r) out'

-- a tag of one octet and a length
abbrev pub head : ℕ → ℕ → List ℕ
head tag n = tag ∷ length_octets n

-- an outer tag of a context number, and the tag in it, around n octets
unfoldable pub heads : ℕ → ℕ → ℕ → List ℕ
heads number tag n = head (octet_of context 0 + number) (tagged_size n) ++ head tag n

-- an entry's own members, and its contents
unfoldable pub entry_part : ℕ → List Content → List ℕ
entry_part kind xs = members_octets written_real 0 (own kind xs) ++ wrapped contents_member universal set (members_octets written_real 0 (inner kind xs))

-- the members in n cells of a row, from cell c on
abbrev pub row_cells : List ℕ → Rows → ℕ → ℕ → ℕ → List Content
row_cells s rows i n c = contents_of s (cells_from n c (get_or rows i []))

-- what may stand in a message is written: a word, a member by some rule, members, and an entry alone
abbrev pub WordPuts : ℕ → ℕ → List ℕ → ℕ → ℕ → List ℕ → Type 0
WordPuts kind w out at r out' =
    pick (eqb kind boolean) true (pick (eqb kind integer) true (is_real w)) ≡ true → Puts out at (spelled written_real kind w) r out'

abbrev pub MemberPuts : ℕ → Content → List ℕ → ℕ → ℕ → List ℕ → Type 0
MemberPuts number x out at r out' = (what : ℕ) → suits what x ≡ true → Puts out at (member_octets written_real number x) r out'

abbrev pub MembersPut : ℕ → ℕ → List Content → List ℕ → ℕ → ℕ → List ℕ → Type 0
MembersPut kind from xs out at r out' = suited kind from xs ≡ true → Puts out at (members_octets written_real 0 xs) r out'

-- by the octets of its contents
abbrev pub EntryPuts : ℕ → List Content → ℕ → List ℕ → ℕ → ℕ → List ℕ → Type 0
EntryPuts kind xs n out at r out' =
    suited kind 0 xs ≡ true → n ≡ length (members_octets written_real 0 (inner kind xs)) → Puts out at (entry_part kind xs) r out'

-- the tree of the entry at place i, alone
unfoldable pub one_at : List Item → ℕ → ℕ → ℕ → List Content → Trees
one_at es f i kind members = tree kind members (kids_at es f i) (links_at es f i) none

-- Legal trees of at most 16,384 octets are written, and the next entry is the one after theirs.
unfoldable pub ItemsPut : List Item → ℕ → ℕ → ℕ → ℕ → ℕ → List ℕ → ℕ → Placed → List ℕ → Type 0
ItemsPut es which parent k above i out at r out' =
    (f : ℕ) → length es - i < f → legal which k above (trees_at es f which parent i) ≡ true
    → length (trees_octets written_real (trees_at es f which parent i)) ≤ 16384
    → (i + count (trees_at es f which parent i) ≡ r.next) × Puts out at (trees_octets written_real (trees_at es f which parent i)) r.place out'

-- the same of one tree
unfoldable pub ItemPuts : List Item → ℕ → ℕ → ℕ → ℕ → List Content → List ℕ → ℕ → Placed → List ℕ → Type 0
ItemPuts es k above i kind members out at r out' =
    (f which : ℕ) → length es - suc i < f → legal which k above (one_at es f i kind members) ≡ true
    → length (trees_octets written_real (one_at es f i kind members)) ≤ 16384
    → (i + count (one_at es f i kind members) ≡ r.next) × Puts out at (trees_octets written_real (one_at es f i kind members)) r.place out'

-- the same of a collection in its outer tag, by the octets that it holds; an empty one is left out
unfoldable pub InsidePuts : List Item → ℕ → ℕ → ℕ → ℕ → ℕ → ℕ → ℕ → ℕ → List ℕ → ℕ → Placed → List ℕ → Type 0
InsidePuts es which number tag size parent k above i out at r out' =
    (f class inside : ℕ) → length es - i < f → tag ≡ class * 64 + 32 + inside → inside < 31
    → legal which k above (trees_at es f which parent i) ≡ true → length (trees_octets written_real (trees_at es f which parent i)) ≡ size → size ≤ 16384
    → (i + count (trees_at es f which parent i) ≡ r.next)
    × Puts out at (wrapped number class inside (trees_octets written_real (trees_at es f which parent i))) r.place out'

-- by the rows, with the message beside them; whatever the containers that are still allowed, and the path above
abbrev pub ItemsBy : List ℕ → Rows → ℕ → ℕ → ℕ → ℕ → List ℕ → ℕ → Placed → List ℕ → Type 0
ItemsBy s rows n which parent i out at r out' = (k above : ℕ) → ItemsPut (items_in s rows n) which parent k above i out at r out'

abbrev pub ItemBy : List ℕ → Rows → ℕ → ℕ → List ℕ → ℕ → Placed → List ℕ → Type 0
ItemBy s rows n i out at r out' = (k above : ℕ) → ItemPuts (items_in s rows n) k above i (kind_at rows i) (members_at s rows i) out at r out'

abbrev pub InsideBy : List ℕ → Rows → ℕ → ℕ → ℕ → ℕ → ℕ → ℕ → ℕ → List ℕ → ℕ → Placed → List ℕ → Type 0
InsideBy s rows n which number tag size parent i out at r out' =
    (k above : ℕ) → InsidePuts (items_in s rows n) which number tag size parent k above i out at r out'

-- the sizes of all entries are kept
abbrev pub AllKept : List ℕ → Rows → ℕ → List ℕ → Type 0
AllKept s rows n kept = (j : ℕ) → j < n → Keeps written_real s rows n j (get_or kept j 0)
