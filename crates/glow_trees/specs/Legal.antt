-- Which trees the reader accepts, but for their size (document 01, "Glow"). That this is so is a theorem (`reads-back`, `is-legal`).
use Rattle.std.specs.Prelude.{ℕ, zero, suc, ◌-◌, List, [], ◌∷◌, Bool, true, false, not, length, leb, ltb, eqb}
use Rattle.std.specs.Float.Ieee as Ieee
use Rattle.std.specs.Float.{binary64}
use Rattle.base_choices.specs.Choices.{pick, both}
use Rattle.ber_reals.specs.Write.{Form, unwritten, octets, form}
use Rattle.ber_identifiers.specs.Identifier.{Arcs, bad, over, numbers, arcs}
use Rattle.glow_rows.specs.Cell as universal
use Rattle.glow_grammar.specs.Grammar.{any, name, step, path, kids, links, rule_of, required, children, connections}
use Rattle.glow_grammar.specs.Grammar.{root_elements, streams, kids_member, links_member, in_collection}
use Rattle.glow_grammar.specs.Grammar as grammar
use Rattle.glow_grammar.specs.Leaf.{expects, in_range, is_name, is_path}
use Rattle.glow_trees.specs.Content.{Content, nothing, word, bytes, wrong, is_part, is_word, int_of}
use Rattle.glow_trees.specs.Trees.{Trees, none, tree, stands_in}

-- the rule for each cell of a kind: number or path, then the contents' members; of a command, a connection and a stream entry the members
unfoldable pub rule_at : ℕ → ℕ → ℕ
rule_at kind c =
    pick (eqb (grammar.contents_of kind) 0) (rule_of kind c)
    (pick (eqb c 0) (rule_of kind 0) (rule_of (grammar.contents_of kind) (c - 1)))

abbrev pub is_formed : Form → Bool
is_formed unwritten = false
is_formed (octets bs) = true

-- "Minus zero and NaN aren't written", nor read
unfoldable pub is_real : ℕ → Bool
is_real w = pick (Ieee.nan_bits binary64 w) false (is_formed (form (Ieee.of_bits binary64 w)))

-- "Numbers are 1 to 2,147,483,647; .." by the member's rule
unfoldable pub word_suits : ℕ → ℕ → ℕ → Bool
word_suits what kind w =
    pick (eqb kind universal.boolean) (leb w 1) (pick (eqb kind universal.integer) (pick (eqb what any) true (in_range what (int_of w))) (is_real w))

abbrev pub path_suits : Arcs → Bool
path_suits bad = false
path_suits over = false
path_suits (numbers ns) = is_path ns

abbrev pub list_suits : Arcs → Bool
list_suits bad = false
list_suits over = false
list_suits (numbers ns) = true

-- "Identifiers start with a letter or "_" and hold no "/""; "A full path has 1 to 16 numbers"
unfoldable pub part_suits : ℕ → ℕ → List ℕ → Bool
part_suits what kind bs =
    pick (eqb kind universal.numbers) (pick (eqb what path) (path_suits (arcs bs 0 (length bs))) (list_suits (arcs bs 0 (length bs))))
    (pick (eqb what name) (is_name bs) true)

-- whether a member may hold this, by its rule: 0 is no member; words are of 64 bits
unfoldable pub suits : ℕ → Content → Bool
suits what nothing = true
suits what (word kind w) =
    pick (eqb what grammar.no) false (both (is_word kind) (both (ltb w 18446744073709551616) (both (expects what kind) (word_suits what kind w))))
suits what (bytes kind bs) = pick (eqb what grammar.no) false (both (is_part kind) (both (expects what kind) (part_suits what kind bs)))
suits what wrong = false

-- the members from cell c on
unfoldable pub suited : ℕ → ℕ → List Content → Bool
suited kind c [] = true
suited kind c (x ∷ xs) = both (suits (rule_at kind c) x) (suited kind (suc c) xs)

abbrev pub present : Content → Bool
present nothing = false
present (word kind w) = true
present (bytes kind bs) = true
present wrong = true

-- "Number or path, a connection's target and both members of a stream entry are required": the first n
unfoldable pub complete : ℕ → List Content → Bool
complete zero xs = true
complete (suc n) [] = false
complete (suc n) (x ∷ xs) = both (present x) (complete n xs)

-- "over 16 (parents counted)": the numbers of the path with this element's own, by its first member
abbrev pub length_of : Arcs → ℕ
length_of bad = 0
length_of over = 0
length_of (numbers ns) = length ns

abbrev pub path_of : ℕ → ℕ → List Content → ℕ
path_of what above [] = above
path_of what above (nothing ∷ xs) = above
path_of what above (word kind w ∷ xs) = pick (eqb what step) (suc above) above
path_of what above (bytes kind bs ∷ xs) = pick (eqb what path) (length_of (arcs bs 0 (length bs))) above
path_of what above (wrong ∷ xs) = above

unfoldable pub path_after : ℕ → ℕ → List Content → ℕ
path_after kind above xs = path_of (rule_at kind 0) above xs

unfoldable pub empty : List Content → Bool
empty [] = true
empty (x ∷ xs) = both (not (present x)) (empty xs)

-- the members of an element's contents
unfoldable pub inner : ℕ → List Content → List Content
inner kind [] = []
inner kind (x ∷ xs) = pick (eqb (grammar.contents_of kind) 0) [] xs

abbrev pub is_none : Trees → Bool
is_none none = true
is_none (tree kind members kids links rest) = false

-- "At most 64 containers, outer tags among them, open at once": with k still allowed in the collection, an item, its element and a member's outer tag are
-- three, the contents' set and a member in it two more; the items of a collection inside have four less.
-- Children where the element may hold them, and connections.
unfoldable pub legal : ℕ → ℕ → ℕ → Trees → Bool
legal which k above none = true
legal which k above (tree kind members kids' links' rest) =
    both (stands_in which kind)
    (both (eqb (length members) 16)
    (both (leb 3 k)
    (both (suited kind 0 members)
    (both (complete (required kind) members)
    (both (leb (path_after kind above members) 16)
    (both (pick (empty (inner kind members)) true (leb 5 k))
    (both (pick (eqb (rule_of kind kids_member) kids) (legal children (k - 4) (path_after kind above members) kids') (is_none kids'))
    (both (pick (eqb (rule_of kind links_member) links) (legal connections (k - 4) (path_after kind above members) links') (is_none links'))
    (legal which k above rest)))))))))

-- Root's collection: elements or streams
abbrev pub is_root : ℕ → Bool
is_root root = pick (eqb root root_elements) true (eqb root streams)

-- Root, its collection and what stands there
unfoldable pub legal_root : ℕ → Trees → Bool
legal_root root t = both (is_root root) (legal root in_collection 0 t)
