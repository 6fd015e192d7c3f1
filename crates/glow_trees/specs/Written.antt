-- The message of a tree (document 01, "Values"): "The writer uses definite shortest lengths and ascending tags"; what is absent or empty is left out.
-- `real` spells a real's bits; integers, booleans and identifiers have one spelling.
use Rattle.std.specs.Prelude.{ℕ, suc, List, [], ◌∷◌, ◌++◌, Bool, true, false, length, get_or, eqb}
use Rattle.std.specs.Float.Ieee as Ieee
use Rattle.std.specs.Float.{binary64}
use Rattle.base_choices.specs.Choices.{pick}
use Rattle.ber_integers.specs.Integer.{shortest}
use Rattle.ber_reals.specs.Write.{Form, unwritten, octets, form}
use Rattle.ber_tags.specs.Write.{tag_octets, length_octets}
use Rattle.glow_rows.specs.Cell as kinds
use Rattle.glow_grammar.specs.Grammar.{universal, application, context, root_tag, item_tag, contents_member, kids_member, links_member}
use Rattle.glow_grammar.specs.Grammar.{set, sequence, element_collection, applications, contents_of}
unfoldable pub use Rattle.glow_grammar.specs.Grammar.{root_number}
use Rattle.glow_trees.specs.Content.{Content, nothing, word, bytes, wrong, int_of}
use Rattle.glow_trees.specs.Trees.{Trees, none, tree}
use Rattle.glow_trees.specs.Legal.{inner}

-- a tag, its length and what it holds
unfoldable pub tagged : ℕ → Bool → ℕ → List ℕ → List ℕ
tagged class constructed number xs = tag_octets class constructed number ++ (length_octets (length xs) ++ xs)

-- an outer tag of a context number around one value
abbrev pub outer : ℕ → ℕ → Bool → ℕ → List ℕ → List ℕ
outer n class constructed number xs = tagged context true n (tagged class constructed number xs)

-- "non-zero is true; written FF"; integers in fewest octets
unfoldable pub spelled : (ℕ → List ℕ) → ℕ → ℕ → List ℕ
spelled real kind w = pick (eqb kind kinds.boolean) (pick (eqb w 0) (0 ∷ []) (255 ∷ [])) (pick (eqb kind kinds.integer) (shortest (int_of w)) (real w))

-- a member by its context number; an absent one is left out
unfoldable pub member_octets : (ℕ → List ℕ) → ℕ → Content → List ℕ
member_octets real n nothing = []
member_octets real n (word kind w) = outer n universal false kind (spelled real kind w)
member_octets real n (bytes kind bs) = outer n universal false kind bs
member_octets real n wrong = []

-- members from the context number n on, ascending
unfoldable pub members_octets : (ℕ → List ℕ) → ℕ → List Content → List ℕ
members_octets real n [] = []
members_octets real n (x ∷ xs) = member_octets real n x ++ members_octets real (suc n) xs

-- contents or a collection in an outer tag; an empty one is left out
unfoldable pub wrapped : ℕ → ℕ → ℕ → List ℕ → List ℕ
wrapped n class number [] = []
wrapped n class number (x ∷ xs) = outer n class true number (x ∷ xs)

-- the members of an element that stand outside its contents: its number or path; all of a command's, a connection's and a stream entry's
unfoldable pub own : ℕ → List Content → List Content
own kind [] = []
own kind (x ∷ xs) = pick (eqb (contents_of kind) 0) (x ∷ xs) (x ∷ [])

-- "contents 1 (a set), children 2 (an ElementCollection); matrices also connections 5 (a sequence)"; "Item of any collection: 0"
unfoldable pub trees_octets : (ℕ → List ℕ) → Trees → List ℕ
trees_octets real none = []
trees_octets real (tree kind members kids links rest) =
    outer item_tag application true (get_or applications kind 0)
    (members_octets real 0 (own kind members)
    ++ (wrapped contents_member universal set (members_octets real 0 (inner kind members))
    ++ (wrapped kids_member application element_collection (trees_octets real kids) ++ wrapped links_member universal sequence (trees_octets real links))))
    ++ trees_octets real rest

unfoldable pub message_octets : (ℕ → List ℕ) → ℕ → Trees → List ℕ
message_octets real root t = tagged application true root_tag (tagged application true (root_number root) (trees_octets real t))

-- "Written with scale 0, odd mantissa, fewest octets."
abbrev pub form_octets : Form → List ℕ
form_octets unwritten = []
form_octets (octets bs) = bs

unfoldable pub written_real : ℕ → List ℕ
written_real w = form_octets (form (Ieee.of_bits binary64 w))
