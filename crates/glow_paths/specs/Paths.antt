-- The numbers of relative identifiers, and the full paths of entries by content.
use Rattle.std.specs.Prelude.{ℕ, zero, suc, ◌-◌, ◌≤◌, ◌≡◌, List, [], ◌∷◌, ◌++◌, Bool, true, false, length, get_or, leb, ltb, eqb}
use Rattle.base_choices.specs.Choices.{pick, both}
use Rattle.ber_identifiers.specs.declared.Arc.{Arc}
use Rattle.ber_identifiers.specs.declared.Arc.TheVariants.{Number, Range as Over, Refused as NoArc}
use Rattle.ber_identifiers.specs.declared.Oid.{Oid}
use Rattle.ber_identifiers.specs.declared.Oid.TheVariants.{Numbers, Range, Refused}
use Rattle.glow_paths.specs.declared.Step.{Step}
use Rattle.ber_identifiers.specs.Identifier.{Arcs, bad, over, numbers, arcs, arcs_from}
use Rattle.glow_grammar.specs.Grammar.{qualified_parameter, qualified_matrix}
use Rattle.glow_rows.specs.Cell.{integer}
use Rattle.glow_rows.specs.Cell as cell
use Rattle.glow_rows.specs.Place as place
use Rattle.glow_trees.specs.Content.{Content, nothing, word, bytes, wrong, Item, item}

-- A member's number (an integer, universal 2), and the octets of a relative identifier (13). Trees that the reader accepts have what is asked for; else
-- anything serves.
abbrev pub number_of : Content → ℕ
number_of nothing = 0
number_of (word kind w) = pick (eqb kind integer) w 0
number_of (bytes kind bs) = 0
number_of wrong = 0

abbrev pub octets_of : Content → List ℕ
octets_of nothing = []
octets_of (word kind w) = []
octets_of (bytes kind bs) = pick (eqb kind cell.numbers) bs []
octets_of wrong = []

abbrev pub list_of : Arcs → List ℕ
list_of bad = []
list_of over = []
list_of (numbers ns) = ns

-- the numbers of a relative identifier: a path, or the sources of a connection
unfoldable pub numbers_in : List ℕ → List ℕ
numbers_in bs = list_of (arcs bs 0 (length bs))

-- Where they end, from what the reader of identifiers answers: at the octets' end, or 0 where they are none.
abbrev pub end_of : Oid → ℕ → ℕ
end_of (Numbers n) end = end
end_of Range end = 0
end_of Refused end = 0

-- A number and where the next one begins: 0 and the end where there is none.
abbrev pub step_of : Arc → ℕ → Step
step_of (Number n next) end = record { number = n; next = next }
step_of (Over next) end = record { number = 0; next = end }
step_of NoArc end = record { number = 0; next = end }

-- One by one: the numbers from p up to `end` are xs. f is no fewer than the octets left, so it ends nothing early.
abbrev pub Left : List ℕ → ℕ → ℕ → List ℕ → Type 0
Left bs p end xs = (f : ℕ) × ((end - p ≤ f) × (arcs_from bs f p end ≡ numbers xs))

-- The first of xs is n, and the others are those from `next` on.
abbrev pub Goes : List ℕ → ℕ → List ℕ → ℕ → ℕ → Type 0
Goes bs end xs n next = (ys : List ℕ) × ((xs ≡ n ∷ ys) × Left bs next end ys)

-- a qualified element has a full path, any other a number
unfoldable pub is_qualified : ℕ → Bool
is_qualified kind = both (leb qualified_parameter kind) (leb kind qualified_matrix)

abbrev pub member_of : Item → ℕ → Content
member_of e c = get_or e.members c nothing

abbrev pub nobody : Item
nobody = item 0 0 []

-- The full path of the entry whose place and 1 is p, 0 for Root: a qualified element's path, or the path of the parent and then its own number.
-- f is more than the entries above: "A full path has 1 to 16 numbers", and each element adds one.
unfoldable pub path_up : ℕ → List Item → ℕ → List ℕ
path_up zero es p = []
path_up (suc f) es p =
    let e : Item = get_or es (p - 1) nobody in
    pick (both (ltb 0 p) (leb p (length es)))
    (pick (is_qualified e.kind) (numbers_in (octets_of (member_of e place.key))) (path_up f es e.parent ++ (number_of (member_of e place.key) ∷ [])))
    []

abbrev pub full_path : List Item → ℕ → List ℕ
full_path es p = path_up 17 es p

-- two paths
unfoldable pub same : List ℕ → List ℕ → Bool
same [] [] = true
same [] (y ∷ ys) = false
same (x ∷ xs) [] = false
same (x ∷ xs) (y ∷ ys) =
    let rest : Bool = same xs ys in
    pick (eqb x y) rest false

-- the path of the entry whose place and 1 is p, 0 for Root, is this one; "A full path has 1 to 16 numbers", and a longer one is none
unfoldable pub has_path : List Item → ℕ → List ℕ → Bool
has_path es p path = both (leb (length path) 16) (same (full_path es p) path)
