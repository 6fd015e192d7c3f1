-- Trees of entries: "an element may hold a collection and a collection holds elements"; a matrix may hold connections.
use Rattle.std.specs.Prelude.{ℕ, zero, suc, ◌+◌, List, [], ◌∷◌, ◌++◌, Bool, true, false, length, get_or, eqb}
use Rattle.base_choices.specs.Choices.{pick}
use Rattle.glow_grammar.specs.Grammar.{holds, children, connections}
use Rattle.glow_trees.specs.Content.{Content, Item, item}

-- the trees of a collection, one after another: kind and members of the first, its children, its connections, and the trees after it
pub data Trees : Type 0 where
  none : Trees
  tree : ℕ → List Content → Trees → Trees → Trees → Trees

-- how many entries they have
unfoldable pub count : Trees → ℕ
count none = 0
count (tree kind members kids links rest) = suc (count kids + (count links + count rest))

-- "Each element, connection and stream entry is one entry, in message order, with its parent's place": an element, then its children, then its
-- connections. The first has the place i; `parent` is the parent's place and 1, 0 for none.
unfoldable pub flat : ℕ → ℕ → Trees → List Item
flat parent i none = []
flat parent i (tree kind members kids links rest) =
    item kind parent members
    ∷ (flat (suc i) (suc i) kids
    ++ (flat (suc i) (suc i + count kids) links
    ++ flat parent (suc i + (count kids + count links)) rest))

-- the kinds that a collection may hold
unfoldable pub among : List ℕ → ℕ → Bool
among [] kind = false
among (x ∷ xs) kind =
    let later : Bool = among xs kind in
    pick (eqb x kind) true later

abbrev pub stands_in : ℕ → ℕ → Bool
stands_in which kind = among (get_or holds which []) kind

-- The other way: the trees that entries make. What stands in a collection, under a parent, from place i on; and the entries after it.
-- f is more than the entries that are left.
pub record Taken : Type 0 where
  pub trees : Trees
  pub rest : List Item

abbrev pub taken : Trees → List Item → Taken
taken trees rest = record { trees = trees; rest = rest }

unfoldable pub stands : ℕ → ℕ → Item → Bool
stands which parent e = pick (eqb e.parent parent) (stands_in which e.kind) false

unfoldable pub taken_by : ℕ → ℕ → ℕ → ℕ → List Item → Taken
taken_by zero which parent i es = taken none es
taken_by (suc f) which parent i [] = taken none []
taken_by (suc f) which parent i (e ∷ es) =
    let kids : Taken = taken_by f children (suc i) (suc i) es in
    let links : Taken = taken_by f connections (suc i) (suc i + count kids.trees) kids.rest in
    let rest : Taken = taken_by f which parent (suc i + (count kids.trees + count links.trees)) links.rest in
    pick (stands which parent e) (taken (tree e.kind e.members kids.trees links.trees rest.trees) rest.rest) (taken none (e ∷ es))

-- the trees of all entries, in Root's collection
unfoldable pub trees_of : ℕ → List Item → Taken
trees_of root es = taken_by (suc (length es)) root 0 0 es
