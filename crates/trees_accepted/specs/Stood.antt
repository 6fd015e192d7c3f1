-- Trees whose kinds stand where the grammar has them: no more is needed for entries to make one tree and no other.
use Rattle.std.specs.Prelude.{ℕ, ◌≡◌, true}
use Rattle.glow_grammar.specs.Grammar.{children, connections}
use Rattle.glow_trees.specs.Trees.{Trees, none, tree, stands_in}

-- in a collection: the first tree's kind may stand in it, its children's among children, its connections' among connections; and so the trees after it
abbrev pub Stood : ℕ → Trees → Type 0
Stood which none = Unit {0}
Stood which (tree kind members kids links rest) = (stands_in which kind ≡ true) × (Stood children kids × (Stood connections links × Stood which rest))
