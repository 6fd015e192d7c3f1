use Rattle.glow_grammar.specs.Leaf.{oid_leaf}
use Rattle.glow_grammar.specs.declared.Leaf.TheVariants.{Kept}
use Rattle.glow_rows.specs.declared.Cell.{Cell}
use mathlib.Core.Path.{ap, ◌∙◌}
use Rattle.glow_leaves.proofs.list_leaf.Goals as goal

pub returns-in-Numbers : goal.returns-in-Numbers
returns-in-Numbers c =
    let e = c.in-Numbers.is in
    ap (oid_leaf _ _ _ _) e ∙ ap (λ (v : Cell). Kept v c.args.above) c.numbers_cell.ensures

pub returns-in-Range : goal.returns-in-Range
returns-in-Range c = ap (oid_leaf _ _ _ _) c.in-Range.is

pub returns-in-Refused : goal.returns-in-Refused
returns-in-Refused c = ap (oid_leaf _ _ _ _) c.in-Refused.is
