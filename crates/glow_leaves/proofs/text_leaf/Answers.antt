use Rattle.glow_leaves.proofs.Laws.{text-wrong, text-name, text-free}
use Rattle.glow_grammar.specs.declared.Leaf.TheVariants.{Kept}
use Rattle.glow_rows.specs.declared.Cell.{Cell}
use mathlib.Core.Path.{sym, ap, ◌∙◌}
use Rattle.glow_leaves.proofs.text_leaf.Goals as goal

pub returns-then-not-is_name : goal.returns-then-not-is_name
returns-then-not-is_name c = text-wrong _ _ _ _ _ _ c.if-what-eq-NAME.true (c.is_name.ensures ∙ c.if-not-is_name.true)

pub returns-else-not-is_name : goal.returns-else-not-is_name
returns-else-not-is_name c =
    text-name _ _ _ _ _ _ c.if-what-eq-NAME.true (c.is_name.ensures ∙ c.if-not-is_name.false)
    ∙ ap (λ (v : Cell). Kept v c.args.above) (sym c.cell_of-v.ensures)

pub returns-else-what-eq-NAME : goal.returns-else-what-eq-NAME
returns-else-what-eq-NAME c = text-free _ _ _ _ _ _ c.if-what-eq-NAME.false ∙ ap (λ (v : Cell). Kept v c.args.above) (sym c.cell_of-v.ensures)
