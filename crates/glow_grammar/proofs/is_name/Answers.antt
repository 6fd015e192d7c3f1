use mathlib.Core.Path.{sym, ap, ◌∙◌}
use Rattle.glow_grammar.specs.Leaf.{is_name}
use Rattle.glow_grammar.proofs.Laws.{name-cut, name-none, name-end, name-letter, name-rest}
use Rattle.glow_grammar.proofs.is_name.Goals as goal

pub returns-then-s-start : goal.returns-then-s-start
returns-then-s-start c = name-end _ _ _ c.if-s-start.true

pub returns-in_default : goal.returns-in_default
returns-in_default c = ap is_name (sym (name-cut _ _ _ _ c.min.ensures)) ∙ name-none _ c.in_default.len_below

pub returns-then-is_letter : goal.returns-then-is_letter
returns-then-is_letter c =
    ap is_name (sym (name-cut _ _ _ _ c.min.ensures)) ∙ name-rest _ c.in-len1-up.len_at_least (c.is_letter.ensures ∙ c.if-is_letter.true)
    ∙ c.no_slash.ensures

pub returns-else-is_letter : goal.returns-else-is_letter
returns-else-is_letter c =
    ap is_name (sym (name-cut _ _ _ _ c.min.ensures)) ∙ name-letter _ (c.is_letter.ensures ∙ c.if-is_letter.false) ∙ sym c.if-is_letter.false
