use Rattle.glow_leaves.proofs.Bounds.{leaf-bounded}
use Rattle.glow_leaves.proofs.Laws.{leaf-other, leaf-numbers, leaf-value}
use Rattle.glow_grammar.specs.Leaf.{judged, LeafBounded}
use mathlib.Core.Path.{sym, ap, subst, ◌∙◌}
use Rattle.glow_leaves.proofs.read_leaf.Goals as goal

pub returns-then-not-fits : goal.returns-then-not-fits
returns-then-not-fits c = record { above_value = leaf-other _ _ _ _ _ _ _ (c.fits.ensures ∙ c.if-not-fits.true); leaf_bounded = tt }

pub returns-then-number-eq-NUMBERS : goal.returns-then-number-eq-NUMBERS
returns-then-number-eq-NUMBERS c =
    let a = c.args in
    let f = c.fits.ensures ∙ c.if-not-fits.false in
    let e = leaf-numbers _ _ _ _ _ _ _ f c.if-number-eq-NUMBERS.true ∙ c.numbers_at.ensures in
    record { above_value = e; leaf_bounded = subst (LeafBounded a.above) e (leaf-bounded _ _ _ _ _ _ _) }

pub returns : goal.returns
returns c =
    let a = c.args in
    let f = c.fits.ensures ∙ c.if-not-fits.false in
    let g = leaf-value _ _ _ _ _ _ _ f c.if-number-eq-NUMBERS.false in
    let e = g ∙ ap (judged a.s.now a.at a.what a.above) (sym c.read_content.ensures.is) ∙ c.judge.ensures in
    record { above_value = e; leaf_bounded = subst (LeafBounded a.above) e (leaf-bounded _ _ _ _ _ _ _) }
