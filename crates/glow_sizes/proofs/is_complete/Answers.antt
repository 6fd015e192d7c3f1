use Rattle.glow_sizes.proofs.Places.{keyed-none, keyed-no, keyed-one, keyed-two}
use lib.Dec.{eqb}
use mathlib.Core.Bool.{not}
use mathlib.Core.Path.{◌∙◌, ap, sym}
use Rattle.glow_sizes.proofs.is_complete.Goals as goal

pub returns-then-n-eq0 : goal.returns-then-n-eq0
returns-then-n-eq0 c = keyed-none _ _ (c.required_of-n.ensures ∙ c.if-n-eq0.true)

pub returns-then-word_at-eq-ABSENT : goal.returns-then-word_at-eq-ABSENT
returns-then-word_at-eq-ABSENT c = keyed-no _ _ (λ e. c.if-n-eq0.false (sym c.required_of-n.ensures ∙ e)) (sym c.word_at.ensures ∙ c.if-word_at-eq-ABSENT.true)

pub returns-then-n-eq1 : goal.returns-then-n-eq1
returns-then-n-eq1 c =
    keyed-one _ _ (λ e. c.if-n-eq0.false (sym c.required_of-n.ensures ∙ e)) (λ e. c.if-word_at-eq-ABSENT.false (c.word_at.ensures ∙ e))
    (c.required_of-n.ensures ∙ c.if-n-eq1.true)

pub returns : goal.returns
returns c =
    keyed-two _ _ (λ e. c.if-n-eq0.false (sym c.required_of-n.ensures ∙ e)) (λ e. c.if-word_at-eq-ABSENT.false (c.word_at.ensures ∙ e))
    (λ e. c.if-n-eq1.false (sym c.required_of-n.ensures ∙ e)) ∙ ap (λ x. not (eqb x 0)) (sym c.word_at-2.ensures)
