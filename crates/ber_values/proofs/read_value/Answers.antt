use Rattle.ber_integers.proofs.Promises.{promised}
use mathlib.Core.Path.{sym, ap, ◌∙◌}
use Rattle.ber_values.specs.Value.{on_length}
use Rattle.ber_values.proofs.Laws.{answer-row, value-by, value-class, value-constructed, value-primitive}
use Rattle.ber_values.proofs.read_value.Goals as goal

pub returns-then-class-ne0 : goal.returns-then-class-ne0
returns-then-class-ne0 c =
    promised answer-row (value-class _ _ _
    (sym c.read_tag.ensures.is ∙ c.in-Tag.is) c.if-class-ne0.true)

pub returns-then-constructed : goal.returns-then-constructed
returns-then-constructed c =
    promised answer-row (value-constructed _ _ _
    (sym c.read_tag.ensures.is ∙ c.in-Tag.is) c.if-class-ne0.false
    c.if-constructed.true)

pub returns-in-Refused : goal.returns-in-Refused
returns-in-Refused c = promised answer-row (value-by _ _ _ (sym c.read_tag.ensures.is ∙ c.in-Refused.is))

pub returns-in-Definite : goal.returns-in-Definite
returns-in-Definite c =
    promised answer-row (c.read_content.ensures.is ∙ sym (ap (on_length _ _ _ _) c.in-Definite.is)
    ∙ value-primitive _ _ _ (sym c.read_tag.ensures.is
    ∙ c.in-Tag.is) c.if-class-ne0.false
    c.if-constructed.false)

pub returns-in-Indefinite : goal.returns-in-Indefinite
returns-in-Indefinite c =
    promised answer-row (sym (ap (on_length _ _ _ _) c.in-Indefinite.is)
    ∙ value-primitive _ _ _ (sym c.read_tag.ensures.is
    ∙ c.in-Tag.is) c.if-class-ne0.false c.if-constructed.false)
