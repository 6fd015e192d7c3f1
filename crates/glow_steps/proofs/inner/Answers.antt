use Rattle.glow_steps.proofs.Laws.{inner-other, inner-contents, inner-items}
use mathlib.Core.Path.{◌∙◌}
use Rattle.glow_steps.proofs.inner.Goals as goal

pub returns-then-not-is_tag : goal.returns-then-not-is_tag
returns-then-not-is_tag c =
    record {
      after_value = inner-other _ _ _ _ _ (rw (c.inner_class.ensures, c.inner_number.ensures) (c.is_tag.ensures ∙ c.if-not-is_tag.true));
      inner_onward = λ s p w l. tt;
    }

pub returns-then-what-eq-BODY : goal.returns-then-what-eq-BODY
returns-then-what-eq-BODY c =
    record {
      after_value = inner-contents _ _ _ _ _ (rw (c.inner_class.ensures, c.inner_number.ensures) (c.is_tag.ensures ∙ c.if-not-is_tag.false))
          c.if-what-eq-BODY.true;
      inner_onward = λ s p w l. (w, l);
    }

pub returns : goal.returns
returns c =
    record {
      after_value = rw (← c.collection_of.ensures)
          (inner-items _ _ _ _ _ (rw (c.inner_class.ensures, c.inner_number.ensures) (c.is_tag.ensures ∙ c.if-not-is_tag.false))
          c.if-what-eq-BODY.false);
      inner_onward = λ s p w l. (w, l);
    }
