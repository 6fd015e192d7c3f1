use Rattle.glow_steps.proofs.Rooted.{top-no, top-ended, top-other, top-missing, top-none, top-root}
use mathlib.Core.Path.{◌∙◌}
use Rattle.glow_steps.proofs.root_of.Goals as goal

pub returns-then-not-is_tag : goal.returns-then-not-is_tag
returns-then-not-is_tag c = top-other _ (c.entering.ensures.k_value ∙ c.in-Here.is) (c.is_tag.ensures ∙ c.if-not-is_tag.true)

pub returns-then-which-eq-NO_ROOT : goal.returns-then-which-eq-NO_ROOT
returns-then-which-eq-NO_ROOT c =
    let h = c.entering.ensures.k_value ∙ c.in-Here.is in
    top-none _ h (c.is_tag.ensures ∙ c.if-not-is_tag.false) (c.first.ensures.k_value ∙ c.in-Ok.is) c.root_kind-which.ensures c.if-which-eq-NO_ROOT.true

pub returns-in-Refused : goal.returns-in-Refused
returns-in-Refused c = top-no _ (c.entering.ensures.k_value ∙ c.in-Refused.is)

pub returns-in-Ended : goal.returns-in-Ended
returns-in-Ended c = top-ended _ (c.entering.ensures.k_value ∙ c.in-Ended.is)

pub returns-in-Err : goal.returns-in-Err
returns-in-Err c =
    let h = c.entering.ensures.k_value ∙ c.in-Here.is in
    top-missing _ h (c.is_tag.ensures ∙ c.if-not-is_tag.false) (c.first.ensures.k_value ∙ c.in-Err.is)

pub returns-else-which-eq-NO_ROOT : goal.returns-else-which-eq-NO_ROOT
returns-else-which-eq-NO_ROOT c =
    let h = c.entering.ensures.k_value ∙ c.in-Here.is in
    top-root _ h (c.is_tag.ensures ∙ c.if-not-is_tag.false) (c.first.ensures.k_value ∙ c.in-Ok.is) c.root_kind-which.ensures c.if-which-eq-NO_ROOT.false
