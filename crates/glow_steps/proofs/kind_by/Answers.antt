use Rattle.glow_steps.proofs.Quick.{kind-is}
use mathlib.Core.Path.{refl}
use Rattle.glow_steps.proofs.kind_by.Goals as goal

pub returns-then-item-ne-ITEM_OCTET : goal.returns-then-item-ne-ITEM_OCTET
returns-then-item-ne-ITEM_OCTET c = λ h. absurd (h refl)

pub returns-then-b-ne3 : goal.returns-then-b-ne3
returns-then-b-ne3 c = λ h. absurd (h refl)

pub returns : goal.returns
returns c = λ h. kind-is _ _ _ c.if-item-ne-ITEM_OCTET.false c.if-b-ne3.false c.wide.ensures.value c.kind_in.ensures
