use Rattle.ber_containers.proofs.Quick.{short-here}
use native.Mathlib.Omega.{arith}
use mathlib.Core.Path.{◌∙◌}
use Rattle.ber_containers.proofs.tag_at.Goals as goal

pub bounds-s-p : goal.bounds-s-p
bounds-s-p c =
    let q = c.short-n.ensures c.if-n-lt129.true in
    omega (arith, q.inside)

pub overflow_add-p : goal.overflow_add-p
overflow_add-p c =
    let q = c.short-n.ensures c.if-n-lt129.true in
    omega (arith, q.inside)

pub short_tag-requires : goal.short_tag-requires
short_tag-requires c = (c.short-n.ensures c.if-n-lt129.true).fits

pub returns-then-n-lt129 : goal.returns-then-n-lt129
returns-then-n-lt129 c = λ h. short-here _ _ _ (c.short-n.ensures c.if-n-lt129.true) c.short_tag.ensures

pub returns-in-Ended : goal.returns-in-Ended
returns-in-Ended c = λ h. absurd (h c.no_tag.ensures)

pub returns-in-Refused : goal.returns-in-Refused
returns-in-Refused c = λ h. absurd (h c.no_tag-in-Refused.ensures)

pub returns-in-Here : goal.returns-in-Here
returns-in-Here c = λ h. c.standing.ensures.end_value ∙ c.in-Here.is
