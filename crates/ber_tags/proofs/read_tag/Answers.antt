use Rattle.ber_integers.proofs.Promises.{promised}
use mathlib.Core.Path.{sym, subst, ◌∙◌}
use Rattle.ber_tags.specs.Tag.{NumberWithin}
use Rattle.ber_tags.proofs.Laws.{head-by, head-row}
use Rattle.ber_tags.proofs.read_tag.Goals as goal

pub bounds-s-at : goal.bounds-s-at
bounds-s-at c =
    let w = subst (NumberWithin _ _) c.in-Ok.is
    c.tag_number.ensures.number_within in w.0

pub returns-in-Err : goal.returns-in-Err
returns-in-Err c = promised head-row (head-by _ _ _ (sym c.tag_number.ensures.value ∙ c.in-Err.is))

pub returns-in-Ok : goal.returns-in-Ok
returns-in-Ok c =
    promised head-row (rw c.length_at.ensures at c.headed.ensures
    ∙ head-by _ _ _ (sym c.tag_number.ensures.value ∙ c.in-Ok.is))
