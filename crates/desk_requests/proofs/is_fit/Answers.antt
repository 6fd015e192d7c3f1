use Rattle.desk_requests.proofs.Steps.{size_none, size-some, fits-figures, fits_count, fits-rest}
use Rattle.desk_crosspoints.proofs.Laws.{size_fits}
use native.Mathlib.Omega.{arith}
use lib.Dec.{eqb}
use mathlib.Core.Path.{sym, ap, ◌∙◌}
use Rattle.desk_requests.proofs.is_fit.Goals as goal

pub returns-then-size-eq0 : goal.returns-then-size-eq0
returns-then-size-eq0 c =
    let the_size = c.size-size in
    fits-figures _ _ _ (size_none _ _ the_size.ensures (omega arith))

pub returns-then-n-size : goal.returns-then-n-size
returns-then-n-size c =
    let the_size = c.size-size in
    let the-if2 = c.if-n-size in
    let h = size-some _ _ the_size.ensures (λ e. omega arith) in
    fits_count _ _ _ h (λ e. the-if2.true (e ∙ sym (size_fits _ h) ∙ the_size.ensures))

pub returns : goal.returns
returns c =
    let the_size = c.size-size in
    let the-if2 = c.if-n-size in
    let the-index = c.index in
    let h = size-some _ _ the_size.ensures (λ e. omega arith) in
    fits-rest _ _ _ h (the-if2.false ∙ sym the_size.ensures ∙ size_fits _ h) ∙ ap (eqb _) (sym the-index.ensures)
