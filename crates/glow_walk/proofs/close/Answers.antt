use Rattle.std.specs.Prelude.{Err}
use mathlib.Core.Path.{◌≡◌, sym, ◌∙◌}
use borrow.Author.Rules.{rules}
use Rattle.ber_containers.proofs.Laws.{last-ended}
use Rattle.glow_walk.proofs.Ways.{close-no, close_more, close-read}
use Rattle.glow_walk.proofs.close.Goals as goal

pub returns-in_err-next-clause-closes : goal.returns-in_err-next-clause-closes
returns-in_err-next-clause-closes c =
    let e : c.from_residual.result ≡ Err c.in_err-next.field-0.0 = search rules in
    λ a n h. close-no _ _ _ a n h c.in_err-next.was ∙ sym e

pub returns-then-z-clause-closes : goal.returns-then-z-clause-closes
returns-then-z-clause-closes c =
    let z = c.shut-z.ensures c.if-z.true in
    λ a n h. close-read _ _ _ a n h c.in_ok-next.was (last-ended _ _ _ _ z.0)

pub returns-in_err-q-clause-closes : goal.returns-in_err-q-clause-closes
returns-in_err-q-clause-closes c =
    let e : c.from_residual-in_err-q.result ≡ Err c.in_err-q.field-0.0 = search rules in
    λ a n h. close_more _ _ _ a n h c.in_ok-next.was (c.last.ensures.k_value ∙ c.in_err-q.was) ∙ sym e

pub returns-clause-closes : goal.returns-clause-closes
returns-clause-closes c = λ a n h. close-read _ _ _ a n h c.in_ok-next.was (c.last.ensures.k_value ∙ c.in_ok-q.was)
