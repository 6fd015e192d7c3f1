use Rattle.std.specs.Prelude.{Err}
use mathlib.Core.Path.{◌≡◌, sym, ◌∙◌}
use borrow.Author.Rules.{rules}
use Rattle.glow_walk.proofs.Rooted.{finish-no, finish-left, finish-read}
use Rattle.glow_walk.proofs.finish.Goals as goal

pub returns-in_err-next : goal.returns-in_err-next
returns-in_err-next c =
    let e : c.from_residual.result ≡ Err c.in_err-next.field-0.0 = search rules in
    λ a n h. finish-no _ _ a n h c.in_err-next.was ∙ sym e

pub returns-then-next-s : goal.returns-then-next-s
returns-then-next-s c = λ a n h. finish-read _ _ a n h c.in_ok-next.was c.if-next-s.true

pub returns-else-next-s : goal.returns-else-next-s
returns-else-next-s c = λ a n h. finish-left _ _ a n h c.in_ok-next.was c.if-next-s.false
