use Rattle.framing_session.specs.declared.Stepped.{Stepped}
use Prim.Native.Nat.{◌+◌}
use lib.ListN.{set}
use mathlib.Core.Path.{sym, ap, ◌∙◌}
use Rattle.framing_session.proofs.Laws.{keeps-adds, keeps-over}
use Rattle.framing_session.specs.Steps.{gives}
use Rattle.framing_steps.proofs.adds.Goals as goal

pub returns-then-length-lt-CONTENT_LIMIT : goal.returns-then-length-lt-CONTENT_LIMIT
returns-then-length-lt-CONTENT_LIMIT c =
    let s = c.args in
    let p = c.requires in
    keeps-adds s.store.now p.room s.length s.x s.message p.frame p.message c.if-length-lt-CONTENT_LIMIT.true
    ∙ ap (λ (r : Stepped). gives r (set s.store.now (16384 + s.length) s.x)) (sym c.goes.ensures)

pub returns : goal.returns
returns c =
    let s = c.args in
    let p = c.requires in
    keeps-over s.store.now p.room s.length s.x s.message p.frame p.message c.if-length-lt-CONTENT_LIMIT.false
    ∙ ap (λ (r : Stepped). gives r s.store.now) (sym c.goes-2.ensures)
