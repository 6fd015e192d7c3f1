use Rattle.supervision_c.specs.Calls.{starts}
use Rattle.supervision_c.specs.Words.{words_of}
use borrow.Author.Tests.{eq-eqb, ne_eqb}
use mathlib.Core.Path.{sym, ap, ◌∙◌}
use Prim.Native.Nat.{ℕ}
use mathlib.Core.List.{List}
use Rattle.supervision_c.proofs.supervision_start.Goals as goal

pub returns-then-link-ne2 : goal.returns-then-link-ne2
unfolding starts
returns-then-link-ne2 c =
    let the-if1 = c.if-link-ne2 in
    simp (ne_eqb _ _ the-if1.true)

pub returns : goal.returns
unfolding starts
returns c =
    let the-if1 = c.if-link-ne2 in
    let the-start = c.start in
    let the-put-link = c.put_link in
    simp (eq-eqb _ _ the-if1.false) (ap (λ (ws : List ℕ). record { number = 0; link = ws }) (sym (the-put-link.ensures ∙ ap words_of the-start.ensures)))
