use Rattle.ber_containers.proofs.Quick.{short-definite, short-open}
use native.Mathlib.Omega.{arith}
use mathlib.Core.Path.{sym, ◌∙◌}
use Rattle.ber_containers.proofs.short.Goals as goal

pub returns-then-s-p : goal.returns-then-s-p
returns-then-s-p c = λ h. absurd (omega arith)

pub returns-then-s-q : goal.returns-then-s-q
returns-then-s-q c = λ h. absurd (omega arith)

pub returns-then-end-q : goal.returns-then-end-q
returns-then-end-q c = λ h. absurd (omega arith)

pub returns-then-b-eq0 : goal.returns-then-b-eq0
returns-then-b-eq0 c = λ h. absurd (omega arith)

pub returns-then-b-eq31 : goal.returns-then-b-eq31
returns-then-b-eq31 c = λ h. absurd (omega arith)

pub returns-then-end-q-2 : goal.returns-then-end-q-2
returns-then-end-q-2 c = λ h. absurd (omega arith)

pub returns-then-l-lt128 : goal.returns-then-l-lt128
returns-then-l-lt128 c =
    λ h. short-definite _ _ _ c.if-s-q.false c.if-end-q.false (omega (arith, c.if-b-eq31.false)) c.if-b-eq0.false c.from-l.ensures c.if-l-lt128.true
    c.if-end-q-2.false

pub returns-then-b-ge32 : goal.returns-then-b-ge32
returns-then-b-ge32 c =
    λ h. short-open _ _ _ c.if-s-q.false c.if-end-q.false (omega (arith, c.if-b-eq31.false)) c.if-b-eq0.false (sym c.from-l.ensures ∙ c.if-l-eq128.true)
    c.if-b-ge32.true

pub returns-else-b-ge32 : goal.returns-else-b-ge32
returns-else-b-ge32 c = λ h. absurd (omega arith)

pub returns-else-l-eq128 : goal.returns-else-l-eq128
returns-else-l-eq128 c = λ h. absurd (omega arith)
