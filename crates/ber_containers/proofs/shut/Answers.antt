use Rattle.ber_containers.proofs.Laws.{standing-ended}
use Rattle.ber_containers.proofs.Quick.{shut-zeros}
use mathlib.Core.Path.{refl}
use native.Mathlib.Omega.{arith}
use Rattle.ber_containers.proofs.shut.Goals as goal

pub returns-then-o-eq1 : goal.returns-then-o-eq1
returns-then-o-eq1 c = λ h. (standing-ended _ _ _ c.if-p-o.true c.if-o-eq1.true, omega arith)

pub returns-then-p-o : goal.returns-then-p-o
returns-then-p-o c = λ h. absurd (h refl)

pub returns-then-o-eq1-2 : goal.returns-then-o-eq1-2
returns-then-o-eq1-2 c = λ h. absurd (h refl)

pub returns-then-s-p : goal.returns-then-s-p
returns-then-s-p c = λ h. absurd (h refl)

pub returns-then-s-p-ne0 : goal.returns-then-s-p-ne0
returns-then-s-p-ne0 c = λ h. absurd (h refl)

pub returns-then-s-q : goal.returns-then-s-q
returns-then-s-q c = λ h. absurd (h refl)

pub returns-then-q-o : goal.returns-then-q-o
returns-then-q-o c = λ h. absurd (h refl)

pub returns-then-s-q-eq0 : goal.returns-then-s-q-eq0
returns-then-s-q-eq0 c =
    λ h. (shut-zeros _ _ _ c.if-p-o.false c.if-o-eq1-2.false c.if-s-q.false c.if-q-o.false c.if-s-p-ne0.false c.if-s-q-eq0.true, omega arith)

pub returns : goal.returns
returns c = λ h. absurd (h refl)
