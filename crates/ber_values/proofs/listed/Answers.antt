use mathlib.Core.Logic.{⊎_elim}
use native.Mathlib.Omega.{arith}
use Rattle.ber_values.proofs.Laws.{listed-small, listed-4, listed-9, listed-12, listed-none}
use Rattle.ber_values.proofs.listed.Goals as goal

pub returns-in_default : goal.returns-in_default
returns-in_default c = listed-none _ (λ e. omega (arith, e)) (λ e. omega (arith, e)) (λ e. omega (arith, e)) (λ e. omega (arith, e)) (λ e. omega (arith, e))

pub returns-in_default-2 : goal.returns-in_default-2
returns-in_default-2 c =
    listed-none _ (λ e. omega (arith, e)) (λ e. omega (arith, e)) (λ e. grind (arith, e)) (λ e. grind (arith, e)) (λ e. grind (arith, e))

pub returns-in-1 : goal.returns-in-1
returns-in-1 c = ⊎_elim (λ e. listed-4 _ e) (λ f. ⊎_elim (λ e. listed-9 _ e) (λ e. listed-12 _ (omega (arith, e))) f) c.in-1.is

pub returns-in-1-2 : goal.returns-in-1-2
returns-in-1-2 c = listed-small _ (omega arith) (omega arith)
