use native.Mathlib.Omega.{arith}
use mathlib.Core.Path.{ap, ◌∙◌}
use Rattle.ber_values.specs.Value.{on_flag, on_number, on_real}
use Rattle.ber_values.proofs.Laws.{kind-bool, kind-int, kind-octets, kind-real, kind-text}
use Rattle.ber_values.proofs.of_kind.Goals as goal

pub returns-in-1 : goal.returns-in-1
returns-in-1 c = c.of_flag.ensures ∙ ap (on_flag _ _) c.read_bool.ensures.is ∙ kind-bool _ _ _ _ _ c.in-1.is

pub returns-in-2 : goal.returns-in-2
returns-in-2 c = c.of_number.ensures ∙ ap (on_number _ _) c.read_int.ensures.is ∙ kind-int _ _ _ _ _ c.in-2.is

pub returns-in-4 : goal.returns-in-4
returns-in-4 c = kind-octets _ _ _ _ _ c.in-4.is

pub returns-in-9 : goal.returns-in-9
returns-in-9 c = c.of_real.ensures ∙ ap (on_real _ _) c.read_real.ensures.is ∙ kind-real _ _ _ _ _ c.in-9.is

pub returns-in_default : goal.returns-in_default
returns-in_default c = kind-text _ _ _ _ _ (λ e. omega (arith, e)) (λ e. omega (arith, e)) (λ e. omega (arith, e)) (λ e. omega (arith, e))
