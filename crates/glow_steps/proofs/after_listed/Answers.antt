use Rattle.glow_steps.proofs.Laws.{listed-set, listed-not}
use native.Mathlib.Omega.{arith}
use mathlib.Core.Path.{refl, ◌∙◌}
use Rattle.glow_steps.proofs.after_listed.Goals as goal

pub returns-then-n-ge16 : goal.returns-then-n-ge16
returns-then-n-ge16 c = record { n_value = λ h. absurd (omega (arith, c.if-n-ge16.true)); value = λ h. refl }

pub returns-then-is_set : goal.returns-then-is_set
returns-then-is_set c =
    record {
      n_value = λ h. listed-set _ _ _ (c.is_set.ensures ∙ c.if-is_set.true) ∙ c.marking.ensures;
      value = λ h. absurd (omega (arith, c.if-n-ge16.false));
    }

pub returns : goal.returns
returns c = record { n_value = λ h. listed-not _ _ _ (c.is_set.ensures ∙ c.if-is_set.false); value = λ h. absurd (omega (arith, c.if-n-ge16.false)) }
