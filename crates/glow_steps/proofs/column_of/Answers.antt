use Rattle.glow_steps.proofs.Laws.{column-set, column-not}
use native.Mathlib.Omega.{arith}
use mathlib.Core.Path.{refl, ◌∙◌}
use Rattle.glow_steps.proofs.column_of.Goals as goal

pub returns-then-n-ge16 : goal.returns-then-n-ge16
returns-then-n-ge16 c = record { n_value = λ h. absurd (omega (arith, c.if-n-ge16.true)); value = λ h. refl }

pub returns-then-is_set : goal.returns-then-is_set
returns-then-is_set c =
    record {
      n_value = λ h. rw c.index.ensures (column-set _ 0 _ (c.is_set.ensures ∙ c.if-is_set.true));
      value = λ h. absurd (omega (arith, c.if-n-ge16.false));
    }

pub returns : goal.returns
returns c =
    record {
      n_value = λ h. rw c.index-2.ensures (column-not _ 0 _ (c.is_set.ensures ∙ c.if-is_set.false));
      value = λ h. absurd (omega (arith, c.if-n-ge16.false));
    }
