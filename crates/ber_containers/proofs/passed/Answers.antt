use Rattle.ber_containers.proofs.Laws.{passed-in, passed-skip, onto-later}
use mathlib.Core.Path.{◌∙◌}
use Rattle.ber_containers.proofs.passed.Goals as goal

pub returns-then-t-eq1 : goal.returns-then-t-eq1
returns-then-t-eq1 c = record { k_value = passed-in _ _ _ c.if-t-eq1.true c.within.ensures.through; onto_onward = λ h. c.within.ensures.onto_onward }

pub returns : goal.returns
returns c =
    record {
      k_value = passed-skip _ _ _ c.if-t-eq1.false ∙ c.skip.ensures.t_value;
      onto_onward = λ h. onto-later _ _ c.skip.result h c.skip.ensures.onto_onward;
    }
