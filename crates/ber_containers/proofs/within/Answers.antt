use Rattle.ber_containers.proofs.Laws.{cross-ended, through-over, onto-later}
use native.Mathlib.Omega.{arith}
use Rattle.ber_containers.proofs.within.Goals as goal

pub returns-then-z : goal.returns-then-z
returns-then-z c =
    let z = c.shut-z.ensures c.if-z.true in
    record {
      through = c.values-p.ensures.by_index _ _ _ (through-over _ _ _ _ (cross-ended _ _ _ _ z.0));
      onto_onward = omega (arith, z.1, c.values-p.ensures.lower_bound);
    }

pub returns : goal.returns
returns c =
    record {
      through = c.values-p.ensures.by_index _ _ _ c.nests.ensures.through;
      onto_onward = onto-later _ _ c.nests.result c.values-p.ensures.lower_bound c.nests.ensures.onto_onward;
    }
