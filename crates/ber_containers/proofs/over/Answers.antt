use Rattle.ber_containers.proofs.Laws.{cross-ended, through-over}
use Rattle.ber_containers.specs.Progress.{OntoOnward}
use Rattle.ber_containers.specs.Passing.{Through}
use mathlib.Core.Path.{subst, refl}
use Rattle.ber_containers.proofs.over.Goals as goal

pub returns-then-z : goal.returns-then-z
returns-then-z c =
    let z = c.shut-z.ensures c.if-z.true in
    λ h. (through-over _ _ _ _ (cross-ended _ _ _ _ z.0), z.1)

pub returns-in-Ok : goal.returns-in-Ok
returns-in-Ok c = λ h. (subst (Through _ _ _ _) c.in-Ok.is c.within.ensures.through, subst (OntoOnward _) c.in-Ok.is c.within.ensures.onto_onward)

pub returns-in-Err : goal.returns-in-Err
returns-in-Err c = λ h. absurd (h refl)
