use mathlib.Core.Path.{subst, ◌∙◌}
use native.Mathlib.Omega.{arith}
use Rattle.ber_containers.specs.Progress.{OntoOnward, CrossOnward}
use Rattle.ber_containers.proofs.Laws.{through-over, through-stuck, through-past, through-into, through-in-stuck}
use Rattle.ber_containers.proofs.+through.Goals as goal

pub loop-next-init : goal.loop-next-init
loop-next-init t c = (omega arith, λ x h. h)

pub returns-in-Over : goal.returns-in-Over
returns-in-Over t c =
    let w = subst (CrossOnward _ _) c.in-Over.is c.cross.ensures.cross_onward in
    record {
      through = c.loop-next.invariant.1 _ (through-over _ _ _ _ (c.cross.ensures.k_value ∙ c.in-Over.is));
      onto_onward = omega arith;
    }

pub returns-in-Refused : goal.returns-in-Refused
returns-in-Refused t c =
    record {
      through = c.loop-next.invariant.1 _ (through-stuck _ _ _ _ (c.cross.ensures.k_value ∙ c.in-Refused.is));
      onto_onward = tt;
    }

pub loop-next-smaller-in-Past : goal.loop-next-smaller-in-Past
loop-next-smaller-in-Past t c = let w = subst (CrossOnward _ _) c.in-Past.is c.cross.ensures.cross_onward in omega arith

pub loop-next-preserved-in-Past : goal.loop-next-preserved-in-Past
loop-next-preserved-in-Past t c =
    let w = subst (CrossOnward _ _) c.in-Past.is c.cross.ensures.cross_onward in (
      omega arith,
      λ x h. c.loop-next.invariant.1 x (through-past _ _ _ _ (c.cross.ensures.k_value ∙ c.in-Past.is) w.0 w.1 h),
    )

pub through-requires : goal.through-requires
through-requires t c = let w = subst (CrossOnward _ _) c.in-Into.is c.cross.ensures.cross_onward in omega arith

pub loop-next-smaller : goal.loop-next-smaller
loop-next-smaller t c =
    let w = subst (CrossOnward _ _) c.in-Into.is c.cross.ensures.cross_onward in
    let n = subst (OntoOnward _) c.in-Ok.is c.through.ensures.onto_onward in
    omega arith

pub loop-next-preserved : goal.loop-next-preserved
loop-next-preserved t c =
    let w = subst (CrossOnward _ _) c.in-Into.is c.cross.ensures.cross_onward in
    let n = subst (OntoOnward _) c.in-Ok.is c.through.ensures.onto_onward in
    let i = rw (c.less.ensures, c.in-Ok.is) at c.through.ensures.through in (
      omega arith,
      λ x h. c.loop-next.invariant.1 x (through-into _ _ _ _ (c.cross.ensures.k_value ∙ c.in-Into.is) w i n h),
    )

pub returns-in-Err : goal.returns-in-Err
returns-in-Err t c =
    let w = subst (CrossOnward _ _) c.in-Into.is c.cross.ensures.cross_onward in
    let i = rw (c.less.ensures, c.in-Err.is) at c.through.ensures.through in
    record {
      through = c.loop-next.invariant.1 _ (through-in-stuck _ _ _ _ (c.cross.ensures.k_value ∙ c.in-Into.is) w i);
      onto_onward = tt;
    }
