use native.Mathlib.Omega.{arith}
use mathlib.Core.Path.{sym, subst, ◌∙◌}
use mathlib.Core.Logic.{inl, inr}
use Rattle.ber_identifiers.specs.Identifier.{ArcWithin}
use Rattle.glow_paths.proofs.Numbers.{step_is, goes_number, goes_over, goes-bad}
use Rattle.glow_paths.proofs.next_number.Goals as goal

pub returns-in-Number : goal.returns-in-Number
returns-in-Number c =
    let e = sym c.read_number.ensures.promised.is ∙ c.in-Number.is in
    let w = subst (ArcWithin _ _) c.in-Number.is c.read_number.ensures.arc_within in
    record { end_value = step_is _ _ _ _ e; goes = λ h. goes_number _ _ _ _ _ h e w.0; p_lt_next = λ h. w }

pub returns-in-Range : goal.returns-in-Range
returns-in-Range c =
    elim c.in-Range.is [
      | inl w ↦
          let e = sym c.read_number.ensures.promised.is ∙ w.1 in
          let k = subst (ArcWithin _ _) w.1 c.read_number.ensures.arc_within in
          record { end_value = step_is _ _ _ _ e; goes = λ h. goes_over _ _ _ _ _ _ h e k.0; p_lt_next = λ h. (h, omega arith) }
      | inr w ↦
          let e = sym c.read_number.ensures.promised.is ∙ w in
          record { end_value = step_is _ _ _ _ e; goes = λ h. goes-bad _ _ _ _ _ h e; p_lt_next = λ h. (h, omega arith) }
    ]
