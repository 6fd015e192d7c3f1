use Rattle.desk_sources.proofs.Sources.{gather_none}
use Rattle.desk_crosspoints.specs.Crosspoints.{clear}
use mathlib.Core.Path.{refl}
use native.Mathlib.Omega.{arith}
use Rattle.desk_sources.proofs.sources_of.Goals as goal

pub returns-then-list-lt-SIDE : goal.returns-then-list-lt-SIDE
returns-then-list-lt-SIDE c = record { handed = λ h. absurd (omega (arith, h)); upper_bound = omega arith }

pub returns-then-index-gt-SIDE : goal.returns-then-index-gt-SIDE
returns-then-index-gt-SIDE c =
    let the-index = c.index in record { handed = λ h. gather_none _ _ _ (omega (arith, the-index.ensures)); upper_bound = omega arith }

pub gather-requires : goal.gather-requires
unfolding clear
gather-requires c = let the-index = c.index in record { sources_le_side = omega (arith, the-index.ensures); side_in_bounds = omega arith; marks_value = refl }

pub returns : goal.returns
returns c = let the-gather = c.gather in record { handed = λ h. the-gather.ensures.handed; upper_bound = omega (arith, the-gather.ensures.upper_bound) }
