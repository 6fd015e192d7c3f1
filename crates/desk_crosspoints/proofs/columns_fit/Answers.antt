use Rattle.desk_crosspoints.proofs.Under.{rows_apart}
use Rattle.desk_crosspoints.proofs.Laws.{part_length}
use Rattle.desk_crosspoints.proofs.Sums.{held_none, held_more, held_all}
use mathlib.Core.Path.{refl, sym, ◌∙◌}
use native.Mathlib.Omega.{arith}
use Rattle.desk_crosspoints.proofs.columns_fit.Goals as goal

pub loop-target-init : goal.loop-target-init
loop-target-init c = held_none _ _ _ c.requires.sums_value

pub overflow_mul-from : goal.overflow_mul-from
overflow_mul-from c = omega (arith, rows_apart c.loop-target.target c.args.n c.args.w (omega arith))

pub overflow_add-to : goal.overflow_add-to
overflow_add-to c = omega (arith, rows_apart c.loop-target.target c.args.n c.args.w (omega arith))

pub add_row-requires : goal.add_row-requires
add_row-requires c =
    c.loop-target.invariant.room ∙ sym (part_length _ _ c.loop-target.target (omega (arith, rows_apart c.loop-target.target c.args.n c.args.w (omega arith))))

pub loop-target-preserved : goal.loop-target-preserved
loop-target-preserved c = held_more _ _ c.loop-target.target _ _ _ _ c.loop-target.invariant refl refl c.add_row.auto.sums c.add_row.ensures

pub returns : goal.returns
returns c = held_all _ _ c.loop-target.target _ _ c.loop-target.invariant (omega arith) (omega arith) ∙ c.all_bits.ensures
