use Rattle.glow_rows.proofs.Words.{cell_in_lem}
use Rattle.glow_sizes.proofs.Cells.{sum-none, sum_more, sum-is-at, member-most}
use mathlib.Core.Path.{◌∙◌, ap, sym}
use native.Mathlib.Omega.{arith}
use Prim.Native.Nat.{ℕ, ◌-◌, ◌*◌, ◌^◌, ◌/◌, ◌%◌, ◌<◌}
use Rattle.glow_sizes.proofs.cells_size.Goals as goal

pub loop-c-init : goal.loop-c-init
loop-c-init c = let q = c.requires in (q.0, (q.1, (omega arith, λ kind h. sum-none _ _ _ _ _)))

pub rule_in-requires : goal.rule_in-requires
rule_in-requires c =
    let the-loop = c.loop-c in
    let h = the-loop.invariant in
    let w = c.word.ensures in
    omega arith

pub overflow_add-total : goal.overflow_add-total
overflow_add-total c =
    let the-loop = c.loop-c in
    let h = the-loop.invariant in
    let m = member-most _ _ _ _ c.member_size-total.ensures in
    omega (arith, m, h.1.1.0)

pub loop-c-preserved : goal.loop-c-preserved
loop-c-preserved c =
    let the-loop = c.loop-c in
    let h = the-loop.invariant in
    let m = member-most _ _ _ _ c.member_size-total.ensures in
    let l : the-loop.c - 1 < 16 = omega arith in (
      omega arith,
      (
        omega arith,
        (
          omega (arith, m, h.1.1.0, h.1.0),
          λ kind r.
              sum_more _ _ _ _ _ _ _ _ _ _ (omega arith) (h.1.1.1 kind r) (c.cell_at.ensures ∙ cell_in_lem _ _ _ l)
              (r (the-loop.c - 1) l ∙ ap (λ (i : ℕ). c.args.rules / 2 ^ (4 * i) % 16) (sym c.word.ensures) ∙ c.rule_in.ensures)
              c.member_size-total.ensures,
        ),
      ),
    )

pub returns : goal.returns
returns c =
    let the-loop = c.loop-c in
    let h = the-loop.invariant in
    λ kind r. sum-is-at _ _ _ _ _ _ _ _ h.0 c.loop-c-test.false (h.1.1.1 kind r) ∙ c.capped.ensures
