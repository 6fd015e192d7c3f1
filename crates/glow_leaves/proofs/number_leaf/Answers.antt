use native.Mathlib.Omega.{arith}
use Rattle.glow_rows.specs.Cell.{cell_of}
use Rattle.ber_values.specs.declared.Value.TheVariants.{Int}
use mir.Val.{to_z, of_z}
use mir.Syntax.{w64}
use lib.IntN.{ℤ}
use Rattle.glow_leaves.proofs.Laws.{cell-range, number-any, number-out, number_step, number-deep, number-kept}
use Rattle.glow_grammar.specs.declared.Leaf.TheVariants.{Kept}
use Rattle.glow_rows.specs.declared.Cell.{Cell}
use mathlib.Core.Path.{◌≡◌, sym, ap, ◌∙◌}
use Prim.Native.Nat.{◌+◌}
use borrow.Author.Rules.{rules}
use Rattle.glow_leaves.proofs.number_leaf.Goals as goal

pub returns-then-what-eq-ANY : goal.returns-then-what-eq-ANY
returns-then-what-eq-ANY c =
    let x = c.args.x in
    let k : to_z w64 (of_z w64 x) ≡ x = search rules in
    let e = c.cell_of-v.ensures ∙ ap (λ (z : ℤ). cell_of (Int z)) k in
    number-any _ _ _ _ c.if-what-eq-ANY.true ∙ ap (λ (v : Cell). Kept v c.args.above) (sym e)

pub returns-then-not-in_range : goal.returns-then-not-in_range
returns-then-not-in_range c =
    let x = c.args.x in
    let k : to_z w64 (of_z w64 x) ≡ x = search rules in
    let e = c.cell_of-v.ensures ∙ ap (λ (z : ℤ). cell_of (Int z)) k in
    let r = c.in_range.ensures ∙ c.if-not-in_range.true in
    let w = cell-range _ c.ranges.x e r in
    number-out _ _ _ _ c.if-what-eq-ANY.false w

pub returns-then-above-lt16 : goal.returns-then-above-lt16
returns-then-above-lt16 c =
    let x = c.args.x in
    let k : to_z w64 (of_z w64 x) ≡ x = search rules in
    let e = c.cell_of-v.ensures ∙ ap (λ (z : ℤ). cell_of (Int z)) k in
    let r = c.in_range.ensures ∙ c.if-not-in_range.false in
    let w = cell-range _ c.ranges.x e r in
    let q = ap (λ (v : Cell). Kept v (c.args.above + 1)) (sym e) in
    number_step _ _ _ _ c.if-what-eq-ANY.false w c.if-what-eq-STEP.true (omega arith) ∙ q

pub returns-then-what-eq-STEP : goal.returns-then-what-eq-STEP
returns-then-what-eq-STEP c =
    let x = c.args.x in
    let k : to_z w64 (of_z w64 x) ≡ x = search rules in
    let e = c.cell_of-v.ensures ∙ ap (λ (z : ℤ). cell_of (Int z)) k in
    let r = c.in_range.ensures ∙ c.if-not-in_range.false in
    let w = cell-range _ c.ranges.x e r in
    number-deep _ _ _ _ c.if-what-eq-ANY.false w c.if-what-eq-STEP.true (omega arith)

pub returns : goal.returns
returns c =
    let x = c.args.x in
    let k : to_z w64 (of_z w64 x) ≡ x = search rules in
    let e = c.cell_of-v.ensures ∙ ap (λ (z : ℤ). cell_of (Int z)) k in
    let r = c.in_range.ensures ∙ c.if-not-in_range.false in
    let w = cell-range _ c.ranges.x e r in
    let q = ap (λ (v : Cell). Kept v c.args.above) (sym e) in
    number-kept _ _ _ _ c.if-what-eq-ANY.false w c.if-what-eq-STEP.false ∙ q
