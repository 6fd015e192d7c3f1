use mathlib.Core.Path.{◌≡◌, refl, ap, ◌∙◌}
use lib.IntN.{ℤ}
use mir.Syntax.{w64}
use mir.Val.{to_z, of_z}
use Rattle.ber_values.specs.declared.Value.TheVariants.{Int}
use Rattle.glow_rows.specs.Cell.{cell_of}
use Rattle.glow_leaves.proofs.Words.{word-any, word_kept}
use borrow.Author.Rules.{rules}
use Rattle.glow_leaves.proofs.word_in.Goals as goal

pub returns-then-what-eq-ANY : goal.returns-then-what-eq-ANY
returns-then-what-eq-ANY c =
    let x = c.args.x in
    let k : to_z w64 (of_z w64 x) ≡ x = search rules in
    let e = c.cell_of-v.ensures ∙ ap (λ (z : ℤ). cell_of (Int z)) k in
    λ h. word-any _ _ e c.if-what-eq-ANY.true

pub returns-then-in_range : goal.returns-then-in_range
returns-then-in_range c =
    let x = c.args.x in
    let k : to_z w64 (of_z w64 x) ≡ x = search rules in
    let e = c.cell_of-v.ensures ∙ ap (λ (z : ℤ). cell_of (Int z)) k in
    λ h. word_kept _ _ e c.if-what-eq-ANY.false c.ranges.x (c.in_range.ensures ∙ c.if-in_range.true)

pub returns : goal.returns
returns c = λ h. absurd (h refl)
