use Rattle.glow_grammar.specs.Leaf.{number_leaf, value_leaf}
use Rattle.glow_grammar.specs.declared.Leaf.TheVariants.{Kept}
use Rattle.glow_rows.specs.Cell.{cell_of}
use Rattle.glow_rows.specs.declared.Cell.{Cell}
use mir.Syntax.{w64}
use mir.Val.{to_z, of_z}
use mathlib.Core.Path.{◌≡◌, sym, ap, ◌∙◌}
use borrow.Author.Rules.{rules}
use Rattle.glow_leaves.proofs.value_leaf.Goals as goal

pub returns-in-Absent : goal.returns-in-Absent
returns-in-Absent c =
    let a = c.args in
    ap (value_leaf a.s.now a.at a.what a.above) c.in-Absent.is

pub returns-in-Int : goal.returns-in-Int
returns-in-Int c =
    let a = c.args in
    let x = c.in-Int.x in
    let k : to_z w64 (of_z w64 x) ≡ x = search rules in
    ap (value_leaf a.s.now a.at a.what a.above) c.in-Int.is ∙ ap (number_leaf _ _ _) (sym k) ∙ c.number_leaf.ensures

pub returns-in-Real : goal.returns-in-Real
returns-in-Real c =
    let a = c.args in
    let e = c.in-Real.is in
    ap (value_leaf a.s.now a.at a.what a.above) e ∙ ap (λ (v : Cell). Kept v a.above) (ap cell_of (sym e) ∙ sym c.cell_of.ensures)

pub returns-in-Text : goal.returns-in-Text
returns-in-Text c =
    let a = c.args in
    ap (value_leaf a.s.now a.at a.what a.above) c.in-Text.is ∙ c.text_leaf.ensures

pub returns-in-Bool : goal.returns-in-Bool
returns-in-Bool c =
    let a = c.args in
    let e = c.in-Bool.is in
    ap (value_leaf a.s.now a.at a.what a.above) e ∙ ap (λ (v : Cell). Kept v a.above) (ap cell_of (sym e) ∙ sym c.cell_of-in-Bool.ensures)

pub returns-in-Octets : goal.returns-in-Octets
returns-in-Octets c =
    let a = c.args in
    let e = c.in-Octets.is in
    ap (value_leaf a.s.now a.at a.what a.above) e ∙ ap (λ (v : Cell). Kept v a.above) (ap cell_of (sym e) ∙ sym c.cell_of-in-Octets.ensures)
