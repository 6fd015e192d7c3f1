use mathlib.Core.Path.{◌≡◌, sym, ap, ◌∙◌}
use mir.Val.{to_z, of_z}
use mir.Syntax.{w64}
use Rattle.glow_rows.specs.Cell.{int_of}
use Rattle.glow_entries.specs.declared.Key.TheVariants.{Number}
use Rattle.glow_entries.proofs.Answers.{key-path, key-number}
use borrow.Author.Rules.{rules}
use Rattle.glow_entries.proofs.key_at.Goals as goal

pub returns-then-row-qualified : goal.returns-then-row-qualified
returns-then-row-qualified c =
    rw (c.index.ensures, c.index-then-row-qualified.ensures)
    (key-path _ _ _ c.cell_in-v.ensures c.if-row-qualified.true)

pub returns : goal.returns
returns c =
    let k : to_z w64 (of_z w64 c.int_of.result) ≡ c.int_of.result = search rules in
    ap Number (k ∙ c.int_of.ensures ∙ ap int_of (sym c.number_of.ensures))
    ∙ key-number _ _ _ c.cell_in-v.ensures c.if-row-qualified.false
