use mathlib.Core.Path.{◌≡◌, sym, ap, ◌∙◌}
use mir.Val.{to_z, of_z}
use mir.Syntax.{w64}
use Rattle.glow_rows.specs.Cell.{int_of}
use Rattle.glow_entries.specs.Member.{int_in}
use borrow.Author.Rules.{rules}
use Rattle.glow_entries.proofs.int_at.Goals as goal

pub returns : goal.returns
unfolding int_in
returns c =
    let k : to_z w64 (of_z w64 c.int_of.result) ≡ c.int_of.result = search rules in
    k ∙ c.int_of.ensures ∙ ap int_of (sym c.number_of.ensures) ∙ ap int_in c.cell_in.ensures
