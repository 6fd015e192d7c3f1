use mathlib.Core.Path.{◌≡◌, ◌∙◌}
use mir.Val.{to_z, of_z}
use mir.Syntax.{w64}
use borrow.Author.Rules.{rules}
use Rattle.glow_rows.proofs.Values.{int-is}
use Rattle.glow_rows.proofs.int_of.Goals as goal

pub returns : goal.returns
returns c =
    let k : to_z w64 (of_z w64 c.cast_signed.result) ≡ c.cast_signed.result = search rules in
    k ∙ c.cast_signed.ensures ∙ int-is _
