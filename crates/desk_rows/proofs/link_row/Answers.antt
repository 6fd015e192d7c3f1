use Prim.Native.Nat.{◌<◌, ◌^◌}
use mathlib.Core.Path.{◌≡◌, ◌∙◌}
use mir.Val.{to_z, of_z}
use mir.Syntax.{w64}
use Rattle.desk_rows.proofs.Rows.{link-is}
use borrow.Author.Rules.{rules}
use Rattle.desk_rows.proofs.link_row.Goals as goal

pub returns : goal.returns
returns c =
    let the-int-of = c.int_of in
    let h : c.args.target < 2 ^ 64 = search rules in
    let k : to_z w64 (of_z w64 the-int-of.result) ≡ the-int-of.result = search rules in
    link-is c.args.target _ _ h (k ∙ the-int-of.ensures) _ c.connection_row.ensures
