use Prim.Native.Nat.{◌<◌, ◌^◌}
use mathlib.Core.Path.{◌∙◌}
use native.Mathlib.Omega.{arith}
use borrow.Author.Rules.{rules}
use Rattle.glow_paths.proofs.Items.{number-content}
use Rattle.glow_paths.proofs.number_of.Goals as goal

pub returns : goal.returns
returns c =
    let e = c.number_of.ensures in
    let h : c.number_of.result < 2 ^ 64 = search rules in
    λ s. number-content s c.args.v (omega arith) ∙ e
