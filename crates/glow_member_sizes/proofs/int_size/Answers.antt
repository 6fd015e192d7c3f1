use Rattle.ber_integers.specs.Integer.{size_by}
use Rattle.ber_integers.proofs.RoundTrip.{length-shortest}
use Prim.Native.Nat.{ℕ}
use mathlib.Core.Path.{◌≡◌, sym, ap, ◌∙◌}
use lib.Signed.{mag}
use mir.Val.{to_z, of_z}
use mir.Syntax.{w64}
use borrow.Author.Rules.{rules}
use Rattle.glow_member_sizes.proofs.int_size.Goals as goal

pub returns : goal.returns
returns c =
    let k : to_z w64 (of_z w64 c.int_of.result) ≡ c.int_of.result = search rules in
    let m = c.magnitude.ensures.value ∙ ap mag (k ∙ c.int_of.ensures) in
    length-shortest _ ∙ ap (λ (n : ℕ). size_by n n) (sym m) ∙ sym c.size_of.ensures ∙ sym c.word.ensures
