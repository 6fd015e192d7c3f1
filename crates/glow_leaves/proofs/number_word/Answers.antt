use Rattle.std.specs.Prelude.{Some}
use mir.Val.{to_z, of_z}
use mir.Syntax.{w64}
use lib.IntN.{ℤ}
use mathlib.Core.Path.{◌≡◌, refl, sym, ap, ◌∙◌}
use Rattle.glow_leaves.proofs.Words.{number-told}
use borrow.Author.Rules.{rules}
use Rattle.glow_leaves.proofs.number_word.Goals as goal

pub returns-in-None : goal.returns-in-None
returns-in-None c = λ h. absurd (h refl)

pub returns-in-Some : goal.returns-in-Some
returns-in-Some c =
    let x = c.in-Some.x in
    let k : to_z w64 (of_z w64 x) ≡ x = search rules in
    λ h. number-told _ _ (c.in-Some.is ∙ ap (λ (z : ℤ). Some z) (sym k)) (c.word_in.ensures h)
