use Rattle.std.specs.Prelude.{Some}
use mathlib.Core.Path.{◌≡◌, ap, ◌∙◌}
use mathlib.Core.Logic.{⊎_elim}
use mir.Val.{to_z, of_z}
use mir.Syntax.{w64}
use Rattle.glow_entries.specs.Member.{number_of}
use Rattle.glow_entries.proofs.Answers.{number_is, number-long, number-none}
use borrow.Author.Rules.{rules}
use Rattle.glow_entries.proofs.number_at.Goals as goal

pub returns-then-v-eq0 : goal.returns-then-v-eq0
returns-then-v-eq0 c =
    let k : to_z w64 (of_z w64 c.int_of.result) ≡ c.int_of.result = search rules in
    ap Some (k ∙ c.int_of.ensures) ∙ number_is _ c.if-v-eq-INTEGER.true c.if-v-eq0.true ∙ ap number_of c.cell_in-v.ensures

pub returns : goal.returns
returns c =
    ⊎_elim (λ h. number-long c.cell_in-v.result h.0 h.1) (λ h. number-none c.cell_in-v.result h) c.else-v-eq-INTEGER.either
    ∙ ap number_of c.cell_in-v.ensures
