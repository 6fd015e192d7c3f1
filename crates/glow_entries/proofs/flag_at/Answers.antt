use mathlib.Core.Path.{ap, ◌∙◌}
use Rattle.glow_entries.specs.Member.{flag_of}
use Rattle.glow_entries.proofs.Answers.{flag_is, flag-none}
use Rattle.glow_entries.proofs.flag_at.Goals as goal

pub returns-then-v-eq-BOOLEAN : goal.returns-then-v-eq-BOOLEAN
returns-then-v-eq-BOOLEAN c = flag_is _ c.if-v-eq-BOOLEAN.true ∙ ap flag_of c.cell_in-v.ensures

pub returns : goal.returns
returns c = flag-none _ c.if-v-eq-BOOLEAN.false ∙ ap flag_of c.cell_in-v.ensures
