use mathlib.Core.Path.{ap, ◌∙◌}
use Rattle.glow_entries.specs.Member.{part_of}
use Rattle.glow_entries.proofs.Answers.{part-is, part_none}
use Rattle.glow_entries.proofs.part_at.Goals as goal

pub returns-then-v-tag : goal.returns-then-v-tag
returns-then-v-tag c =
    rw (c.index.ensures, c.index-then-v-tag.ensures)
    (part-is _ _ c.if-v-tag.true
    ∙ ap (part_of c.args.tag) c.cell_in-v.ensures)

pub returns : goal.returns
returns c =
    part_none _ _ c.if-v-tag.false
    ∙ ap (part_of c.args.tag) c.cell_in-v.ensures
