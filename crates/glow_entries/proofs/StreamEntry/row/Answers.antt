use mathlib.Core.Path.{◌≡◌, refl, ap, ◌∙◌}
use lib.IntN.{ℤ}
use mir.Val.{to_z, of_z}
use mir.Syntax.{w64}
use Rattle.glow_rows.specs.Cell.{cell, word_of}
use Rattle.glow_rows.specs.Entry.{blanks}
use Rattle.glow_rows.specs.Entry.{with_cell}
use Rattle.glow_entries.specs.Record.{filled, stream_row}
use Rattle.glow_entries.proofs.Answers.{begun-is, put-member}
use borrow.Author.Rules.{rules}
use Rattle.glow_entries.proofs.StreamEntry.row.Goals.{Start}
use Rattle.glow_entries.proofs.StreamEntry.row.Goals as goal

held : (s : Start) → to_z w64 (of_z w64 s.args.self.identifier) ≡ s.args.self.identifier
held s = search rules

pub returns : goal.returns
unfolding stream_row filled with_cell blanks
returns c =
    let i = ap (λ (z : ℤ). cell 2 (word_of z) 0) (held (goal.at.returns c).Start) in
    let r =
    begun-is refl
    c.parent_word.ensures c.begun-row.ensures in
    let r = put-member 0 tt r (c.cell_of.ensures ∙ i) c.put_in.ensures in
    (put-member 1 tt r c.cell_of-2.ensures c.put_in-2.ensures).is
