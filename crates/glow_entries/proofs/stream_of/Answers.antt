use Prim.Native.Nat.{ℕ}
use mathlib.Core.Path.{sym, ap, ◌∙◌}
use borrow.Author.Tests.{eq-eqb, ne_eqb}
use Rattle.glow_rows.specs.declared.Cell.{Cell}
use Rattle.glow_entries.specs.Record.{stream_read}
use Rattle.glow_entries.proofs.stream_of.Goals as goal

abbrev kind_of : Cell → ℕ
kind_of v = v.kind

pub returns-then-cell_in-eq-ABSENT : goal.returns-then-cell_in-eq-ABSENT
unfolding stream_read
returns-then-cell_in-eq-ABSENT c = rw (eq-eqb _ _ (sym (ap kind_of c.cell_in.ensures) ∙ c.if-cell_in-eq-ABSENT.true))

pub returns : goal.returns
unfolding stream_read
returns c = rw (ne_eqb _ _ (λ e. c.if-cell_in-eq-ABSENT.false (ap kind_of c.cell_in.ensures ∙ e))) c.read.ensures
