use mathlib.Core.Path.{sym, subst}
use Rattle.glow_entries.specs.Record.{MatrixWords}
use Rattle.glow_entries.proofs.Words.{matrix_words}
use Rattle.glow_entries.proofs.matrix_at.Goals as goal

pub returns-clause-matrix_words : goal.returns-clause-matrix_words
returns-clause-matrix_words c = subst (MatrixWords _) (sym c.at.ensures) (matrix_words _ c.fits-row)
