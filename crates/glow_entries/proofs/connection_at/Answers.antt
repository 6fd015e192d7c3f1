use mathlib.Core.Path.{sym, subst}
use Rattle.glow_entries.specs.Record.{ConnectionWords}
use Rattle.glow_entries.proofs.Words.{connection_words}
use Rattle.glow_entries.proofs.connection_at.Goals as goal

pub returns-clause-connection_words : goal.returns-clause-connection_words
returns-clause-connection_words c = subst (ConnectionWords _) (sym c.at.ensures) (connection_words _ c.fits-row)
