use mathlib.Core.Path.{sym, ◌∙◌}
use Rattle.framing_lines.proofs.Laws.{event-whole}
use Rattle.frames.proofs.put_event.Goals as goal

pub returns-clause-store_value : goal.returns-clause-store_value
returns-clause-store_value c = sym (event-whole _ _ c.requires.0 _ _ _ c.requires.1) ∙ c.put_event.ensures.store_value
