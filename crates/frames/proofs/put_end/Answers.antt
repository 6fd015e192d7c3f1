use mathlib.Core.Path.{sym, ◌∙◌}
use Rattle.framing_lines.proofs.Laws.{line-whole}
use Rattle.frames.proofs.put_end.Goals as goal

pub returns-clause-session_value : goal.returns-clause-session_value
returns-clause-session_value c = sym (line-whole _ _ c.requires _) ∙ c.put_end.ensures.session_value
