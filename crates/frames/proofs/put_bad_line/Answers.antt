use mathlib.Core.Path.{sym, ◌∙◌}
use Rattle.framing_lines.proofs.Laws.{line-whole}
use Rattle.frames.proofs.put_bad_line.Goals as goal

pub returns-clause-bad_line_text_value : goal.returns-clause-bad_line_text_value
returns-clause-bad_line_text_value c = sym (line-whole _ _ c.requires _) ∙ c.put_bad_line.ensures.bad_line_text_value
