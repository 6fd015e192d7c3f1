use mathlib.Core.Path.{sym, ◌∙◌}
use Rattle.glow_paths.proofs.Items.{octets-content}
use Rattle.glow_paths.proofs.Walk.{same-part-is}
use Rattle.glow_paths.proofs.same_part.Goals as goal

pub returns : goal.returns
returns c = same-part-is _ _ _ _ (c.span_of-span.ensures.s_value ∙ sym (octets-content _ _)) c.same_numbers.ensures
