use mathlib.Core.Path.{◌∙◌}
use Rattle.ber_containers.proofs.Laws.{through-stuck}
use Rattle.ber_containers.proofs.stopped.Goals as goal

pub returns-in-Refused : goal.returns-in-Refused
returns-in-Refused c = record { through = c.requires _ (through-stuck _ _ _ _ (c.cross.ensures.k_value ∙ c.in-Refused.is)); onto_onward = tt }

pub returns : goal.returns
returns c = record { through = c.through.ensures.through; onto_onward = c.through.ensures.onto_onward }
