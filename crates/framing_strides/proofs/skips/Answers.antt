use Rattle.framing_strides.proofs.Laws.{reaches-part}
use Rattle.framing_strides.proofs.skips.Goals as goal

pub returns : goal.returns
returns c = λ t l. reaches-part _ _ _ _ _ _ c.requires.0 l c.requires.1 c.run_of.ensures.inside c.run_of.ensures.apart
