use Rattle.glow_c.proofs.Laws.{told-next, told-out}
use Rattle.glow_c.proofs.told.Goals as goal

pub returns-in-Some : goal.returns-in-Some
returns-in-Some c = let both = told-next c.args.answer.now c.requires c.in-Some.is c.word.ensures in record { value = both.0; answer_after = both.1 }

pub returns-in-None : goal.returns-in-None
returns-in-None c = let both = told-out c.args.answer.now c.requires c.in-None.is in record { value = both.0; answer_after = both.1 }
