use mathlib.Core.Path.{refl}
use Rattle.glow_leaves.proofs.Words.{list-told}
use Rattle.glow_leaves.proofs.list_word.Goals as goal

pub returns-in-Numbers : goal.returns-in-Numbers
returns-in-Numbers c = λ h. list-told _ c.in-Numbers.is c.word.ensures

pub returns-in-Range : goal.returns-in-Range
returns-in-Range c = λ h. absurd (h refl)

pub returns-in-Refused : goal.returns-in-Refused
returns-in-Refused c = λ h. absurd (h refl)
