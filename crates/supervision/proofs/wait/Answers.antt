use Rattle.supervision.proofs.Laws.{asks, rests, dies, hopes, stays_dead}
use Rattle.std.proofs.Common.{sym, ◌∙◌, arith}
use Rattle.supervision.proofs.wait.Goals as goal

pub returns-then-gap-ge-SILENCE : goal.returns-then-gap-ge-SILENCE
returns-then-gap-ge-SILENCE c = c.gives.ensures ∙ sym (asks _ _ c.gap.ensures c.in-Silent.is (omega arith))

pub returns-then-gap-ge-SILENCE-2 : goal.returns-then-gap-ge-SILENCE-2
returns-then-gap-ge-SILENCE-2 c = c.dead.ensures ∙ sym (dies _ _ c.gap-in-Asked.ensures c.in-Asked.is (omega arith))

pub returns-else-gap-ge-SILENCE : goal.returns-else-gap-ge-SILENCE
returns-else-gap-ge-SILENCE c = c.gives-in-Silent.ensures ∙ sym (rests _ _ c.gap.ensures c.in-Silent.is (omega arith))

pub returns-else-gap-ge-SILENCE-2 : goal.returns-else-gap-ge-SILENCE-2
returns-else-gap-ge-SILENCE-2 c = c.gives-in-Asked.ensures ∙ sym (hopes _ _ c.gap-in-Asked.ensures c.in-Asked.is (omega arith))

pub returns-in-Dead : goal.returns-in-Dead
returns-in-Dead c = c.dead-in-Dead.ensures ∙ sym (stays_dead _ c.in-Dead.is)
