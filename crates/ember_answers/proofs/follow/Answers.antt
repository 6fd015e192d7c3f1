use Rattle.ember_answers.proofs.Laws.{next-nothing, next-message}
use Rattle.desk_crosspoints.specs.Crosspoints as crosspoints
use lib.Seq.{length-take-le}
use lib.ListN.{take}
use mathlib.Core.Path.{sym, ap, ◌∙◌}
use Prim.Native.Nat.{ℕ}
use Rattle.ember_answers.proofs.follow.Goals as goal

pub returns-then-number-ne3 : goal.returns-then-number-ne3
unfolding crosspoints.clear
returns-then-number-ne3 c = next-nothing _ _ _ _ c.if-number-ne3.true

pub slice_bounds-message-end : goal.slice_bounds-message-end
slice_bounds-message-end c = sym (length-take-le _ _ c.front-k.ensures.upper_bound)

pub returns : goal.returns
returns c =
    next-message _ _ _ _ c.if-number-ne3.false (c.front-k.ensures.store_value ∙ ap (λ (i : ℕ). take i c.args.store.now) c.index.ensures)
    c.message.ensures
