use mathlib.Core.Path.{sym}
use mathlib.Core.Bool.{true≢false}
use Rattle.glow_walk.proofs.is_leaf.Goals as goal

pub returns-then-what-eq-NONE : goal.returns-then-what-eq-NONE
returns-then-what-eq-NONE c = record { fact = λ e. absurd (true≢false (sym e)); body_le_what = λ e n. absurd (n c.if-what-eq-NONE.true) }
