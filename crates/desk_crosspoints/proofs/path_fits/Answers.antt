use mathlib.Core.Path.{◌∙◌}
use native.Mathlib.Omega.{arith}
use Rattle.desk_crosspoints.proofs.Paths.{numbers-end, numbers-under, numbers-over, numbers_more, path-none, path-long, path-rest}
use Rattle.desk_crosspoints.proofs.path_fits.Goals as goal

pub returns-then-path-lt1 : goal.returns-then-path-lt1
returns-then-path-lt1 c = path-none _ (omega arith)

pub returns-then-path-gt16 : goal.returns-then-path-gt16
returns-then-path-gt16 c = path-long _ (omega arith) (omega arith)

pub loop-n-init : goal.loop-n-init
loop-n-init c = path-rest _ (omega arith) (omega arith)

pub returns-then-n-lt1 : goal.returns-then-n-lt1
returns-then-n-lt1 c = c.loop-n.invariant ∙ numbers-under _ c.loop-n.n-index (omega arith) (omega arith)

pub returns-then-n-gt2147483647 : goal.returns-then-n-gt2147483647
returns-then-n-gt2147483647 c = c.loop-n.invariant ∙ numbers-over _ c.loop-n.n-index (omega arith) (omega arith) (omega arith)

pub loop-n-preserved : goal.loop-n-preserved
loop-n-preserved c = c.loop-n.invariant ∙ numbers_more _ c.loop-n.n-index (omega arith) (omega arith) (omega arith)

pub returns : goal.returns
returns c = c.loop-n.invariant ∙ numbers-end _ c.loop-n.n-index (omega arith)
