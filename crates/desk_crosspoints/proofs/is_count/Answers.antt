use Rattle.desk_crosspoints.specs.Figures.{side}
use Rattle.desk_crosspoints.proofs.Laws.{is-count-under, is-count-rest}
use Prim.Native.Nat.{ℕ}
use lib.Dec.{leb}
use mathlib.Core.Path.{sym, ap, ◌∙◌}
use borrow.Author.Tests.{lt-leb}
use native.Mathlib.Omega.{arith}
use Rattle.desk_crosspoints.proofs.is_count.Goals as goal

pub returns-then-n-ge1 : goal.returns-then-n-ge1
returns-then-n-ge1 c = is-count-rest _ (omega arith) ∙ ap (λ (x : ℕ). leb x side) (sym c.index.ensures)

pub returns-else-n-ge1 : goal.returns-else-n-ge1
returns-else-n-ge1 c = is-count-under _ (omega arith) ∙ sym (lt-leb 1 c.args.n (omega arith))
