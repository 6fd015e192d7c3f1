use mathlib.Core.Path.{◌≡◌}
use Prim.Native.Nat.{◌≤◌}
use lib.ListN.{length}
use mathlib.Core.Bool.{true}
use Rattle.desk_crosspoints.specs.Desk.{desk_at}
use Rattle.desk_crosspoints.specs.Crosspoints.{legal}
use Rattle.desk_requests.specs.Steps.{total_of}
use Rattle.desk_calls.specs.Steps.{served_in, left_from, laid_at}
use Rattle.desk_calls.proofs.serve.Given as goal

abbrev pub invariant-loop-i : goal.invariant-loop-i
invariant-loop-i l =
    (served_in (desk_at l.f l.path l.initial.cells) l.rows l.count l.s l.initial.answers ≡ laid_at l.n
    (left_from (desk_at l.f l.path l.cells) l.rows l.count l.s l.i) l.answers)
    × ((l.n ≤ l.i) × ((length l.cells ≡ length l.initial.cells) ×
    ((length l.answers ≡ length l.initial.answers) × ((legal l.f l.cells ≡ true) × (total_of l.f l.cells ≡ l.total)))))
