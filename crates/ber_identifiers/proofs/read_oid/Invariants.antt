use Prim.Native.Nat.{ℕ, ◌≤◌, ◌+◌, ◌-◌}
use mathlib.Core.Path.{◌≡◌}
use Rattle.ber_identifiers.specs.Identifier.{judged, arcs_from}
use Rattle.ber_identifiers.proofs.Laws.{tally}
use Rattle.ber_identifiers.proofs.read_oid.Given as goal

abbrev pub invariant-loop-p : goal.invariant-loop-p
invariant-loop-p l =
    (l.at + l.count ≤ l.p) × ((l.p ≤ l.end) × ((f : ℕ) ×
    ((l.end - l.p ≤ f) × (tally l.count l.over (arcs_from l.s f l.p l.end) ≡ judged (arcs_from l.s l.n l.at l.end)))))

abbrev pub decreases-loop-p : goal.decreases-loop-p
decreases-loop-p l = l.end - l.p
