use Prim.Native.Nat.{ℕ, ◌≤◌, ◌+◌}
use mathlib.Core.Path.{◌≡◌}
use Rattle.ber_integers.specs.Digits.{count_by, count}
use Rattle.ber_integers.proofs.digit_count.Given as goal

abbrev pub invariant-loop-r : goal.invariant-loop-r
invariant-loop-r l = (l.n + l.r ≤ l.v) × ((f : ℕ) × ((l.r ≤ f) × (l.n + count_by l.base f l.r ≡ count l.base l.v)))

abbrev pub decreases-loop-r : goal.decreases-loop-r
decreases-loop-r l = l.r
