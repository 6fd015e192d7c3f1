use Rattle.glow_leaves.proofs.Laws.{tally}
use Rattle.glow_grammar.specs.Leaf.{path_leaf}
use Rattle.ber_identifiers.specs.Identifier.{arcs_from}
use mathlib.Core.Path.{◌≡◌}
use Prim.Native.Nat.{ℕ, ◌≤◌, ◌+◌, ◌-◌}
use Rattle.glow_leaves.proofs.path_leaf.Given as goal

abbrev pub invariant-loop-p : goal.invariant-loop-p
invariant-loop-p l = (l.start + l.count ≤ l.p)
    × ((l.p ≤ l.end)
    × ((f : ℕ) × ((l.end - l.p ≤ f) × (tally l.at l.start l.len l.count l.wrong (arcs_from l.s f l.p l.end) ≡ path_leaf l.at l.start l.len
    (arcs_from l.s l.len l.start l.end)))))

abbrev pub decreases-loop-p : goal.decreases-loop-p
decreases-loop-p l = l.end - l.p
