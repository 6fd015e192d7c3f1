use Prim.Native.Nat.{ℕ, ◌+◌, ◌≤◌}
use mathlib.Core.Path.{◌≡◌, ap, ◌∙◌}
use mathlib.Core.List.{List}
use native.Mathlib.Omega.{arith}
use lib.ListN.{length, take, drop}
use Rattle.ber_integers.proofs.Laws.{length_part}
use Rattle.ber_integers.proofs.Promises.{promised}
use Rattle.ber_values.proofs.Laws.{flag-row, bool-out, bool_held, bool-not}
use Rattle.ber_values.proofs.read_bool.Goals as goal

-- as many octets as were asked for
size : (s octets : List ℕ) (at n : ℕ) → (at + n ≤ length s) × (octets ≡ take n (drop at s)) → length octets ≡ n
size s octets at n held = ap length held.1 ∙ length_part s at n held.0

pub returns-in_err-held : goal.returns-in_err-held
returns-in_err-held c = rw c.from_residual.ensures (promised flag-row (bool-out _ _ _ c.in_err-held.ensures))

pub returns-in-len1 : goal.returns-in-len1
returns-in-len1 c =
    let h = c.in_ok-held.ensures in
    let l = size c.args.s.now c.in_ok-held.field-0.now c.args.at c.args.n h in
    promised flag-row (bool_held c.args.s.now c.args.at c.args.n c.in_ok-held.field-0.now h.0 h.1 (omega arith))

pub returns-in_default : goal.returns-in_default
returns-in_default c =
    let h = c.in_ok-held.ensures in
    let l = size c.args.s.now c.in_ok-held.field-0.now c.args.at c.args.n h in
    promised flag-row (bool-not _ _ _ h.0 (λ e. omega (arith, e)))

pub returns-in_default-2 : goal.returns-in_default-2
returns-in_default-2 c =
    let h = c.in_ok-held.ensures in
    let l = size c.args.s.now c.in_ok-held.field-0.now c.args.at c.args.n h in
    promised flag-row (bool-not _ _ _ h.0 (λ e. omega (arith, e)))
