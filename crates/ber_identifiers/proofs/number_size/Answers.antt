use Prim.Native.Nat.{ℕ, ◌≤◌, ◌<◌, ◌+◌, ◌/◌, ◌^◌}
use mathlib.Core.Path.{sym, ap, ◌∙◌}
use native.Mathlib.Omega.{arith}
use Rattle.ber_integers.specs.Digits.{count}
use Rattle.ber_integers.proofs.Radix.{count-least}
use Rattle.ber_tags.proofs.Septets.{length-septets}
use Rattle.ber_identifiers.proofs.number_size.Goals as goal

-- 64 bits are at most ten groups of seven
nine-groups : (v : ℕ) → v < 2 ^ 64 → count 128 (v / 128) ≤ 9
nine-groups v h = count-least 128 (omega arith) (v / 128) (v / 128) 9 (omega arith) (omega arith)

pub overflow_add-result : goal.overflow_add-result
overflow_add-result c = let k = nine-groups c.args.v c.ranges.v.fits in omega arith

pub returns : goal.returns
returns c =
    let k = nine-groups c.args.v c.ranges.v.fits in
    record { value = ap (λ (i : ℕ). i + 1) c.septet_count.ensures ∙ sym (length-septets c.args.v); upper_bound = omega arith }
