-- A number that was read goes on, and stays within.
use Prim.Native.Nat.{ℕ, ◌≤◌, ◌<◌}
use mathlib.Core.Path.{subst}
use mathlib.Core.Logic.{⊎_elim}
use Rattle.ber_integers.proofs.Radix.{lt-or-le}
use Rattle.ber_identifiers.specs.Identifier.{arc_is, ArcWithin}
use Rattle.ber_identifiers.proofs.Laws.{arc-over, arc-is}

pub arc-within : (p end n next : ℕ) → p < next → next ≤ end → ArcWithin p end (arc_is n next)
arc-within p end n next h k =
    ⊎_elim
    (λ (l : 2147483647 < n). subst (ArcWithin p end) (arc-over n next l) (h, k))
    (λ (l : n ≤ 2147483647). subst (ArcWithin p end) (arc-is n next l) (h, k))
    (lt-or-le 2147483647 n)
