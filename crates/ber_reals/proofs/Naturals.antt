-- What a natural number that was read says, at plain variables.
use Rattle.std.specs.Prelude.{Option, Some, None}
use Prim.Native.Nat.{ℕ, ◌+◌, ◌≤◌}
use mathlib.Core.Path.{◌≡◌, sym, ◌∙◌}
use mathlib.Core.List.{List}
use native.Mathlib.Omega.{arith}
use lib.ListN.{length, take, drop}
use Rattle.ber_integers.specs.Digits.{natural}
use Rattle.ber_integers.specs.Integer.{unsigned_at}
use Rattle.ber_integers.proofs.Laws.{unsigned_is}

same : (r : Option ℕ) (x v : ℕ) → r ≡ Some x → Some v ≡ r → x ≡ v
same r x v p q = cc

never : (r : Option ℕ) (v : ℕ) → r ≡ None → Some v ≡ r → ⊥
never r v p q = let z : ◌≡◌ {A = ℕ} 0 1 = cc in omega arith

module _ (s : List ℕ) (at n : ℕ) (few : n ≤ 8) (within : at + n ≤ length s) (r : Option ℕ) (read : r ≡ unsigned_at s at n) where
  pub read-value : (x : ℕ) → r ≡ Some x → x ≡ natural (take n (drop at s))
  read-value x e = same r x (natural (take n (drop at s))) e (unsigned_is s at n few within ∙ sym read)

  pub read-never : r ≡ None → ⊥
  read-never e = never r (natural (take n (drop at s))) e (unsigned_is s at n few within ∙ sym read)
