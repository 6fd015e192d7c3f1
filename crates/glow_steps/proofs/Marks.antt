-- The marks of a set's members, one bit each: a mark is set by its own member and by no other.
use Prim.Native.Nat.{ℕ, suc, ◌+◌, ◌-◌, ◌*◌, ◌/◌, ◌%◌, ◌^◌, ◌≤◌, ◌<◌, max}
use mathlib.Core.Path.{◌≡◌, refl, sym, ap, ◌∙◌}
use mathlib.Core.Bool.{true, false}
use mathlib.Core.Logic.{⊎_elim}
use native.Mathlib.Omega.{arith}
use native.Mathlib.Nat.{max-zero, max-eq_right, pow-suc, div-eq_of_lt, zero-div}
use lib.Bits.{bit_or, or_step, or_shr}
use lib.Pow.{pow-lt, pow-add, shl-shr}
use lib.Dec.{eqb}
use borrow.Author.Tests.{eq-eqb}
use Rattle.ber_integers.proofs.Radix.{lt-or-le}
use Rattle.glow_steps.specs.Members.{marked, mark}

-- the lowest bit
or-low : (a b m : ℕ) → max (a % 2) (b % 2) ≡ m → m < 2 → bit_or a b % 2 ≡ m
or-low a b m e h = let q = or_step a b in rw (q, e) (omega arith)

or_set : (a b : ℕ) → b % 2 ≡ 1 → bit_or a b % 2 ≡ 1
or_set a b h = let k : a % 2 ≤ 1 = omega arith in or-low a b 1 (rw h (max-eq_right k)) (omega arith)

or-unset : (a b : ℕ) → b % 2 ≡ 0 → bit_or a b % 2 ≡ a % 2
or-unset a b h = or-low a b (a % 2) (rw h (max-zero (a % 2))) (omega arith)

-- the bits of 2^n
own-bit : (n : ℕ) → 2 ^ n / 2 ^ n ≡ 1
own-bit n = let e : 1 * 2 ^ n ≡ 2 ^ n = omega arith in ap (λ x. x / 2 ^ n) (sym e) ∙ shl-shr 1 n

low_bit : (d k : ℕ) → 2 ^ (suc d + k) / 2 ^ k % 2 ≡ 0
low_bit d k = rw (pow-add 2 (suc d) k, shl-shr (2 ^ suc d) k, pow-suc 2 d) (omega arith)

other-bit : (n k : ℕ) → (k ≡ n → ⊥) → 2 ^ n / 2 ^ k % 2 ≡ 0
other-bit n k h =
    ⊎_elim
    (λ (l : k < n). let e : suc (n - suc k) + k ≡ n = omega arith in ap (λ x. 2 ^ x / 2 ^ k % 2) (sym e) ∙ low_bit (n - suc k) k)
    (λ (l : n ≤ k). let g : n < k = omega arith in rw (div-eq_of_lt (pow-lt g)) refl)
    (lt-or-le k n)

pub marked-own : (m n : ℕ) → marked (mark m n) n ≡ true
unfolding marked mark
marked-own m n = eq-eqb (bit_or m (2 ^ n) / 2 ^ n % 2) 1 (rw (or_shr m (2 ^ n) n) (or_set (m / 2 ^ n) (2 ^ n / 2 ^ n) (rw (own-bit n) refl)))

pub marked_other : (m n k : ℕ) → (k ≡ n → ⊥) → marked (mark m n) k ≡ marked m k
unfolding marked mark
marked_other m n k h = ap (λ x. eqb x 1) (ap (λ x. x % 2) (or_shr m (2 ^ n) k) ∙ or-unset (m / 2 ^ k) (2 ^ n / 2 ^ k) (other-bit n k h))

pub marked-none : (n : ℕ) → marked 0 n ≡ false
unfolding marked
marked-none n = rw (zero-div (2 ^ n)) refl
