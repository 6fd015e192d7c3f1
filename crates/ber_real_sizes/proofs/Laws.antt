-- The written size of a number, and how many octets its exponent takes.
use Prim.Native.Nat.{ℕ, zero, suc, ◌+◌, ◌*◌, ◌^◌, ◌≤◌, ◌<◌}
use mathlib.Core.Path.{◌≡◌, refl, sym, ap, ◌∙◌, subst}
use mathlib.Core.Logic.{⊎_elim}
use mathlib.Core.Bool.{Bool}
use native.Mathlib.Nat.{pow-suc, pow-le-pow_right}
use native.Mathlib.Omega.{arith}
use lib.ListN.{length, length-append}
use lib.Pow.{pow-add}
use lib.IntN.{ℤ}
use lib.Signed.{mag}
use lib.Ieee.{fin, size}
use Rattle.ber_integers.specs.Integer.{shortest}
use Rattle.ber_integers.proofs.Radix.{lt-or-le, length_digits}
use Rattle.ber_integers.proofs.Sizes.{size_holds, size-least}
use Rattle.ber_integers.proofs.RoundTrip.{length-shortest}
use Rattle.ber_reals.specs.Write.{Form, mantissa_octets}
use Rattle.ber_reals.proofs.WriteLaws.{number-form}
use Rattle.ber_real_sizes.specs.Sizes.{form_octets, written_size, octets_for}

pub written-number : (s : Bool) (m : ℕ) (p : ℤ) → 0 < m → written_size (fin s m p) ≡ 1 + length (shortest p) + octets_for (size m)
unfolding written_size
written-number s m p h =
    let a = length-append (shortest p) (mantissa_octets m) in
    let b = length_digits 256 (omega arith) (octets_for (size m)) m in
    ap (λ (f : Form). length (form_octets f)) (number-form s m p h) ∙ omega arith

-- ---- the exponent's octets

pub power-some : (p : ℤ) → 0 < length (shortest p)
power-some p = let l = length-shortest p in let z = (size_holds (mag p) (mag p) (omega arith)).0 in omega arith

pub power-few : (p : ℤ) (k : ℕ) → 0 < k → mag p * 2 < 256 ^ k → length (shortest p) ≤ k
power-few p k h w = let l = length-shortest p in let z = size-least (mag p) (mag p) k (omega arith) h w in omega arith

pub power-more : (p : ℤ) → 128 ≤ mag p → 2 ≤ length (shortest p)
power-more p h =
    let l = length-shortest p in
    let z : mag p * 2 < 256 ^ length (shortest p) = subst (λ (n : ℕ). mag p * 2 < 256 ^ n) (sym l) (size_holds (mag p) (mag p) (omega arith)).1 in
    ⊎_elim
    (λ (k : length (shortest p) < 2).
    let j : length (shortest p) ≤ 1 = omega arith in
    let w : 256 ^ length (shortest p) ≤ 256 ^ 1 = pow-le-pow_right {n = 256} (omega arith) j in
    absurd (omega arith))
    (λ (k : 2 ≤ length (shortest p)). k)
    (lt-or-le (length (shortest p)) 2)

-- ---- octets as bits

pub bytes : (n : ℕ) → 256 ^ n ≡ 2 ^ (8 * n)
bytes zero = refl
bytes (suc n) =
    let z : 8 * suc n ≡ 8 * n + 8 = omega arith in
    pow-suc 256 n ∙ ap (λ (x : ℕ). x * 256) (bytes n) ∙ sym (ap (λ (x : ℕ). 2 ^ x) z ∙ pow-add 2 (8 * n) 8)
