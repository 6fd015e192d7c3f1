-- Laws of a double's bits.
use Prim.Native.Nat.{ℕ, ◌+◌, ◌-◌, ◌*◌, ◌/◌, ◌%◌, ◌^◌, ◌≤◌, ◌<◌}
use mathlib.Core.Path.{◌≡◌, sym, ap, ◌∙◌, subst}
use mathlib.Core.Bool.{Bool, true, false, not}
use native.Mathlib.Nat.{mul-div_cancel, mul_assoc, div-one, add-zero, zero-mul}
use native.Mathlib.Omega.{arith}
use lib.Dec.{T, lit≤}
use lib.IntN.{ℤ}
use lib.Pow.{pow-add, pow_pos}
use lib.Ieee as Ieee
use lib.Ieee.{fin, binary64, up, down, minus, size}
use lib.Ieee.Digits.{minus_val}
use lib.Ieee.Fits.{down_pos}
use lib.Ieee.Bits.{of_bits-to_bits, nan_bits_is}
use Rattle.ber_reals.specs.Number.{in_double}
use Rattle.ber_reals.specs.Pattern.{sign_bit, bits_of}
use Rattle.ber_reals.proofs.Odd.{size-shift}
use Rattle.ber_reals.proofs.Doubles.{rule-is}

pub sign_le : (s : Bool) → sign_bit s ≤ 0x8000000000000000
sign_le true = lit≤ tt
sign_le false = lit≤ tt

module _ (s : Bool) (m j : ℕ) where
  units : m * up (minus j 1074) * 2 ^ 1074 / down (minus j 1074) ≡ m * 2 ^ j
  units = ap (λ (x : ℕ). x / down (minus j 1074)) (minus_val m j 1074) ∙ mul-div_cancel (m * 2 ^ j) (down_pos (minus j 1074))

  bits_are : 0 < m → bits_of s m j ≡ sign_bit s + (size m + j - 53) * 2 ^ 52 + m * 2 ^ j / 2 ^ (size m + j - 53)
  unfolding Ieee.to_bits
  bits_are h = ap (λ (n : ℕ). sign_bit s + (size n - 53) * 2 ^ 52 + n / 2 ^ (size n - 53)) units
      ∙ ap (λ (z : ℕ). sign_bit s + (z - 53) * 2 ^ 52 + m * 2 ^ j / 2 ^ (z - 53)) (size-shift m j h)

  pub bits-low : 0 < m → size m + j ≤ 53 → sign_bit s + m * 2 ^ j ≡ bits_of s m j
  bits-low h l =
      let z : size m + j - 53 ≡ 0 = omega arith in
      sym (bits_are h ∙ ap (λ (k : ℕ). sign_bit s + k * 2 ^ 52 + m * 2 ^ j / 2 ^ k) z ∙ simp (zero-mul, add-zero, div-one))

  pub bits-high : 0 < m → size m ≤ 53 → 53 ≤ size m + j → sign_bit s + (size m + j - 53) * 2 ^ 52 + m * 2 ^ (53 - size m) ≡ bits_of s m j
  bits-high h w l =
      let k = size m + j - 53 in
      let e : 53 - size m + k ≡ j = omega arith in
      let d : m * 2 ^ j / 2 ^ k ≡ m * 2 ^ (53 - size m) =
      ap (λ (x : ℕ). m * 2 ^ x / 2 ^ k) (sym e)
      ∙ ap (λ (x : ℕ). m * x / 2 ^ k) (pow-add 2 (53 - size m) k)
      ∙ ap (λ (x : ℕ). x / 2 ^ k) (sym (mul_assoc m (2 ^ (53 - size m)) (2 ^ k)))
      ∙ mul-div_cancel (m * 2 ^ (53 - size m)) (pow_pos k) in
      sym (bits_are h ∙ ap (λ (x : ℕ). sign_bit s + k * 2 ^ 52 + x) d)

-- a double that the rule accepts is what its bits say, and they are no NaN's
module _ (s : Bool) (m : ℕ) (p : ℤ) (o : m % 2 ≡ 1) (held : in_double m p ≡ true) where
  pub bits_back : Ieee.of_bits binary64 (Ieee.to_bits binary64 (fin s m p)) ≡ fin s m p
  bits_back = of_bits-to_bits binary64 (fin s m p) (subst T (sym (rule-is s m p o ∙ held)) tt)

  pub bits-no-nan : T (not (Ieee.nan_bits binary64 (Ieee.to_bits binary64 (fin s m p))))
  unfolding Ieee.is_nan
  bits-no-nan = subst (λ (b : Bool). T (not b)) (sym (nan_bits_is binary64 (Ieee.to_bits binary64 (fin s m p)) ∙ ap Ieee.is_nan bits_back)) tt
