-- What is written of a number, and a double's fields.
use Prim.Native.Nat.{ℕ, zero, suc, ◌+◌, ◌-◌, ◌/◌, ◌%◌, ◌^◌, ◌<◌}
use mathlib.Core.Path.{◌≡◌, refl, sym, ap, ◌∙◌}
use mathlib.Core.Bool.{Bool, true, false}
use native.Mathlib.Omega.{arith}
use borrow.Author.Tests.{eq-eqb, ne_eqb}
use lib.Dec.{leb}
use lib.IntN.{ℤ, pos}
use lib.Count.{count_trailing_zeros}
use lib.Ieee as Ieee
use lib.Ieee.{nan, inf, fin, binary64, minus}
use Rattle.ber_reals.specs.Number.{halvings, odd_part}
use Rattle.ber_reals.proofs.Odd.{odd-once, halved}
use Rattle.ber_reals.specs.Write.{octets, form, number_octets}

pub number-form : (s : Bool) (m : ℕ) (p : ℤ) → 0 < m → form (fin s m p) ≡ octets (number_octets s m p)
unfolding form
number-form true zero p h = absurd (omega arith)
number-form false zero p h = absurd (omega arith)
number-form true (suc m) p h = refl
number-form false (suc m) p h = refl

-- ---- the value of a bit pattern, by its fields

module _ (n : ℕ) where
  abbrev pub is_negative : Bool
  is_negative = leb 0x8000000000000000 n

  abbrev pub field : ℕ
  field = n % 0x8000000000000000 / 0x10000000000000

  abbrev pub low : ℕ
  low = n % 0x10000000000000

  by-fields : (x : ℕ) → field ≡ x → Ieee.of_bits binary64 n ≡ Ieee.of_fields binary64 is_negative x low
  unfolding Ieee.of_bits
  by-fields x e = ap (λ (y : ℕ). Ieee.of_fields binary64 is_negative y low) e

  pub bits-nan : field ≡ 2047 → (low ≡ 0 → ⊥) → Ieee.of_bits binary64 n ≡ nan
  unfolding Ieee.of_fields
  bits-nan e h = by-fields 2047 e ∙ simp (ne_eqb _ _ h)

  pub bits-inf : field ≡ 2047 → low ≡ 0 → Ieee.of_bits binary64 n ≡ inf is_negative
  unfolding Ieee.of_fields
  bits-inf e h = by-fields 2047 e ∙ simp (eq-eqb _ _ h)

  pub bits-zero : field ≡ 0 → low ≡ 0 → Ieee.of_bits binary64 n ≡ fin is_negative 0 (pos 0)
  unfolding Ieee.of_fields Ieee.odd
  bits-zero e h = by-fields 0 e ∙ rw h

  pub bits_small : field ≡ 0 → Ieee.of_bits binary64 n ≡ Ieee.odd 53 is_negative low 0 1074
  unfolding Ieee.of_fields
  bits_small e = by-fields 0 e

  pub bits-normal : 0 < field → (field ≡ 2047 → ⊥) → Ieee.of_bits binary64 n ≡ Ieee.odd 53 is_negative (0x10000000000000 + low) (field - 1) 1074
  unfolding Ieee.of_fields
  bits-normal h k =
      let e : field ≡ suc (field - 1) = omega arith in
      by-fields (suc (field - 1)) e ∙ simp (ne_eqb (suc (field - 1)) 2047 (λ q. k (e ∙ q)))

-- as an odd mantissa
pub odd-of : (s : Bool) (q k : ℕ) → 0 < q → q < 2 ^ 53 → Ieee.odd 53 s q k 1074 ≡ fin s (odd_part q) (minus (k + halvings q) 1074)
unfolding Ieee.odd
odd-of s zero k h l = absurd (omega arith)
odd-of s (suc q) k h l =
    let a = halved 53 (suc q) h l in
    let b = halved 64 (suc q) h (omega arith) in
    let t : count_trailing_zeros 53 (suc q) ≡ count_trailing_zeros 64 (suc q) =
    (odd-once (suc q / 2 ^ count_trailing_zeros 53 (suc q)) (suc q / 2 ^ count_trailing_zeros 64 (suc q)) (count_trailing_zeros 53 (suc q)) (count_trailing_zeros 64 (suc q)) a.0
    b.0 (a.1 ∙ sym b.1)).1 in
    ap (λ (t : ℕ). fin s (suc q / 2 ^ t) (minus (k + t) 1074)) t
