-- One law for each answer of `number`, its power of two a difference of two naturals.
use Rattle.std.specs.Prelude.{Some, None}
use Prim.Native.Nat.{ℕ, ◌+◌, ◌^◌, ◌≤◌, ◌<◌}
use mathlib.Core.Path.{◌≡◌, refl, sym, ap, ◌∙◌, subst}
use mathlib.Core.Bool.{Bool, true, false, not, ◌&&◌}
use native.Mathlib.Omega.{arith}
use borrow.Author.Tests.{lt-ltb, le-ltb, le-leb, lt-leb}
use lib.Dec.{T, ltb, leb}
use lib.IntN.{ℤ}
use lib.Ieee as Ieee
use lib.Ieee.{fin, minus, size, binary64}
use Rattle.ber_reals.specs.Number.{halvings, odd_part, odd_power, limit, in_double, number}
use Rattle.ber_reals.proofs.Doubles.{odd_is}
use Rattle.ber_reals.specs.Pattern.{bits_of}
use Rattle.ber_reals.proofs.Patterns.{bits_back, bits-no-nan}
use Rattle.ber_reals.proofs.Powers.{Is, minus_is, add_is, least-is, most-is, one}

pub and-false : (a : Bool) → (a && false) ≡ false
and-false true = refl
and-false false = refl

-- "non-zero mantissa"
pub number-zero : (s : Bool) (m : ℕ) (p : ℤ) → m ≡ 0 → None ≡ number s m p
unfolding number
number-zero s m p h = simp (le-ltb 0 m (omega arith))

-- the rule at a difference
pub rule-at : (n : ℕ) (z : ℤ) (a b : ℕ) → Is z a b → in_double n z ≡ ltb n limit && (leb b (a + 1074) && leb (size n + a) (b + 1024))
unfolding in_double
rule-at n z a b h = rw (least-is z a b h, most-is (size n) z a b h)

module _ (s : Bool) (m a b : ℕ) where
  abbrev odd-at : Is (odd_power m (minus a b)) (a + halvings m) b
  odd-at = add_is (minus a b) (halvings m) a b (minus_is a b)

  pub number-wide : limit ≤ odd_part m → None ≡ number s m (minus a b)
  unfolding number
  number-wide h = simp (rule-at (odd_part m) (odd_power m (minus a b)) (a + halvings m) b odd-at, le-ltb _ _ h, and-false)

  pub number-low : a + halvings m + 1074 < b → None ≡ number s m (minus a b)
  unfolding number
  number-low h = simp (rule-at (odd_part m) (odd_power m (minus a b)) (a + halvings m) b odd-at, lt-leb _ _ h, and-false)

  pub number-high : b + 1024 < size (odd_part m) + (a + halvings m) → None ≡ number s m (minus a b)
  unfolding number
  number-high h = simp (rule-at (odd_part m) (odd_power m (minus a b)) (a + halvings m) b odd-at, lt-leb _ _ h, and-false)

  -- the double, j its power of two counted from -1,074
  module _ (j : ℕ) (some : 0 < m) (narrow : odd_part m < limit) (counted : a + halvings m + 1074 ≡ b + j) (short : size (odd_part m) + j ≤ 2098) where
    pub power_at : minus j 1074 ≡ odd_power m (minus a b)
    power_at =
        let i = odd-at in
        let k : Is (minus j 1074) (a + halvings m) b = (let l = minus_is j 1074 in omega arith) in
        one (minus j 1074) (odd_power m (minus a b)) (a + halvings m) b k i

    pub rule-held : in_double (odd_part m) (odd_power m (minus a b)) ≡ true
    rule-held = rule-at (odd_part m) (odd_power m (minus a b)) (a + halvings m) b odd-at
        ∙ simp (lt-ltb _ _ narrow, le-leb b (a + halvings m + 1074) (omega arith), le-leb (size (odd_part m) + (a + halvings m)) (b + 1024) (omega arith))

    pub number_is : Some (fin s (odd_part m) (odd_power m (minus a b))) ≡ number s m (minus a b)
    unfolding number
    number_is = simp (lt-ltb _ _ some, rule-held)

    -- read from its bits, which are no NaN's
    module _ (word : m < 2 ^ 64) where
      bits_at : bits_of s (odd_part m) j ≡ Ieee.to_bits binary64 (fin s (odd_part m) (odd_power m (minus a b)))
      bits_at = ap (λ (p : ℤ). Ieee.to_bits binary64 (fin s (odd_part m) p)) power_at

      pub number-bits : Some (Ieee.of_bits binary64 (bits_of s (odd_part m) j)) ≡ number s m (minus a b)
      number-bits =
          ap (λ (n : ℕ). Some (Ieee.of_bits binary64 n)) bits_at
          ∙ ap Some (bits_back s (odd_part m) (odd_power m (minus a b)) (odd_is m some word) rule-held)
          ∙ number_is

      pub number-no-nan : T (not (Ieee.nan_bits binary64 (bits_of s (odd_part m) j)))
      number-no-nan =
          subst (λ (n : ℕ). T (not (Ieee.nan_bits binary64 n))) (sym bits_at)
          (bits-no-nan s (odd_part m) (odd_power m (minus a b)) (odd_is m some word) rule-held)
