use Rattle.std.specs.Prelude.{Some}
use Prim.Native.Nat.{ℕ, ◌+◌, ◌-◌, ◌%◌, ◌^◌, ◌≤◌, ◌<◌}
use mathlib.Core.Path.{◌≡◌, sym, ap, ◌∙◌, subst}
use mathlib.Core.Bool.{not}
use native.Mathlib.Omega.{arith}
use lib.Dec.{T}
use lib.Count.{trailing_le}
use lib.Ieee as Ieee
use lib.Ieee.{binary64, size, minus}
use lib.Ieee.Digits.{size-le}
use Rattle.ber_reals.specs.Number.{halvings, halved, odd_part, limit, number}
use Rattle.ber_reals.proofs.Odd.{halvings-lt}
use Rattle.ber_reals.proofs.Doubles.{odd_is}
use Rattle.ber_reals.specs.Pattern.{bits_of}
use Rattle.ber_reals.proofs.Laws.{number-zero, number-wide, number-low, number-high, number-bits, number-no-nan}
use Rattle.ber_reals.proofs.exact.Goals.{After-halved-odd, After-pattern}
use Rattle.ber_reals.proofs.exact.Goals as goal

-- `ber_reals::exact` meets its contract. Assumes nothing.
-- the mantissa made odd
module _ (c : After-halved-odd) where
  some : 0 < c.args.m
  some = omega (arith, c.if-m-eq0.false)

  word : c.args.m < 2 ^ 64
  word = c.ranges.m.fits

  zeros : c.halvings-zeros.result ≡ halvings c.args.m
  zeros = c.halvings-zeros.ensures

  odd : c.halved-odd.result ≡ odd_part c.args.m
  odd = c.halved-odd.ensures ∙ ap (halved c.args.m) zeros

pub returns-then-m-eq0 : goal.returns-then-m-eq0
returns-then-m-eq0 c = number-zero c.args.negative c.args.m (minus c.args.power 16777216) c.if-m-eq0.true

pub halved-odd-requires : goal.halved-odd-requires
halved-odd-requires c =
    let m = c.args.m in
    let some : 0 < m = omega (arith, c.if-m-eq0.false) in
    omega (arith, halvings-lt 64 m some c.ranges.m.fits)

pub returns-then-odd-ge9007199254740992 : goal.returns-then-odd-ge9007199254740992
returns-then-odd-ge9007199254740992 c =
    let a = c.args in
    number-wide a.negative a.m a.power 16777216 (omega (arith, odd (goal.at.returns-then-odd-ge9007199254740992 c).After-halved-odd))

pub overflow_add-raised : goal.overflow_add-raised
overflow_add-raised c = omega (arith, trailing_le 64 c.args.m)

pub returns-then-raised : goal.returns-then-raised
returns-then-raised c =
    let a = c.args in
    number-low a.negative a.m a.power 16777216 (omega arith)

pub overflow_add-bits : goal.overflow_add-bits
overflow_add-bits c = omega (arith, trailing_le 64 c.args.m, size-le c.halved-odd.result 53 (omega arith))

pub returns-then-bits-units : goal.returns-then-bits-units
returns-then-bits-units c =
    let a = c.args in
    let z : c.bits.result ≡ size (odd_part a.m) = c.bits.ensures ∙ ap size (odd (goal.at.returns-then-bits-units c).After-halved-odd) in
    number-high a.negative a.m a.power 16777216 (omega arith)

pub pattern-requires : goal.pattern-requires
pattern-requires c =
    let o : c.halved-odd.result % 2 ≡ 1 = ap (λ (n : ℕ). n % 2) (odd (goal.at.pattern-requires c).After-halved-odd) ∙ odd_is c.args.m (some (goal.at.pattern-requires c).After-halved-odd) (word (goal.at.pattern-requires c).After-halved-odd) in
    (omega arith, size-le c.halved-odd.result 53 (omega arith), omega arith)

-- the bits are those of the double
module _ (c : After-pattern) where
  odd-now : c.halved-odd.result ≡ odd_part c.args.m
  odd-now = c.halved-odd.ensures ∙ ap (halved c.args.m) c.halvings-zeros.ensures

  made : T (not (Ieee.nan_bits binary64 c.pattern.result))
      × (Some (Ieee.of_bits binary64 c.pattern.result) ≡ number c.args.negative c.args.m (minus c.args.power 16777216))
  made =
      let a = c.args in
      let j = a.power + halvings a.m - 16776142 in
      let h : c.halvings-zeros.result ≡ halvings a.m = c.halvings-zeros.ensures in
      let some : 0 < a.m = omega (arith, c.if-m-eq0.false) in
      let n : odd_part a.m < limit = omega (arith, odd-now) in
      let t : a.power + halvings a.m + 1074 ≡ 16777216 + j = omega arith in
      let z : c.bits.result ≡ size (odd_part a.m) = c.bits.ensures ∙ ap size (odd-now) in
      let w : size (odd_part a.m) + j ≤ 2098 = omega arith in
      let e : c.pattern.result ≡ bits_of a.negative (odd_part a.m) j =
      c.pattern.ensures
      ∙ ap (λ (o : ℕ). bits_of a.negative o (a.power + c.halvings-zeros.result - 16776142)) (odd-now)
      ∙ ap (λ (z : ℕ). bits_of a.negative (odd_part a.m) (a.power + z - 16776142)) h in (
        subst (λ (x : ℕ). T (not (Ieee.nan_bits binary64 x))) (sym e) (number-no-nan a.negative a.m a.power 16777216 j some n t w c.ranges.m.fits),
        ap (λ (x : ℕ). Some (Ieee.of_bits binary64 x)) e ∙ number-bits a.negative a.m a.power 16777216 j some n t w c.ranges.m.fits,
      )

pub float_from_bits-result : goal.float_from_bits-result
float_from_bits-result c = (made (goal.at.float_from_bits-result c).After-pattern).0

pub returns : goal.returns
returns c = (made (goal.at.returns c).After-pattern).1
